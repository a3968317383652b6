use mathlib.Core.Path.{refl}
use Rattle.floor.specs.Calls.{zero_report}
use Rattle.floor.proofs.Refusing.{refusing}
use Rattle.barge.proofs.Sized.{floors_length}
use Rattle.barge_parts.proofs.Joint.{begun_on}
use Rattle.barge_calls.proofs.Answers.{round_begins, round_done}
use Rattle.barge_calls.proofs.round.Goals as goal

pub bounds-changed-k : goal.bounds-changed-k
bounds-changed-k c = (begun_on c.args.barge c.args.floor 0 (floors_length c.args.barge _ c.well_formed.0) c.in-Ok.ensures.number refl).named

pub run_round-answer-requires : goal.run_round-answer-requires
run_round-answer-requires c = (begun_on c.args.barge c.args.floor 0 (floors_length c.args.barge _ c.well_formed.0) c.in-Ok.ensures.number refl).well

pub bounds-changed-k-in-Ok : goal.bounds-changed-k-in-Ok
bounds-changed-k-in-Ok c = (begun_on c.args.barge c.args.floor 0 (floors_length c.args.barge _ c.well_formed.0) c.in-Ok.ensures.number refl).named

pub returns-in-Ok : goal.returns-in-Ok
returns-in-Ok c = round_done _ _ (begun_on c.args.barge c.args.floor 0 (floors_length c.args.barge _ c.well_formed.0) c.in-Ok.ensures.number refl) 0 refl c.run_round-answer.result c.run_round-answer.ensures

pub returns-in-Err : goal.returns-in-Err
unfolding zero_report
returns-in-Err c = rw c.from-refusal.ensures (round_begins _ _ _ c.in-Err.ensures.number (refusing c.in-Err.why))
