use mathlib.Core.Path.{refl, sym}
use Rattle.floor.proofs.Refusing.{refusing}
use Rattle.floor.proofs.Well.{pass_of}
use Rattle.calls.proofs.Answers.{fresh_refused, fresh_accepted}
use Rattle.calls.proofs.fresh.Goals as goal

pub returns-in-Err : goal.returns-in-Err
returns-in-Err c = rw c.from.ensures (fresh_refused c.args.settings c.zero_floor.result _ c.in-Err.ensures (refusing c.in-Err.why) c.zero_floor.ensures)

pub fresh_floor-requires : goal.fresh_floor-requires
fresh_floor-requires c = pass_of c.args.settings 0 c.in_default.ensures refl

pub returns : goal.returns
returns c = fresh_accepted c.args.settings c.fresh_floor.result (sym c.in_default.ensures) c.fresh_floor.ensures
