use mathlib.Core.Path.{refl, sym}
use Rattle.std.proofs.lemmas.Result.{err_from_is_err_and}
use Rattle.floor.proofs.Refusing.{refusing}
use Rattle.barge_calls.proofs.Answers.{begun}
use Rattle.barge_calls.proofs.RunningChanges.{stop_begins, stop_refused, stop_accepted}
use Rattle.barge_calls.proofs.stop_on.Goals as goal

pub returns-in_err-begun : goal.returns-in_err-begun
returns-in_err-begun c =
    let p = err_from_is_err_and c.from_residual.result c.from_residual.ensures.1 in
    rw (p.1, p.2) (stop_begins c.args.barge.now c.args.floor c.args.tile _ (rw c.in_err-begun.was at c.requires) (refusing c.in_err-begun.field-0.0))

pub bounds-barge-k : goal.bounds-barge-k
bounds-barge-k c = (begun c.args.barge.now c.args.floor 0 (rw c.in_ok-begun.was at c.requires) refl).named

pub test_stop-requires : goal.test_stop-requires
test_stop-requires c = (begun c.args.barge.now c.args.floor 0 (rw c.in_ok-begun.was at c.requires) refl).well

pub returns-in_err-test_stop : goal.returns-in_err-test_stop
returns-in_err-test_stop c =
    let p = err_from_is_err_and c.from_residual-in_err-test_stop.result c.from_residual-in_err-test_stop.ensures.1 in
    rw (p.1, p.2) (stop_refused c.args.barge.now c.args.floor c.args.tile (begun c.args.barge.now c.args.floor 0 (rw c.in_ok-begun.was at c.requires) refl) _ c.in_err-test_stop.ensures (refusing c.in_err-test_stop.field-0.0))

pub bounds-barge-k-2 : goal.bounds-barge-k-2
bounds-barge-k-2 c = (begun c.args.barge.now c.args.floor 0 (rw c.in_ok-begun.was at c.requires) refl).named

pub stopped_floor-requires : goal.stopped_floor-requires
stopped_floor-requires c = ((begun c.args.barge.now c.args.floor 0 (rw c.in_ok-begun.was at c.requires) refl).well, sym c.in_ok-test_stop.ensures)

pub bounds-barge-k-3 : goal.bounds-barge-k-3
bounds-barge-k-3 c = (begun c.args.barge.now c.args.floor 0 (rw c.in_ok-begun.was at c.requires) refl).named

pub returns : goal.returns
returns c = stop_accepted c.args.barge.now c.args.floor c.args.tile (begun c.args.barge.now c.args.floor 0 (rw c.in_ok-begun.was at c.requires) refl) 0 c.in_ok-test_stop.ensures refl c.stopped_floor.result c.stopped_floor.ensures
