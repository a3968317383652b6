use mathlib.Core.Path.{refl, sym}
use Rattle.std.proofs.lemmas.Result.{err_from_is_err_and}
use Rattle.floor.proofs.Refusing.{refusing}
use Rattle.barge_calls.proofs.Answers.{begun}
use Rattle.barge_calls.proofs.RunningChanges.{repair_begins, repair_refused, repair_accepted}
use Rattle.barge_calls.proofs.repair_on.Goals as goal

pub returns-in_err-begun : goal.returns-in_err-begun
returns-in_err-begun c =
    let p = err_from_is_err_and c.from_residual.result c.from_residual.ensures.1 in
    rw (p.1, p.2) (repair_begins c.args.barge.now c.args.floor c.args.tile _ (rw c.in_err-begun.was at c.requires) (refusing c.in_err-begun.field-0.0))

pub bounds-barge-k : goal.bounds-barge-k
bounds-barge-k c = (begun c.args.barge.now c.args.floor 0 (rw c.in_ok-begun.was at c.requires) refl).named

pub test_repair-requires : goal.test_repair-requires
test_repair-requires c = (begun c.args.barge.now c.args.floor 0 (rw c.in_ok-begun.was at c.requires) refl).well

pub returns-in_err-test_repair : goal.returns-in_err-test_repair
returns-in_err-test_repair c =
    let p = err_from_is_err_and c.from_residual-in_err-test_repair.result c.from_residual-in_err-test_repair.ensures.1 in
    rw (p.1, p.2) (repair_refused c.args.barge.now c.args.floor c.args.tile (begun c.args.barge.now c.args.floor 0 (rw c.in_ok-begun.was at c.requires) refl) _ c.in_err-test_repair.ensures (refusing c.in_err-test_repair.field-0.0))

pub bounds-barge-k-2 : goal.bounds-barge-k-2
bounds-barge-k-2 c = (begun c.args.barge.now c.args.floor 0 (rw c.in_ok-begun.was at c.requires) refl).named

pub repaired_floor-requires : goal.repaired_floor-requires
repaired_floor-requires c = ((begun c.args.barge.now c.args.floor 0 (rw c.in_ok-begun.was at c.requires) refl).well, sym c.in_ok-test_repair.ensures)

pub bounds-barge-k-3 : goal.bounds-barge-k-3
bounds-barge-k-3 c = (begun c.args.barge.now c.args.floor 0 (rw c.in_ok-begun.was at c.requires) refl).named

pub returns : goal.returns
returns c = repair_accepted c.args.barge.now c.args.floor c.args.tile (begun c.args.barge.now c.args.floor 0 (rw c.in_ok-begun.was at c.requires) refl) 0 c.in_ok-test_repair.ensures refl c.repaired_floor.result c.repaired_floor.ensures
