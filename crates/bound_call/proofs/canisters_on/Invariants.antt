use Rattle.bound_call.proofs.Loops.{CanistersCounted}
use Rattle.bound_call.proofs.canisters_on.Given as goal

abbrev pub invariant-loop-t : goal.invariant-loop-t
invariant-loop-t l = CanistersCounted l.fn.tiles l.set l.sum l.t
