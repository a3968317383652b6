use Rattle.bound_call.proofs.Loops.{PathsFound}
use Rattle.bound_call.proofs.connected_set.Given as goal

abbrev pub invariant-loop : goal.invariant-loop
invariant-loop l = PathsFound l.s l.running l.above l.passes l.found l.counter
