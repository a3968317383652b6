use Rattle.plan_check.proofs.Loops.{Gathered}
use Rattle.plan_check.proofs.booked_numbers.Given as goal

abbrev pub invariant-loop-e : goal.invariant-loop-e
invariant-loop-e l = Gathered l.entries l.items l.count l.e-index
