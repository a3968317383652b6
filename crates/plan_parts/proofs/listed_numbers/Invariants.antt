use Rattle.plan_parts.proofs.Loops.{NumbersListed}
use Rattle.plan_parts.proofs.listed_numbers.Given as goal

abbrev pub invariant-loop-d : goal.invariant-loop-d
invariant-loop-d l = NumbersListed l.d-items l.items l.count l.d-index
