use Rattle.plan_parts.proofs.Loops.{LowestSought}
use Rattle.plan_parts.proofs.lowest_ready.Given as goal

abbrev pub invariant-loop-e : goal.invariant-loop-e
invariant-loop-e l = LowestSought l.entries l.done l.best l.e-index
