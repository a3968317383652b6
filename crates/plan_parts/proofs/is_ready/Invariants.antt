use Rattle.plan_parts.proofs.Loops.{LabelSought}
use Rattle.plan_parts.proofs.is_ready.Given as goal

abbrev pub invariant-loop-e : goal.invariant-loop-e
invariant-loop-e l = LabelSought l.label l.entries l.done l.ready l.e-index
