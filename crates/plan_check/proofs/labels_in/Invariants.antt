use Rattle.plan_check.proofs.Loops.{LabelsTabled}
use Rattle.plan_check.proofs.labels_in.Given as goal

abbrev pub invariant-loop-e : goal.invariant-loop-e
invariant-loop-e l = LabelsTabled l.entries l.present l.differing l.e-index
