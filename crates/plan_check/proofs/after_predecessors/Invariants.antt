use Rattle.plan.specs.Entries.{done, after_predecessors}
use Rattle.plan_check.proofs.Loops.{Tested}
use Rattle.plan_check.proofs.after_predecessors.Given as goal

abbrev pub invariant-loop-e : goal.invariant-loop-e
invariant-loop-e l = Tested l.entries (done l.entries) (after_predecessors l.entries) l.done l.ok l.e-index
