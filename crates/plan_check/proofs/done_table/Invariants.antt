use Rattle.plan_check.proofs.Loops.{DoneTabled}
use Rattle.plan_check.proofs.done_table.Given as goal

abbrev pub invariant-loop-e : goal.invariant-loop-e
invariant-loop-e l = DoneTabled l.entries l.done l.e-index
