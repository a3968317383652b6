use Rattle.std.proofs.Common.{◌≤◌}
use Rattle.trials.proofs.full.filled.Given as goal

abbrev pub invariant-loop-k : goal.invariant-loop-k
invariant-loop-k l = l.accepted ≤ l.k
