use Rattle.std.proofs.Common.{◌≤◌, length, ◌-◌}
use Rattle.console.proofs.obey_lines.Given as goal

abbrev pub invariant-loop-a : goal.invariant-loop-a
invariant-loop-a g l = l.at ≤ length l.text

abbrev pub decreases-loop-a : goal.decreases-loop-a
decreases-loop-a g l = length l.text - l.at
