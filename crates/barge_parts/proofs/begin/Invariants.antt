use Prim.Native.Nat.{◌-◌}
use Rattle.barge_parts.proofs.Loops.{Checked}
use Rattle.barge_parts.proofs.begin.Given as goal

abbrev pub invariant-loop-each : goal.invariant-loop-each
invariant-loop-each l = Checked l.fn.barge l.sound l.total l.each-index
