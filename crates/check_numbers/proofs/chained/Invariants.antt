use Prim.Native.Nat.{◌-◌}
use Rattle.check_numbers.proofs.Chain.{Linked, Following}
use Rattle.check_numbers.proofs.chained.Given as goal

abbrev pub invariant-loop-p : goal.invariant-loop-p
invariant-loop-p l = Following l.keys l.heads l.prev l.n l.p l.i

abbrev pub decreases-loop-p : goal.decreases-loop-p
decreases-loop-p l = l.p

abbrev pub invariant-loop-i : goal.invariant-loop-i
invariant-loop-i l = Linked l.keys l.heads l.prev l.i

abbrev pub decreases-loop-i : goal.decreases-loop-i
decreases-loop-i l = 1024 - l.i
