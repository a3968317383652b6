use Prim.Native.Nat.{◌-◌}
use lib.ListN.{length}
use Rattle.check_places.proofs.Loops.{Doubled, Shifts}
use Rattle.check_places.proofs.all_apart.Given as goal

abbrev pub invariant-loop-k : goal.invariant-loop-k
invariant-loop-k l = Doubled (length l.members) l.members l.a l.b l.k

abbrev pub invariant-loop-k-2 : goal.invariant-loop-k-2
invariant-loop-k-2 l = Shifts l.a l.b l.least (l.k - 1)
