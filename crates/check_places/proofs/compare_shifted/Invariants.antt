use Rattle.check_places.proofs.Loops.{Comparing}
use Rattle.check_places.proofs.compare_shifted.Given as goal

abbrev pub invariant-loop-i : goal.invariant-loop-i
invariant-loop-i l = Comparing l.initial.least l.a l.b l.k l.least l.i
