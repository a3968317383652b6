use Rattle.image_write.proofs.Loops.{LayoutsPut}
use Rattle.image_write.proofs.put_layouts.Given as goal

abbrev pub invariant-loop-k : goal.invariant-loop-k
invariant-loop-k l = LayoutsPut l.initial.s l.from l.layouts l.s l.k
