use Rattle.image_write.proofs.Loops.{LayoutsCounted}
use Rattle.image_write.proofs.layout_count.Given as goal

abbrev pub invariant-loop-k : goal.invariant-loop-k
invariant-loop-k l = LayoutsCounted l.fn.layouts l.k
