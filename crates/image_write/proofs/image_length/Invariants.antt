use Rattle.image_write.proofs.Loops.{TilesMeasured}
use Rattle.image_write.proofs.image_length.Given as goal

abbrev pub invariant-loop-head : goal.invariant-loop-head
invariant-loop-head l = TilesMeasured l.fn.f.tiles l.c l.h l.first l.filled l.n l.head-index
