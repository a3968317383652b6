use Rattle.image_write.proofs.Loops.{TilesPut, CanistersPut}
use Rattle.image_write.proofs.put_tiles.Given as goal

abbrev pub invariant-loop-k : goal.invariant-loop-k
invariant-loop-k l = CanistersPut l.initial.s l.all l.at l.t l.n l.s l.k

abbrev pub invariant-loop-t : goal.invariant-loop-t
invariant-loop-t l = TilesPut l.initial.s l.from l.c l.tiles l.all l.s l.at l.t
