use Rattle.image_record_read.proofs.Loops.{TilesScanned}
use Rattle.image_record_read.proofs.scan_tiles.Given as goal

abbrev pub invariant-loop-t : goal.invariant-loop-t
invariant-loop-t l = TilesScanned l.s l.from l.c l.tiles l.starts l.at l.t
