use native.Mathlib.Omega.{arith}
use Rattle.image_record_read.proofs.Refusals.{tile_many, tile_other, tile_right, tile_short, tile_wrong}
use Rattle.image_record_read.proofs.read_tile.Goals as goal

pub returns-then-n-lt6 : goal.returns-then-n-lt6
returns-then-n-lt6 c = let g = c.args in (tile_short (g.s).now g.at g.n g.tile (omega arith), tt)

pub returns-then-s-at : goal.returns-then-s-at
returns-then-s-at c = let g = c.args in (tile_other (g.s).now g.at g.n g.tile (omega arith) (omega arith) (omega arith), tt)

pub returns-then-count-gt16 : goal.returns-then-count-gt16
returns-then-count-gt16 c = let g = c.args in (tile_many (g.s).now g.at g.n g.tile (omega arith) (omega arith) (omega arith) (omega arith), tt)

pub returns-then-n-from : goal.returns-then-n-from
returns-then-n-from c = let g = c.args in (tile_wrong (g.s).now g.at g.n g.tile (omega arith) (omega arith) (omega arith) (omega arith) (omega arith), tt)

pub returns : goal.returns
returns c = let g = c.args in (tile_right (g.s).now g.at g.n g.tile (omega arith) (omega arith) (omega arith) (omega arith) (omega arith), c.tile_at.ensures)
