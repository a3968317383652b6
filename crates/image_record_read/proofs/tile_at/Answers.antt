use mathlib.Core.Path.{sym}
use native.Mathlib.Omega.{arith}
use Rattle.image_record_read.proofs.Values.{tile_code}
use Rattle.image_record_read.proofs.tile_at.Goals as goal

pub returns : goal.returns
returns c =
    let g = c.args in
    sym (tile_code (g.s).now g.at (omega arith))
