use native.Mathlib.Omega.{arith}
use Rattle.floor.proofs.Pack.{below_64, head_view}
use Rattle.floor.proofs.Sized.{tiles_length}
use Rattle.call_parts.proofs.tile_head.Goals as goal

pub bounds-tiles-tile : goal.bounds-tiles-tile
bounds-tiles-tile c =
    let g = c.args in
    omega (arith, below_64 g.floor g.tile c.requires.0 c.requires.1, tiles_length g.floor _ c.well_formed.0)

pub returns : goal.returns
returns c = let g = c.args in head_view g.floor g.tile c.requires.0 c.requires.1
