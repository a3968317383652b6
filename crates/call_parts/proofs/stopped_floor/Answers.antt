use native.Mathlib.Omega.{arith}
use Rattle.floor.proofs.Sized.{tiles_length}
use Rattle.floor.proofs.Pack.{below_64}
use Rattle.call_parts.proofs.Packed.{stopped_pack}
use Rattle.call_parts.proofs.Tests.{stop_on_lem}
use Rattle.call_parts.proofs.stopped_floor.Goals as goal

pub tile_head-was-requires : goal.tile_head-was-requires
tile_head-was-requires c = let g = c.args in (c.requires.0, stop_on_lem g.floor g.tile c.requires.1)

pub bounds-after-tile : goal.bounds-after-tile
bounds-after-tile c = let g = c.args in
    let p = c.requires in
    omega (arith, below_64 g.floor g.tile p.0 (stop_on_lem g.floor g.tile p.1), tiles_length g.floor _ c.well_formed.0)

pub returns : goal.returns
returns c = let g = c.args in
    let p = c.requires in
    let h = c.tile_head-was in
    stopped_pack g.floor g.tile p.0 (stop_on_lem g.floor g.tile p.1) h.result h.ensures
