use native.Mathlib.Omega.{arith}
use Rattle.floor.proofs.Pack.{well_few}
use Rattle.image_write.proofs.ImageBytes.{counts_few, hoppers_four, write_room, write_put}
use Rattle.image_write.proofs.write_image.Goals as goal

pub put_front-front-requires : goal.put_front-front-requires
put_front-front-requires c = let r = (let g = c.args in write_room g.f _ _ g.buffer.now c.requires c.tile_count-c.ensures c.size-h.ensures) in (omega arith, r.hoppers, hoppers_four _ r.well _ r.hoppers)

pub put_tiles-end-requires : goal.put_tiles-end-requires
put_tiles-end-requires c =
    let r = (let g = c.args in write_room g.f _ _ g.buffer.now c.requires c.tile_count-c.ensures c.size-h.ensures) in
    (rw r.tiles (well_few _ r.well), omega (arith, c.put_front-front.auto.s, c.put_front-front.ensures.0), rw r.tiles (counts_few _ r.well))

pub put_pair-requires : goal.put_pair-requires
put_pair-requires c =
    let r = (let g = c.args in write_room g.f _ _ g.buffer.now c.requires c.tile_count-c.ensures c.size-h.ensures) in
    omega (arith, c.put_front-front.auto.s, c.put_front-front.ensures.0, c.put_tiles-end.auto.s, c.put_tiles-end.ensures.0)

pub returns : goal.returns
returns c =
    let p = c.put_front-front.ensures in
    let t = c.put_tiles-end.ensures in
    write_put (let g = c.args in write_room g.f _ _ g.buffer.now c.requires c.tile_count-c.ensures c.size-h.ensures) _ _ _ _ _ p.0 t.0 p.1 t.1 c.put_pair.ensures
