use mathlib.Core.Path.{◌∙◌}
use Rattle.image_read.proofs.Load.{front_kept, tiles_read, answer_1, answer_2, answer_3, answer_4}
use Rattle.image_read.proofs.read_image.Goals as goal
use Rattle.floor.proofs.Refusing.{refusing}

pub returns-in-Err : goal.returns-in-Err
returns-in-Err c = (rw c.from.ensures at c.refused.ensures) ∙ answer_1 c.args.s.now _ c.in-Err.ensures.0 (refusing c.in-Err.why)

pub scan_tiles-requires : goal.scan_tiles-requires
scan_tiles-requires c = let K = front_kept c.in-Ok.ensures c.tile_count-c.ensures in (K.front.room, rw K.tiles K.front.size)

pub returns-in-Err-scan_tiles : goal.returns-in-Err-scan_tiles
returns-in-Err-scan_tiles c = (rw c.from-in-Err-scan_tiles.ensures at c.refused-in-Err-scan_tiles.ensures) ∙ answer_2 (front_kept c.in-Ok.ensures c.tile_count-c.ensures) _ c.in-Err-scan_tiles.ensures.0 (refusing c.in-Err-scan_tiles.why)

pub returns-then-not-all_named : goal.returns-then-not-all_named
returns-then-not-all_named c = (rw c.from-then-not-all_named.ensures at c.refused-then-not-all_named.ensures) ∙ answer_3 (tiles_read (front_kept c.in-Ok.ensures c.tile_count-c.ensures) c.in-Ok-scan_tiles.ensures) _ c.all_named.ensures c.if-not-all_named.true

pub canisters_of-requires : goal.canisters_of-requires
canisters_of-requires c =
    let T = tiles_read (front_kept c.in-Ok.ensures c.tile_count-c.ensures) c.in-Ok-scan_tiles.ensures in
    let K = T.kept in
    (rw K.tiles K.front.size, λ t h. (T.starts t h).room, λ t h. (T.starts t h).few)

pub returns : goal.returns
returns c = answer_4 (tiles_read (front_kept c.in-Ok.ensures c.tile_count-c.ensures) c.in-Ok-scan_tiles.ensures) _ c.all_named.ensures c.if-not-all_named.false _ c.canisters_of.ensures
