use mathlib.Core.Path.{◌≡◌, ◌∙◌, ap}
use Prim.Native.Nat.{◌*◌, ◌<◌}
use native.Mathlib.Omega.{arith}
use lib.Seq.{length-take-le, get_or-take}
use Rattle.floor.specs.declared.Tile.{Tile}
use Rattle.floor.specs.Memory.{zero_tile}
use Rattle.image_write.proofs.ImageBytes.{parts_of, counts_few, encode_heads, heads_more, heads_none}
use Rattle.floor.proofs.Pack.{well_few, well_lengths}
use Rattle.image_write.proofs.image_length.Goals as goal

pub overflow_cast-n : goal.overflow_cast-n
overflow_cast-n c = let b = parts_of c.args.f _ _ _ _ c.requires c.tile_count-c.ensures c.size-h.ensures c.first_length-first.ensures c.layout_count-filled.ensures in record { fits = omega arith }

pub shared_ref_as_front-head-items : goal.shared_ref_as_front-head-items
shared_ref_as_front-head-items c = let b = parts_of c.args.f _ _ _ _ c.requires c.tile_count-c.ensures c.size-h.ensures c.first_length-first.ensures c.layout_count-filled.ensures in omega (arith, well_few _ b.well)

pub loop-head-init : goal.loop-head-init
loop-head-init c =
    let b = parts_of c.args.f _ _ _ _ c.requires c.tile_count-c.ensures c.size-h.ensures c.first_length-first.ensures c.layout_count-filled.ensures in
    record {
      below = omega arith;
      few = omega (arith, well_few _ b.well);
      tiles_length = (well_lengths _ b.well).0;
      reached = omega (arith, heads_none c.args.f.tiles);
      small = omega arith;
      counts_small = λ u l. counts_few _ b.well u (omega arith);
    }

pub loop-head-preserved : goal.loop-head-preserved
loop-head-preserved c =
    let l = c.loop-head in
    let hs = c.args.f.tiles in
    let m = length-take-le c.tile_count-c.result hs (omega (arith, l.invariant.few, l.invariant.tiles_length)) in
    let i : l.head-index < c.tile_count-c.result = omega arith in
    let k = l.invariant.counts_small l.head-index i in
    let e = c.from-in-loop-head.ensures ∙ ap (λ (h : Tile). h.count) (get_or-take c.tile_count-c.result hs l.head-index zero_tile i) in
    record {
      below = omega arith;
      few = l.invariant.few;
      tiles_length = l.invariant.tiles_length;
      reached = omega (arith, heads_more hs l.head-index, e, l.invariant.reached);
      small = omega (arith, e, k);
      counts_small = l.invariant.counts_small;
    }

pub returns : goal.returns
returns c =
    let l = c.loop-head in
    let f = c.args.f in
    let b = parts_of c.args.f _ _ _ _ c.requires c.tile_count-c.ensures c.size-h.ensures c.first_length-first.ensures c.layout_count-filled.ensures in
    let m = length-take-le c.tile_count-c.result f.tiles (omega (arith, l.invariant.few, l.invariant.tiles_length)) in
    let e : l.head-index ≡ f.settings.columns * f.settings.rows = omega (arith, m, l.invariant.below) in
    rw e at l.invariant.reached ∙ omega (arith, encode_heads f b.well)
