use mathlib.Core.Path.{◌≡◌, refl, sym}
use native.Mathlib.Omega.{arith}
use Rattle.image_write.proofs.Loops.{canister_turn, tile_fits_lem, canisters_begin, tile_turn}
use Rattle.image_write.specs.InternalUpto.{upto}
use Rattle.image_bytes.proofs.PutLaws.{put_none}
use Rattle.image_write.proofs.put_tiles.Goals as goal

pub loop-t-init : goal.loop-t-init
unfolding upto
loop-t-init c =
    let g = c.args in
    record {
      below = omega arith;
      few = c.requires.0;
      tiles_length = c.well_formed.1.1.0.1.0.1;
      all_length = c.well_formed.1.1.1.0.1.0.1;
      small = c.requires.2;
      room = c.requires.1;
      buffer_length = refl;
      reached = omega arith;
      written = sym (put_none (g.s).now g.from);
    }

pub put_tile-requires : goal.put_tile-requires
put_tile-requires c = let I = c in let b = tile_fits_lem I.loop-t.invariant I.loop-t-test.true in (omega arith, b.0)

pub loop-k-init : goal.loop-k-init
loop-k-init c =
    let P = c in
    let I = P in
    rw c.from-n.ensures (canisters_begin I.loop-t.invariant I.loop-t-test.true _ P.put_tile.auto.s)

pub loop-k-preserved : goal.loop-k-preserved
loop-k-preserved c =
    let P = c in
    let I = P in
    canister_turn I.loop-k.invariant I.loop-k-test.true _ _ P.put_canister.auto.s P.put_canister.ensures

pub loop-t-preserved : goal.loop-t-preserved
loop-t-preserved c =
    let B = c in
    let P = B in
    let I = P in
    rw c.from-n.ensures (tile_turn I.loop-t.invariant I.loop-t-test.true _ P.put_tile.auto.s P.put_tile.ensures _ _ (rw c.from-n.ensures at c.loop-k.invariant) (omega arith))

pub returns : goal.returns
returns c =
    let l = c.loop-t in
    let g = c.args in
    let e : l.t ≡ g.c = omega arith in
    (rw e at l.invariant.reached, rw e at l.invariant.written)
