use mathlib.Core.Path.{◌≡◌}
use Prim.Native.Nat.{◌+◌, ◌*◌}
use native.Mathlib.Omega.{arith}
use lib.ListN.{get_or}
use Rattle.laws.proofs.Tables.{filled_none}
use Rattle.floor.specs.Memory.{zero_canister}
use Rattle.image_read.specs.InternalArrays.{canister_from}
use Rattle.image_read.proofs.Reading.{count_is}
use Rattle.image_read.proofs.Places.{placed_all}
use Rattle.image_read.proofs.Loops.{canister_turn, tile_end}
use Rattle.image_read.proofs.canisters_of.Goals as goal

pub loop-t-init : goal.loop-t-init
loop-t-init c = let g = c.args in record {
  below = omega arith;
  few = c.requires.0;
  starts_length = c.well_formed.1.0.1.0.1;
  placed = filled_none 1024 (canister_from g.s.now g.starts g.c) zero_canister;
}

pub bounds-s-at : goal.bounds-s-at
bounds-s-at c = let r = c.requires.1 c.loop-t.t (omega arith) in omega arith

pub loop-j-init : goal.loop-j-init
loop-j-init c =
    let r = c.requires.1 c.loop-t.t (omega arith) in
    let f = c.requires.2 c.loop-t.t (omega arith) in
    let g = c.args in
    let l = c.loop-t in
    let n = count_is g.s.now (get_or g.starts l.t 0) 0 (omega arith) in
    let k : 16 * l.t + 0 ≡ 16 * l.t = omega arith in
    record {
      below = omega arith;
      here = omega arith;
      few = l.invariant.few;
      count = c.from-n.ensures;
      small = omega arith;
      room = omega arith;
      starts_length = l.invariant.starts_length;
      placed = rw k l.invariant.placed;
    }

pub loop-j-preserved : goal.loop-j-preserved
loop-j-preserved c = canister_turn c.loop-j.invariant _ (omega arith) c.canister_at.ensures

pub loop-t-preserved : goal.loop-t-preserved
loop-t-preserved c = tile_end c.loop-j.invariant (omega arith)

pub returns : goal.returns
returns c =
    let g = c.args in
    let l = c.loop-t in
    placed_all g.s.now g.starts g.c l.t l.out (omega arith) (omega arith) l.invariant.placed
