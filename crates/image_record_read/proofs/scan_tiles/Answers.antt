use mathlib.Core.Path.{refl, sym, ◌∙◌}
use native.Mathlib.Omega.{arith}
use lib.ListN.{drop}
use Rattle.laws.proofs.Tables.{filled_none}
use Rattle.floor.specs.Memory.{zero_tile}
use Rattle.image_record_read.proofs.Exits.{passed_up}
use Rattle.image_record_read.proofs.Walk.{head_of, tiled_all, after_none, tiles_end, tiles_zero}
use Rattle.image_record_read.proofs.Loops.{tile_stop, tile_room, tile_turn}
use Rattle.image_record_read.proofs.scan_tiles.Goals as goal
use Rattle.floor.proofs.Refusing.{refusing}

pub loop-t-init : goal.loop-t-init
loop-t-init c =
    let g = c.args in
    record {
      below = omega arith;
      inside = omega arith;
      starts_length = refl;
      reached = after_none (drop g.from g.s.now);
      faults = tiles_zero g.c (drop g.from g.s.now);
      started = λ t h. absurd (omega arith);
      tiled = filled_none 64 (head_of g.c (drop g.from g.s.now)) zero_tile;
    }

pub returns-in_err-x : goal.returns-in_err-x
returns-in_err-x c =
    let e = c.in_err-x.field-0.0 in
    passed_up _ e c.from_residual.result c.from_residual.ensures.1 (tile_stop c.loop-t.invariant (omega arith) _ c.in_err-x.ensures.0 (refusing e))

pub read_at-n-requires : goal.read_at-n-requires
read_at-n-requires c = let m = tile_room c.loop-t.invariant (omega arith) 0 c.in_ok-x.ensures.0 refl in omega arith

pub loop-t-preserved : goal.loop-t-preserved
loop-t-preserved c =
    let r = c.in_ok-x.ensures in
    let p = rw c.in-Tile.is at r.1 in
    tile_turn c.loop-t.invariant (omega arith) 0 r.0 refl (omega arith) c.in-Tile.x p.1 _ _ (c.from.ensures ∙ c.read_at-n.ensures) refl

pub returns-in_err-test_end : goal.returns-in_err-test_end
returns-in_err-test_end c =
    let l = c.loop-t in
    let g = c.args in
    passed_up _ c.in_err-test_end.field-0.0 c.from_residual-in_err-test_end.result c.from_residual-in_err-test_end.ensures.1 (c.in_err-test_end.ensures ∙ sym (tiles_end g.c l.t (drop l.at g.s.now) (omega arith)) ∙ l.invariant.faults)

pub returns : goal.returns
returns c =
    let l = c.loop-t in
    let g = c.args in (
      c.in_ok-test_end.ensures ∙ sym (tiles_end g.c l.t (drop l.at g.s.now) (omega arith)) ∙ l.invariant.faults,
      (λ t h. l.invariant.started t (omega arith), tiled_all g.c (drop g.from g.s.now) l.t l.tiles (omega arith) (omega arith) l.invariant.tiled),
    )
