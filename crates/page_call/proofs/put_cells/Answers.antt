use mathlib.Core.Path.{◌≡◌, sym, ap, ◌∙◌, refl}
use mathlib.Core.List.{List}
use Prim.Native.Nat.{ℕ, ◌+◌, ◌*◌, ◌-◌, ◌<◌}
use native.Mathlib.Omega.{arith}
use Rattle.image_bytes.specs.InternalPut.{put}
use Rattle.image_bytes.proofs.PutLaws.{put_none}
use Rattle.floor.specs.declared.Tile.{Tile}
use Rattle.page_call.specs.Page.{cells}
use Rattle.page_call.proofs.Pieces.{up_to_none, cell_length, turn, on_grid}
use Rattle.page_call.proofs.Loops.{cell_at, CellsPut}
use Rattle.page_call.proofs.put_cells.Goals as goal

pub loop-k-init : goal.loop-k-init
loop-k-init c =
    let s = c in
    record {
      below = omega arith;
      columns_few = s.requires.0;
      rows_few = s.requires.1;
      row = s.requires.2;
      tiles_length = s.well_formed.1.1.0.1.0.1;
      room = s.requires.3;
      buffer_length = refl;
      written = sym (ap (put _ _) (up_to_none _) ∙ put_none _ _);
    }

on_floor : {s₀ : List ℕ} {at w h r : ℕ} {tiles : List Tile} {s : List ℕ} {k : ℕ} → CellsPut s₀ at w h r tiles s k → k < w → k * h + r < 64
on_floor i t = on_grid _ _ _ _ t i.columns_few i.row i.rows_few

pub overflow_mul-tile : goal.overflow_mul-tile
overflow_mul-tile c = record { fits = omega (arith, on_floor c.loop-k.invariant c.loop-k-test.true) }

pub overflow_add-tile : goal.overflow_add-tile
overflow_add-tile c = record { fits = omega (arith, on_floor c.loop-k.invariant c.loop-k-test.true) }

pub offset_bounds-tiles-k : goal.offset_bounds-tiles-k
offset_bounds-tiles-k c = record { fits = omega (arith, on_floor c.loop-k.invariant c.loop-k-test.true) }

pub bounds-tiles-k : goal.bounds-tiles-k
bounds-tiles-k c = on_floor c.loop-k.invariant c.loop-k-test.true

pub loop-k-preserved : goal.loop-k-preserved
loop-k-preserved c =
    let q = c in
    let p = q.put_cell in
    let t = q in
    let l = t.loop-k in
    let g = t.args in
    record {
      below = omega arith;
      columns_few = l.invariant.columns_few;
      rows_few = l.invariant.rows_few;
      row = l.invariant.row;
      tiles_length = l.invariant.tiles_length;
      room = l.invariant.room;
      buffer_length = p.auto.s ∙ l.invariant.buffer_length;
      written = turn (g.s).now l.s _ g.at (g.at + 8 * l.k) 8 l.k (cell_at g.tiles g.h g.r) (λ i. cell_length _) (omega arith) (omega arith) l.invariant.written p.ensures;
    }

pub shape_of-s : goal.shape_of-s
shape_of-s c = c.loop-k.invariant.buffer_length

pub returns : goal.returns
unfolding cells
returns c = let l = c.loop-k in let e : l.k ≡ c.args.w = omega arith in rw e at l.invariant.written
