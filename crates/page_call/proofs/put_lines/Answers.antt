use mathlib.Core.Path.{◌≡◌, refl, sym, ap, ◌∙◌}
use Prim.Native.Nat.{◌+◌, ◌*◌, ◌-◌}
use native.Mathlib.Omega.{arith}
use Rattle.image_bytes.specs.InternalPut.{put}
use Rattle.image_bytes.proofs.PutLaws.{put_none}
use Rattle.page_call.specs.Page.{lines}
use Rattle.page_call.proofs.Pieces.{up_to_none, line_length, turn, row_room, row_small}
use Rattle.page_call.proofs.Loops.{line_at}
use Rattle.page_call.proofs.put_lines.Goals as goal

pub loop-k-init : goal.loop-k-init
loop-k-init c =
    let s = c in
    record {
      below = omega arith;
      columns_few = s.requires.0;
      rows_few = s.requires.1;
      room = s.requires.2;
      buffer_length = refl;
      written = sym (ap (put _ _) (up_to_none _) ∙ put_none _ _);
    }

pub overflow_mul-k : goal.overflow_mul-k
overflow_mul-k c = let l = c.loop-k in record { fits = omega (arith, row_small l.k _ _ c.loop-k-test.true l.invariant.rows_few l.invariant.columns_few) }

pub put_line-requires : goal.put_line-requires
put_line-requires c =
    let h = c in
    let l = h.loop-k in
    let g = h.args in
    (l.invariant.columns_few, l.invariant.rows_few, omega arith, omega (arith, row_room l.k g.h (8 * g.w + 2) c.loop-k-test.true))

pub loop-k-preserved : goal.loop-k-preserved
loop-k-preserved c =
    let q = c in
    let p = q.put_line in
    let t = q in
    let l = t.loop-k in
    let g = t.args in
    let n = 8 * g.w + 2 in
    let r = row_room l.k g.h n t.loop-k-test.true in
    record {
      below = omega arith;
      columns_few = l.invariant.columns_few;
      rows_few = l.invariant.rows_few;
      room = l.invariant.room;
      buffer_length = p.auto.s ∙ l.invariant.buffer_length;
      written = turn (g.s).now l.s _ 0 (l.k * n) n l.k (line_at g.tiles g.w g.h) (λ i. line_length _ g.w g.h _) (omega arith) (omega (arith, r)) l.invariant.written p.ensures;
    }

pub shape_of-s : goal.shape_of-s
shape_of-s c = c.loop-k.invariant.buffer_length

pub returns : goal.returns
unfolding lines
returns c = let l = c.loop-k in let e : l.k ≡ c.args.h = omega arith in rw e at l.invariant.written
