use mathlib.Core.Path.{sym, ap, ◌∙◌}
use Prim.Native.Nat.{◌≤◌}
use native.Mathlib.Omega.{arith}
use lib.ListN.{length}
use Rattle.image_bytes.specs.InternalPut.{put}
use Rattle.floor.specs.Memory.{view}
use Rattle.floor.proofs.Pack.{well_measured}
use Rattle.page_call.specs.Page.{page}
use Rattle.page_call.proofs.Writing.{made, page_is, page_size, page_small, page_malformed, page_short, page_whole}
use Rattle.page_call.proofs.page.Goals as goal

pub returns-then-not-well : goal.returns-then-not-well
returns-then-not-well c = let p = page_malformed c.args.floor c.args.buffer.now (sym c.well_formed-well.ensures ∙ c.if-not-well.true) in (c.refused.ensures ∙ p.0, p.1)

pub overflow_mul-n-2 : goal.overflow_mul-n-2
overflow_mul-n-2 c = record { fits = omega (arith, page_small _ (sym c.well_formed-well.ensures ∙ c.if-not-well.false)) }

pub returns-then-buffer-n : goal.returns-then-buffer-n
returns-then-buffer-n c =
    let w = (sym c.well_formed-well.ensures ∙ c.if-not-well.false) in
    let p = page_short c.args.floor c.args.buffer.now w (omega (arith, page_size _ w, c.if-buffer-n.true)) in
    (c.refused-then-buffer-n.ensures ∙ p.0, p.1)

pub put_lines-requires : goal.put_lines-requires
put_lines-requires c =
    let m = well_measured _ (sym c.well_formed-well.ensures ∙ c.if-not-well.false) in
    (m.columns_few, m.rows_few, omega (arith, c.if-buffer-n.false))

pub overflow_cast-result : goal.overflow_cast-result
overflow_cast-result c =
    record { fits = omega (arith, page_small _ (sym c.well_formed-well.ensures ∙ c.if-not-well.false)) }

pub returns : goal.returns
returns c =
    let g = c.args in
    let n = page_size g.floor (sym c.well_formed-well.ensures ∙ c.if-not-well.false) in
    let h : length (page (view g.floor)) ≤ length g.buffer.now = omega (arith, n, c.if-buffer-n.false) in
    let a = page_whole g.floor g.buffer.now (sym c.well_formed-well.ensures ∙ c.if-not-well.false) h in
    (ap (made 0) (sym n) ∙ a.0, c.put_lines.ensures ∙ ap (put g.buffer.now 0) (sym (page_is g.floor (sym c.well_formed-well.ensures ∙ c.if-not-well.false))) ∙ a.1)
