use mathlib.Core.Path.{◌≡◌, refl, sym}
use native.Mathlib.Omega.{arith}
use Rattle.laws.proofs.Tables.{filled_none}
use Rattle.floor.specs.Memory.{zero_layout}
use Rattle.image_record_read.proofs.Exits.{passed_up}
use Rattle.image_record_read.proofs.Walk.{layout_at, passed_none, passed_all}
use Rattle.image_record_read.proofs.Loops.{layouts_off, layout_stop, layout_turn}
use Rattle.image_record_read.proofs.scan_layouts.Goals as goal
use Rattle.floor.proofs.Refusing.{refusing}

pub loop-n-init : goal.loop-n-init
loop-n-init c = let g = c.args in record {
  below = omega arith;
  reached = omega arith;
  passed = passed_none g.s.now g.from (omega arith);
  layouts_filled = filled_none 8 (layout_at g.s.now g.from) zero_layout;
}

pub returns-then-not-is_layout : goal.returns-then-not-is_layout
returns-then-not-is_layout c = layouts_off c.loop-n.invariant _ c.is_layout.ensures c.if-not-is_layout.true

pub returns-in_err-x : goal.returns-in_err-x
returns-in_err-x c =
    let e = c.in_err-x.field-0.0 in
    passed_up _ e c.from_residual.result c.from_residual.ensures.1 (layout_stop c.loop-n.invariant _ c.is_layout.ensures c.if-not-is_layout.false (omega arith) _ c.in_err-x.ensures.0 (refusing e))

pub loop-n-preserved : goal.loop-n-preserved
loop-n-preserved c =
    let r = c.in_ok-x.ensures in
    let p = rw c.in-Layout.is at r.1 in
    layout_turn c.loop-n.invariant _ c.is_layout.ensures c.if-not-is_layout.false (omega arith) 0 r.0 refl c.in-Layout.x p.1

pub returns : goal.returns
returns c =
    let l = c.loop-n in
    let g = c.args in
    let e : l.n ≡ 8 = omega arith in
    let r = passed_all g.s.now g.from l.n l.invariant.passed l.layouts l.invariant.layouts_filled e in
    (sym r.0, rw e at r.1)
