use Rattle.std.proofs.Common.{◌≡◌, ◌%◌, ◌∙◌, sym, ap, arith}
use Rattle.std.proofs.Common.{lt-ltb, le-ltb}
use Rattle.floor.specs.Layouts.{set_below}
use Rattle.layout_parts.proofs.Tiles.{below_none, set_in, set_out}
use Rattle.bound_call.specs.Sets.{above_first}
use Rattle.bound_call.proofs.above_first.Goals as goal
use Rattle.bound_call.proofs.above_first.Goals.{then-t-from-gt0, else-t-from-gt0}

pub loop-t-init : goal.loop-t-init
loop-t-init c = below_none _

pub loop-t-preserved : goal.loop-t-preserved
loop-t-preserved c =
    let l = c.loop-t in
    let few = c.requires.2 in
    let e = c.tile_count-t-end.ensures in
    let p = above_first c.args.s.rows in
    elim c.if-t-from-gt0.branch [
      | then-t-from-gt0 w ↦ w.set-is ∙ set_in p l.t (omega arith) (lt-ltb 0 (l.t % c.args.s.rows) (rw (sym c.from.ensures) w.if-t-from-gt0.true)) w.with-set.type_inv w.with-set.ensures l.invariant
      | else-t-from-gt0 w ↦ w.set-is ∙ set_out p l.t (le-ltb 0 (l.t % c.args.s.rows) (rw (sym c.from.ensures) w.if-t-from-gt0.false)) l.invariant
    ]

pub returns : goal.returns
returns c =
    let e : c.loop-t.t ≡ c.tile_count-t-end.result = omega arith in
    c.loop-t.invariant ∙ ap (set_below (above_first c.args.s.rows)) (e ∙ c.tile_count-t-end.ensures)
