use Prim.Native.Nat.{ℕ, ◌≤◌}
use mathlib.Core.Path.{refl, ap, ◌∙◌}
use native.Mathlib.Omega.{arith}
use lib.ListN.{length, length-set}
use Rattle.floor.specs.declared.Tile.{Tile}
use Rattle.floor.specs.Signal.{shown_next}
use Rattle.floor.specs.Memory.{zero_tile}
use Rattle.round_route.specs.InternalRouted.{within}
use Rattle.round_route.proofs.Passes.{within_none, within_turn, front_in, front_read, front_end}
use Rattle.round_signal.specs.InternalSignalling.{no_side, shown_in}
use Rattle.round_signal.proofs.shown.Goals as goal

pub loop-t-init : goal.loop-t-init
loop-t-init c = (refl, within_none (λ x. x.code) no_side (shown_in c.args.tiles.now) no_side 65)

pub loop-t-preserved : goal.loop-t-preserved
loop-t-preserved c =
    let l = c.loop-t in
    let ts = c.args.tiles.now in
    let n = c.tile_count.result in
    let m : n ≤ length ts = omega arith in
    let h = front_in ts n m c.loop-t-test.true in
    let is = ap (λ (x : Tile). shown_next x.count x.next.code) (front_read ts n m l.t zero_tile c.loop-t-test.true) in (
      simp length-set l.invariant.0,
      within_turn (λ x. x.code) no_side (shown_in ts) 0 l.d 65 l.t c.shown_next.result (omega arith) (c.shown_next.ensures ∙ is) l.invariant.1,
    )

pub returns : goal.returns
returns c =
    let l = c.loop-t in
    let ts = c.args.tiles.now in
    let e = front_end ts c.tile_count.result (omega arith) l.t c.loop-t-test.false c.loop-t.auto.t-end ∙ c.tile_count.ensures in
    λ i h. l.invariant.1 i h ∙ ap (λ (n : ℕ). within n (shown_in ts) 0 i) e
