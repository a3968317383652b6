use mathlib.Core.Path.{◌≡◌, ap, ◌∙◌, subst}
use Prim.Native.Nat.{◌+◌, ◌-◌}
use native.Mathlib.Omega.{arith}
use Rattle.floor.specs.Settings.{total}
use Rattle.layout_parts.specs.InternalPlaces.{ran_in}
use Rattle.layout_parts.proofs.Tiles.{below_fits}
use Rattle.bound_call.proofs.Passes.{Reaches, made_bit, first_fits, reaches_first, reaches_next, reaches_all, reaches_connected}
use Rattle.bound_call.proofs.connected_set.Goals as goal

pub running_set-running-requires : goal.running_set-running-requires
running_set-running-requires c = c.requires.0.2

pub above_first-above-requires : goal.above_first-above-requires
above_first-above-requires c = c.requires.0

pub overflow_sub-passes : goal.overflow_sub-passes
overflow_sub-passes c = omega (arith, c.tile_count-passes.ensures, c.requires.1)

pub loop-init : goal.loop-init
loop-init c =
    let s = c.args.s in
    let running = c.running_set-running.result in
    let fits = below_fits (ran_in c.args.tiles) (total s) c.running_set-running.ensures in
    record {
      ranged = c.requires.0;
      all = ap (λ n. n - 1) c.tile_count-passes.ensures;
      running_fits = fits;
      above_is = c.above_first-above.ensures;
      found_fits = first_fits s running fits;
      reaches = reaches_first s running fits;
    }

pub spread-next-requires : goal.spread-next-requires
spread-next-requires c = let i = c.loop.invariant in (i.ranged, i.running_fits, i.found_fits, i.above_is)

pub returns-then-next-found : goal.returns-then-next-found
returns-then-next-found c =
    let l = c.loop in
    let s = c.args.s in
    let running = c.running_set-running.result in
    let more = reaches_next s running l.invariant.running_fits l.counter l.found c.spread-next.result l.invariant.reaches c.spread-next.ensures.1 in
    let same = subst (λ x. Reaches s running (l.counter + 1) x) c.if-next-found.true more in
    let passes = c.tile_count-passes.result - 1 in
    reaches_connected s running l.invariant.running_fits _ (made_bit _ (total s) running c.running_set-running.ensures) passes l.found l.invariant.all
    (reaches_all s running l.invariant.running_fits l.counter passes l.found l.invariant.reaches same (omega arith))

pub loop-preserved : goal.loop-preserved
loop-preserved c =
    let l = c.loop in
    record {
      ranged = l.invariant.ranged;
      all = l.invariant.all;
      running_fits = l.invariant.running_fits;
      above_is = l.invariant.above_is;
      found_fits = c.spread-next.ensures.0;
      reaches = reaches_next c.args.s c.running_set-running.result l.invariant.running_fits l.counter l.found c.spread-next.result l.invariant.reaches c.spread-next.ensures.1;
    }

pub returns : goal.returns
returns c =
    let l = c.loop in
    let s = c.args.s in
    let running = c.running_set-running.result in
    let e : l.counter ≡ c.tile_count-passes.result - 1 = omega arith in
    reaches_connected s running l.invariant.running_fits _ (made_bit _ (total s) running c.running_set-running.ensures) l.counter l.found (e ∙ l.invariant.all) l.invariant.reaches
