use Prim.Native.Nat.{◌≤◌, ◌<◌}
use mathlib.Core.Path.{◌∙◌}
use native.Mathlib.Omega.{arith}
use lib.ListN.{length}
use Rattle.floor.specs.Settings.{total}
use Rattle.floor.specs.Memory.{zero_tile}
use Rattle.round_route.specs.InternalRouted.{routed_at}
use Rattle.round_route.proofs.Passes.{redone_none, redone_turn, redone_end, front_in, front_read, front_end}
use Rattle.round_route.proofs.RouteLaws.{routed_read}
use Rattle.round_route.proofs.route_pass.Goals as goal

pub loop-t-init : goal.loop-t-init
loop-t-init c = redone_none (routed_at c.args.s c.args.tiles.now) c.args.tiles.now c.told-tiles

pub loop-t-preserved : goal.loop-t-preserved
loop-t-preserved c =
    let g = c.args in
    let l = c.loop-t in
    let n = c.tile_count.result in
    let m : n ≤ length g.tiles.now = omega arith in
    let h : l.t < total g.s = omega (arith, front_in g.tiles.now n m c.loop-t-test.true) in
    let o = c.of.ensures in
    let is = routed_read g.s g.tiles.now l.t h c.requires.2 c.distances-d.result c.distances-d.ensures _ _ _ _ _ _ (front_read g.tiles.now n m l.t zero_tile c.loop-t-test.true) (o.west 0) (o.south 0) (o.north 0) (o.east 0) c.route_tile.ensures in
    redone_turn (routed_at g.s g.tiles.now) g.tiles.now l.out l.t c.route_tile.result (omega arith) l.invariant is

pub returns : goal.returns
returns c =
    let g = c.args in
    let l = c.loop-t in
    redone_end (routed_at g.s g.tiles.now) g.tiles.now l.out l.t (total g.s) (front_end g.tiles.now c.tile_count.result (omega arith) l.t c.loop-t-test.false l.auto.t-end ∙ c.tile_count.ensures) l.invariant
