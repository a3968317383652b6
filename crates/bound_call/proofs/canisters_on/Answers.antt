use Rattle.std.proofs.Common.{◌≡◌, ◌<◌, ◌∙◌, ap, arith}
use Rattle.std.proofs.lemmas.List.{length-take-le}
use Rattle.floor.specs.Settings.{total}
use Rattle.bound_call.specs.Sets.{canisters_in}
use Rattle.bound_call.proofs.Counts.{count_none, count_in, count_out}
use Rattle.bound_call.proofs.canisters_on.Goals as goal
use Rattle.bound_call.proofs.canisters_on.Goals.{then-holds, else-holds}

pub loop-t-init : goal.loop-t-init
loop-t-init c = record { small = omega arith; counted = count_none c.args.tiles c.args.set }

pub loop-t-preserved : goal.loop-t-preserved
loop-t-preserved c =
    let l = c.loop-t in
    let few = c.requires in
    let e = c.tile_count.ensures in
    let all = length-take-le c.tile_count.result c.args.tiles (omega (arith, c.well_formed.1.0.1.0.1)) in
    let inside : l.t < c.tile_count.result = omega arith in
    elim c.if-holds.branch [
      | then-holds w ↦ rw w.sum-is (record { small = omega (arith, l.invariant.small); counted = count_in c.args.tiles c.args.set c.tile_count.result l.t inside c.holds.ensures w.if-holds.true w.from-sum.ensures l.invariant.counted })
      | else-holds w ↦ rw w.sum-is (record { small = omega (arith, l.invariant.small); counted = count_out c.args.tiles c.args.set l.t c.holds.ensures w.if-holds.false l.invariant.counted })
    ]

pub returns : goal.returns
returns c =
    let few = c.requires in
    let e = c.tile_count.ensures in
    let all = length-take-le c.tile_count.result c.args.tiles (omega (arith, c.well_formed.1.0.1.0.1)) in
    let end : c.loop-t.t ≡ total c.args.s = omega arith in
    c.loop-t.invariant.counted ∙ ap (λ m. canisters_in m c.args.tiles c.args.set) end
