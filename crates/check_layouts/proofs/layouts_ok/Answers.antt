use mathlib.Core.Path.{sym, ◌∙◌}
use Rattle.check_layouts.proofs.Loops.{places_start, places_more, places_fail, places_end}
use Rattle.check_layouts.proofs.layouts_ok.Goals as goal

pub loop-x-init : goal.loop-x-init
loop-x-init c = places_start c.args.s c.args.layouts _ c.well_formed.1.0.1.0.1 (cc)

pub loop-x-preserved : goal.loop-x-preserved
loop-x-preserved c =
    let e = c.in-Some.ensures in
    let l = c.loop-x in
    places_more c.args.s c.args.layouts l.x-iterator.iter.rest.now c.next.new.self.iter.rest.now c.in-Some.x.now l.above e.steps l.invariant (sym c.place_ok.ensures ∙ c.if-not-place_ok.false)

pub returns-then-not-place_ok : goal.returns-then-not-place_ok
returns-then-not-place_ok c =
    let e = c.in-Some.ensures in
    let l = c.loop-x in
    places_fail c.args.s c.args.layouts l.x-iterator.iter.rest.now c.next.new.self.iter.rest.now c.in-Some.x.now l.above e.steps l.invariant (sym c.place_ok.ensures ∙ c.if-not-place_ok.true)

pub returns : goal.returns
returns c =
    let e = c.in-None.ensures in
    let l = c.loop-x in
    places_end c.args.s c.args.layouts l.x-iterator.iter.rest.now l.above e.steps.0 l.invariant
