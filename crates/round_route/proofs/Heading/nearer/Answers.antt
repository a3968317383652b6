use borrow.Author.Tests.{lt-ltb, le-ltb}
use Rattle.laws.proofs.Tests.{pick_yes, pick_no}
use Rattle.floor.specs.Route as R
use Rattle.round_route.specs.InternalRouted.{heading}
use Rattle.round_route.proofs.Heading.nearer.Goals as goal

pub returns-then-distance-self : goal.returns-then-distance-self
unfolding R.nearer
returns-then-distance-self c = let g = c.args in pick_yes _ (heading g.self) (lt-ltb g.distance (g.self).distance c.if-distance-self.true)

pub returns : goal.returns
unfolding R.nearer
returns c = let g = c.args in pick_no (record { distance = g.distance; side = (g.side).code }) (heading g.self) (le-ltb g.distance (g.self).distance c.if-distance-self.false)
