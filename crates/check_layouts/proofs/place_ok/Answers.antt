use borrow.Author.Tests.{eq-eqb, ne_eqb}
use Rattle.floor.specs.Well.{place_ok}
use Rattle.check_layouts.proofs.place_ok.Goals as goal

pub returns-then-x-eq0 : goal.returns-then-x-eq0
unfolding place_ok
returns-then-x-eq0 c = rw (eq-eqb c.args.x.name 0 c.if-x-eq0.true)

pub returns-else-x-eq0 : goal.returns-else-x-eq0
unfolding place_ok
returns-else-x-eq0 c = rw (ne_eqb c.args.x.name 0 c.if-x-eq0.false, c.layout_ok.ensures)
