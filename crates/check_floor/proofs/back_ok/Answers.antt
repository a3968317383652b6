use borrow.Author.Tests.{eq-eqb, ne_eqb}
use Rattle.check_floor.specs.InternalTile.{back_test}
use Rattle.check_floor.proofs.back_ok.Goals as goal

pub returns-then-n-eq0 : goal.returns-then-n-eq0
unfolding back_test
returns-then-n-eq0 c = rw (eq-eqb c.args.n 0 c.if-n-eq0.true)

pub returns-else-n-eq0 : goal.returns-else-n-eq0
unfolding back_test
returns-else-n-eq0 c = rw (ne_eqb c.args.n 0 c.if-n-eq0.false) c.places_ok.ensures
