use Rattle.std.proofs.Common.{refl, eq-eqb, ne_eqb}
use Rattle.throughput.specs.Window.{closed_by}
use Rattle.throughput.proofs.close.Goals as goal

pub returns-then-t-eq0 : goal.returns-then-t-eq0
unfolding closed_by
returns-then-t-eq0 c = rw (eq-eqb _ _ c.if-t-eq0.true) refl

pub returns : goal.returns
unfolding closed_by
returns c = rw (ne_eqb _ _ c.if-t-eq0.false, c.lesser.ensures, c.greater.ensures) refl
