use Rattle.laws.proofs.Tests.{pick_yes, pick_no}
use Rattle.throughput.specs.Window.{higher}
use Rattle.throughput.proofs.greater.Goals as goal

pub returns-then-b-a : goal.returns-then-b-a
unfolding higher
returns-then-b-a c = pick_yes _ _ c.if-b-a.true

pub returns-else-b-a : goal.returns-else-b-a
unfolding higher
returns-else-b-a c = pick_no _ _ c.if-b-a.false
