use Rattle.laws.proofs.Tests.{pick_yes, pick_no}
use Rattle.throughput.specs.Window.{lower}
use Rattle.throughput.proofs.lesser.Goals as goal

pub returns-then-a-b : goal.returns-then-a-b
unfolding lower
returns-then-a-b c = pick_yes _ _ c.if-a-b.true

pub returns-else-a-b : goal.returns-else-a-b
unfolding lower
returns-else-a-b c = pick_no _ _ c.if-a-b.false
