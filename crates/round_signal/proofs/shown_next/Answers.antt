use borrow.Author.Tests.{lt-ltb, le-ltb}
use Rattle.laws.proofs.Tests.{pick_yes, pick_no}
use Rattle.round_signal.proofs.shown_next.Goals as goal

pub returns-then-count-gt0 : goal.returns-then-count-gt0
returns-then-count-gt0 c = let g = c.args in pick_yes (g.next).code 0 (lt-ltb 0 g.count c.if-count-gt0.true)

pub returns : goal.returns
returns c = let g = c.args in pick_no (g.next).code 0 (le-ltb 0 g.count c.if-count-gt0.false)
