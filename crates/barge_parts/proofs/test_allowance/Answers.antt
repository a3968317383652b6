use borrow.Author.Tests.{le-leb, lt-leb}
use Rattle.laws.specs.Define.{refusal}
use Rattle.barge_parts.proofs.test_allowance.Goals as goal

pub returns-then-allowance-total : goal.returns-then-allowance-total
unfolding refusal
returns-then-allowance-total c = let g = c.args in rw (le-leb g.allowance g.total c.if-allowance-total.true)

pub returns : goal.returns
unfolding refusal
returns c = let g = c.args in rw (lt-leb g.allowance g.total c.if-allowance-total.false)
