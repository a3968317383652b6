use mathlib.Core.Path.{◌∙◌}
use borrow.Author.Tests.{lt-ltb, le-ltb}
use Rattle.laws.proofs.Bits.{one_shl}
use Rattle.sets.proofs.single.Goals as goal

pub returns-then-t-lt64 : goal.returns-then-t-lt64
returns-then-t-lt64 c = let t = c.before.args.t in one_shl t c.if-t-lt64.true ∙ rw (lt-ltb t 64 c.if-t-lt64.true)

pub returns : goal.returns
returns c = let t = c.before.args.t in rw (le-ltb t 64 c.if-t-lt64.false)
