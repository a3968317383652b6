use mathlib.Core.Path.{sym, ◌∙◌}
use Rattle.laws.proofs.Bits.{one_shl, without_bit, without_none}
use Rattle.sets.proofs.without.Goals as goal

pub returns-then-has : goal.returns-then-has
returns-then-has c = let g = c.before.before.args in λ k. rw (one_shl g.t c.before.before.requires) (without_bit g.s g.t k (sym c.before.has.ensures ∙ c.if-has.true))

pub returns-else-has : goal.returns-else-has
returns-else-has c = let g = c.before.before.args in λ k. without_none g.s g.t k (sym c.before.has.ensures ∙ c.if-has.false)
