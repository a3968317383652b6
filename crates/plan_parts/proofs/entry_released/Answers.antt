use Rattle.std.proofs.Common.{◌∙◌, sym, eq-eqb, ne_eqb}
use Rattle.plan.specs.Entries.{released}
use Rattle.plan_parts.proofs.entry_released.Goals as goal

pub returns-then-from-label : goal.returns-then-from-label
unfolding released
returns-then-from-label c = rw (eq-eqb c.args.e.label c.args.label (sym c.from.ensures ∙ c.if-from-label.true))

pub returns : goal.returns
unfolding released
returns c = rw (ne_eqb c.args.e.label c.args.label (λ q. c.if-from-label.false (c.from.ensures ∙ q)))
