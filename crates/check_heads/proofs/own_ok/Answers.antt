use mathlib.Core.Path.{sym, ◌∙◌}
use borrow.Author.Tests.{eq-eqb, ne_eqb}
use Rattle.floor.specs.Settings.{is_hopper}
use Rattle.check_heads.proofs.own_ok.Goals as goal

pub returns-then-holds : goal.returns-then-holds
unfolding is_hopper
returns-then-holds c = rw (c.hopper_ok.ensures, sym c.holds.ensures ∙ c.if-holds.true)

pub returns-then-h-eq1 : goal.returns-then-h-eq1
unfolding is_hopper
returns-then-h-eq1 c = rw (c.running_ok.ensures, sym c.holds.ensures ∙ c.if-holds.false, eq-eqb c.args.h.running 1 c.if-h-eq1.true)

pub returns-else-h-eq1 : goal.returns-else-h-eq1
unfolding is_hopper
returns-else-h-eq1 c = rw (c.stopped_ok.ensures, sym c.holds.ensures ∙ c.if-holds.false, ne_eqb c.args.h.running 1 c.if-h-eq1.false)
