use mathlib.Core.Path.{sym, ◌∙◌}
use Rattle.check_settings.proofs.Groups.{settings_1, settings_2, settings_3, settings_0}
use borrow.Author.Rules.{rules}
use Rattle.check_settings.proofs.test_settings.Goals as goal

pub returns-then-sizes_wrong : goal.returns-then-sizes_wrong
returns-then-sizes_wrong c = search (settings_1, rules)

pub sets_wrong-requires : goal.sets_wrong-requires
sets_wrong-requires c = sym c.sizes_wrong.ensures ∙ c.if-sizes_wrong.false

pub returns-then-sets_wrong : goal.returns-then-sets_wrong
returns-then-sets_wrong c = search (settings_2, rules)

pub returns-then-measures_wrong : goal.returns-then-measures_wrong
returns-then-measures_wrong c = search (settings_3, rules)

pub returns : goal.returns
returns c = search (settings_0, rules)
