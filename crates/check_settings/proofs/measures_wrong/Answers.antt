use Rattle.check_settings.proofs.Groups.{rules_broken, rules_short, rules_apart, rules_kept}
use borrow.Author.Rules.{rules}
use Rattle.check_settings.proofs.measures_wrong.Goals as goal

pub returns-then-rules_wrong : goal.returns-then-rules_wrong
returns-then-rules_wrong c = search (rules_broken, rules)

pub overflow_sub-span : goal.overflow_sub-span
overflow_sub-span c = search (rules_short, rules)

pub nonzero_div-result : goal.nonzero_div-result
nonzero_div-result c = search (rules_apart, rules)

pub returns : goal.returns
returns c = search (rules_kept, rules)
