use Rattle.console_plan.proofs.Lines.{numbers_two, numbers_three, numbers_four}
use borrow.Author.Rules.{rules}
use Rattle.console_plan.proofs.typed.Goals as goal

pub returns-then-ended : goal.returns-then-ended
returns-then-ended c = search (numbers_two, rules)

pub returns-then-ended-2 : goal.returns-then-ended-2
returns-then-ended-2 c = search (numbers_three, rules)

pub returns : goal.returns
returns c = search (numbers_four, rules)
