use Rattle.console_plan.proofs.Lines.{add_full, add_refused, add_accepted}
use borrow.Author.Rules.{rules}
use Rattle.console_plan.proofs.add.Goals as goal

pub returns-then-before-gt63 : goal.returns-then-before-gt63
returns-then-before-gt63 g c = search (add_full, rules)

pub returns-then-answer-ne0 : goal.returns-then-answer-ne0
returns-then-answer-ne0 g c = search (add_refused, rules)

pub returns : goal.returns
returns g c = search (add_accepted, rules)
