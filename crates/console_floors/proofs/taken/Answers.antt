use Rattle.console_floors.proofs.Held.{taken_refused, taken_kept, taken_new}
use borrow.Author.Rules.{rules}
use Rattle.console_floors.proofs.taken.Goals as goal

pub returns-then-answer-ne0 : goal.returns-then-answer-ne0
returns-then-answer-ne0 g c = search (taken_refused, rules)

pub returns-then-canisters-give_up : goal.returns-then-canisters-give_up
returns-then-canisters-give_up g c = search (taken_kept, rules)

pub returns : goal.returns
returns g c = search (taken_new, rules)
