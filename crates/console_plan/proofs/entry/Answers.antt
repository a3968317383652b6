use Rattle.console_plan.specs.Typed.{entry_typed}
use Rattle.console_plan.proofs.Lines.{entry_unread, entry_read}
use borrow.Author.Rules.{rules}
use Rattle.console_plan.proofs.entry.Goals as goal

pub returns-in-Some : goal.returns-in-Some
unfolding entry_typed
returns-in-Some g c = search (entry_read, rules)

pub returns-in-None : goal.returns-in-None
returns-in-None g c = search (entry_unread, rules)
