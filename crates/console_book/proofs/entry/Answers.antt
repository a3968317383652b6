use Rattle.console_book.proofs.Typed.{entry_unread, entry_read}
use borrow.Author.Rules.{rules}
use Rattle.console_book.proofs.entry.Goals as goal

pub returns-in-Some : goal.returns-in-Some
returns-in-Some g c = search (entry_read, rules)

pub returns-in-None : goal.returns-in-None
returns-in-None g c = search (entry_unread, rules)
