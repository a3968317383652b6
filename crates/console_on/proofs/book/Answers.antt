use Rattle.console_on.specs.Typed.{book_on}
use Rattle.console_on.proofs.Typed.{book_two, book_unread, book_four, book_unread_is, book_four_is}
use Rattle.std.proofs.Common.{rules}
use Rattle.console_on.proofs.book.Goals as goal

pub returns-in-Some : goal.returns-in-Some
unfolding book_on
returns-in-Some g c = search (book_two, rules)

pub returns-in-Some-arguments : goal.returns-in-Some-arguments
unfolding book_on
returns-in-Some-arguments g c = search (book_four, book_four_is, rules)

pub returns-in-None : goal.returns-in-None
returns-in-None g c = search (book_unread, book_unread_is, rules)
