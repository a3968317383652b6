use Rattle.console_book.specs.Typed.{book_typed}
use Rattle.console_book.proofs.Typed.{book_two, book_unread, book_four, book_unread_is, book_four_is}
use borrow.Author.Rules.{rules}
use Rattle.console_book.proofs.book.Goals as goal

pub returns-in-Some : goal.returns-in-Some
unfolding book_typed
returns-in-Some g c = search (book_two, rules)

pub returns-in-Some-arguments : goal.returns-in-Some-arguments
unfolding book_typed
returns-in-Some-arguments g c = search (book_four, book_four_is, rules)

pub returns-in-None : goal.returns-in-None
returns-in-None g c = search (book_unread, book_unread_is, rules)
