use Rattle.console_book.proofs.Typed.{book_answer_lem}
use borrow.Author.Rules.{rules}
use Rattle.console_book.proofs.placed.Goals as goal

pub returns : goal.returns
returns g c = search (book_answer_lem, rules)
