use Rattle.console_book.proofs.Typed.{sent_refused, sent_accepted}
use borrow.Author.Rules.{rules}
use Rattle.console_book.proofs.send.Goals as goal

pub returns-then-answer-s : goal.returns-then-answer-s
returns-then-answer-s g c = search (sent_refused, rules)

pub returns : goal.returns
returns g c = search (sent_accepted, rules)
