use Rattle.console_on.proofs.Typed.{book_answer_lem}
use Rattle.std.proofs.Common.{rules}
use Rattle.console_on.proofs.placed.Goals as goal

pub returns : goal.returns
returns g c = search (book_answer_lem, rules)
