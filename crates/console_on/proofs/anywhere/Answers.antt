use Rattle.console_on.proofs.Typed.{anywhere_refused, anywhere_accepted}
use Rattle.std.proofs.Common.{rules}
use Rattle.console_on.proofs.anywhere.Goals as goal

pub returns-then-answer-ne0 : goal.returns-then-answer-ne0
returns-then-answer-ne0 g c = search (anywhere_refused, rules)

pub returns : goal.returns
returns g c = search (anywhere_accepted, rules)
