use Rattle.console_on.proofs.Typed.{on_refused, on_accepted}
use Rattle.std.proofs.Common.{rules}
use Rattle.console_on.proofs.answered.Goals as goal

pub returns-then-answer-ne0 : goal.returns-then-answer-ne0
returns-then-answer-ne0 g c = search (on_refused, rules)

pub returns : goal.returns
returns g c = search (on_accepted, rules)
