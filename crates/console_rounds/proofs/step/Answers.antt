use Rattle.console_rounds.proofs.Typed.{step_refused, step_accepted}
use Rattle.std.proofs.Common.{rules}
use Rattle.console_rounds.proofs.step.Goals as goal

pub returns-then-answer-ne0 : goal.returns-then-answer-ne0
returns-then-answer-ne0 c = search (step_refused, rules)

pub returns : goal.returns
returns c = search (step_accepted, rules)
