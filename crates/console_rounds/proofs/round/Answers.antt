use Rattle.console_rounds.proofs.Typed.{round_refused, round_accepted}
use Rattle.std.proofs.Common.{rules}
use Rattle.console_rounds.proofs.round.Goals as goal

pub returns-then-done-ne0 : goal.returns-then-done-ne0
returns-then-done-ne0 g c = search (round_refused, rules)

pub returns : goal.returns
returns g c = search (round_accepted, rules)
