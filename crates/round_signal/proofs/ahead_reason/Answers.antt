use Rattle.round_signal.proofs.ReasonLaws.{why_turn, why_gap, why_moved}
use borrow.Author.Rules.{rules}
use Rattle.round_signal.proofs.ahead_reason.Goals as goal

pub returns-then-ne : goal.returns-then-ne
returns-then-ne c = search (why_turn, rules)

pub returns-then-lack-gt0 : goal.returns-then-lack-gt0
returns-then-lack-gt0 c = search (why_gap, rules)

pub returns : goal.returns
returns c = search (why_moved, rules)
