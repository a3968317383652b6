use Rattle.round_signal.proofs.ReasonLaws.{why_stopped, why_empty, why_arrow, why_else}
use borrow.Author.Rules.{rules}
use Rattle.round_signal.proofs.own_reason.Goals as goal

pub returns-then-tile-ne1 : goal.returns-then-tile-ne1
returns-then-tile-ne1 c = search (why_stopped, rules)

pub returns-then-tile-eq0 : goal.returns-then-tile-eq0
returns-then-tile-eq0 c = search (why_empty, rules)

pub returns-then-eq : goal.returns-then-eq
returns-then-eq c = search (why_arrow, rules)

pub returns : goal.returns
returns c = search (why_else, rules)
