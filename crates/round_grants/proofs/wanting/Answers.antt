use Rattle.round_grants.proofs.SignalLaws.{wants_bit, wants_none}
use borrow.Author.Rules.{rules}
use Rattle.round_grants.proofs.wanting.Goals as goal

pub returns-then-eq : goal.returns-then-eq
returns-then-eq c = search (wants_bit, rules)

pub returns-else-eq : goal.returns-else-eq
returns-else-eq c = search (wants_none, rules)
