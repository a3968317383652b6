use Rattle.round_parts.proofs.Ways.{goes, stays}
use borrow.Author.Rules.{rules}
use Rattle.round_parts.proofs.way_of.Goals as goal

pub returns-then-eq : goal.returns-then-eq
returns-then-eq c = search (goes, rules)

pub returns-else-eq : goal.returns-else-eq
returns-else-eq c = search (stays, rules)
