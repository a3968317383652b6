use Rattle.round_route.proofs.RouteLaws.{kept_yes, kept_no}
use borrow.Author.Rules.{rules}
use Rattle.round_route.proofs.Around+u8.kept.Goals as goal

pub returns-then-lies_at : goal.returns-then-lies_at
returns-then-lies_at c = search (kept_yes, rules)

pub returns : goal.returns
returns c = search (kept_no, rules)
