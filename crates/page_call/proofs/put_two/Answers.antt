use Rattle.page_call.proofs.Pieces.{two_small, two_large}
use borrow.Author.Rules.{rules}
use Rattle.page_call.proofs.put_two.Goals as goal

pub returns-then-n-lt10 : goal.returns-then-n-lt10
returns-then-n-lt10 c = search (two_small, rules)

pub returns-else-n-lt10 : goal.returns-else-n-lt10
returns-else-n-lt10 c = search (two_large, rules)
