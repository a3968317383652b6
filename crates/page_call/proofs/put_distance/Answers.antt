use Rattle.page_call.proofs.Pieces.{distance_stopped, distance_none, distance_some}
use borrow.Author.Rules.{rules}
use Rattle.page_call.proofs.put_distance.Goals as goal

pub returns-then-h-ne1 : goal.returns-then-h-ne1
returns-then-h-ne1 c = search (distance_stopped, rules)

pub returns-then-d : goal.returns-then-d
returns-then-d c = search (distance_none, rules)

pub returns-else-d : goal.returns-else-d
returns-else-d c = search (distance_some, rules)
