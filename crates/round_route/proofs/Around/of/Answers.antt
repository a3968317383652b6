use Rattle.round_route.proofs.Passes.{near_in}
use borrow.Author.Rules.{rules}
use Rattle.round_route.proofs.Around.of.Goals as goal

pub at-requires : goal.at-requires
at-requires g c = search (near_in, rules)

pub at-requires-2 : goal.at-requires-2
at-requires-2 g c = search (near_in, rules)

pub at-requires-3 : goal.at-requires-3
at-requires-3 g c = search (near_in, rules)

pub at-requires-4 : goal.at-requires-4
at-requires-4 g c = search (near_in, rules)
