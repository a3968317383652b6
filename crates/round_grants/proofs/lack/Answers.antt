use Rattle.round_grants.proofs.SignalLaws.{lack_west, lack_south, lack_north, lack_east, lack_none}
use borrow.Author.Rules.{rules}
use Rattle.round_grants.proofs.lack.Goals as goal

pub returns-in-WEST : goal.returns-in-WEST
returns-in-WEST c = search (lack_west, rules)

pub returns-in-SOUTH : goal.returns-in-SOUTH
returns-in-SOUTH c = search (lack_south, rules)

pub returns-in-NORTH : goal.returns-in-NORTH
returns-in-NORTH c = search (lack_north, rules)

pub returns-in-EAST : goal.returns-in-EAST
returns-in-EAST c = search (lack_east, rules)

pub returns-in_default : goal.returns-in_default
returns-in_default c = search (lack_none, rules)
