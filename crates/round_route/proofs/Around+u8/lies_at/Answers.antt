use Rattle.round_route.proofs.RouteLaws.{lies_west, lies_south, lies_north, lies_east, lies_none}
use borrow.Author.Rules.{rules}
use Rattle.round_route.proofs.Around+u8.lies_at.Goals as goal

pub returns-in-WEST : goal.returns-in-WEST
returns-in-WEST c = search (lies_west, rules)

pub returns-in-SOUTH : goal.returns-in-SOUTH
returns-in-SOUTH c = search (lies_south, rules)

pub returns-in-NORTH : goal.returns-in-NORTH
returns-in-NORTH c = search (lies_north, rules)

pub returns-in-EAST : goal.returns-in-EAST
returns-in-EAST c = search (lies_east, rules)

pub returns-in_default : goal.returns-in_default
returns-in_default c = search (lies_none, rules)
