use Rattle.page_call.proofs.Pieces.{letter_west, letter_south, letter_north, letter_east, letter_rest}
use borrow.Author.Rules.{rules}
use Rattle.page_call.proofs.letter.Goals as goal

pub returns-in-WEST : goal.returns-in-WEST
returns-in-WEST c = search (letter_west, rules)

pub returns-in-SOUTH : goal.returns-in-SOUTH
returns-in-SOUTH c = search (letter_south, rules)

pub returns-in-NORTH : goal.returns-in-NORTH
returns-in-NORTH c = search (letter_north, rules)

pub returns-in-EAST : goal.returns-in-EAST
returns-in-EAST c = search (letter_east, rules)

pub returns-in_default : goal.returns-in_default
returns-in_default c = let m = c.in_default.in_default-own.rest in letter_rest _ m.0.0.0.1 m.0.0.1 m.0.1 m.1
