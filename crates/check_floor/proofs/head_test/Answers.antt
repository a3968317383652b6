use Rattle.check_floor.proofs.Branches.{head_off, head_in, head_on}
use borrow.Author.Rules.{rules}
use Rattle.check_floor.proofs.head_test.Goals as goal

pub returns-then-tile_count-t : goal.returns-then-tile_count-t
returns-then-tile_count-t c = search (head_off, rules)

pub head_ok-requires : goal.head_ok-requires
head_ok-requires c = search (head_in, rules)

pub returns-else-tile_count-t : goal.returns-else-tile_count-t
returns-else-tile_count-t c = search (head_on, rules)
