use Rattle.call_parts.proofs.Tests.{read_4, read_0}
use borrow.Author.Rules.{rules}
use Rattle.call_parts.proofs.test_read.Goals as goal

pub returns-then-tile_count-tile : goal.returns-then-tile_count-tile
returns-then-tile_count-tile c = search (read_4, rules)

pub returns : goal.returns
returns c = search (read_0, rules)
