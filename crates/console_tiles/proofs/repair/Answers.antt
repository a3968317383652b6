use Rattle.floor.specs.Calls.{repair_answer}
use Rattle.console_tiles.specs.Typed.{repair_typed}
use Rattle.console_tiles.proofs.Typed.{tile_unread, tile_read}
use Rattle.console_tiles.proofs.repair.Goals as goal

pub returns-in-Some : goal.returns-in-Some
unfolding repair_typed
returns-in-Some g c = tile_read repair_answer _ _ _ _ _ c.in-Some.ensures c.repair.ensures c.pressed.ensures

pub returns-in-None : goal.returns-in-None
unfolding repair_typed
returns-in-None g c = tile_unread repair_answer _ _ _ c.in-None.ensures c.cannot.ensures
