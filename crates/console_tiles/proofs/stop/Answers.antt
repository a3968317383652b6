use Rattle.floor.specs.Calls.{stop_answer}
use Rattle.console_tiles.specs.Typed.{stop_typed}
use Rattle.console_tiles.proofs.Typed.{tile_unread, tile_read}
use Rattle.console_tiles.proofs.stop.Goals as goal

pub returns-in-Some : goal.returns-in-Some
unfolding stop_typed
returns-in-Some g c = tile_read stop_answer _ _ _ _ _ c.in-Some.ensures c.stop.ensures c.pressed.ensures

pub returns-in-None : goal.returns-in-None
unfolding stop_typed
returns-in-None g c = tile_unread stop_answer _ _ _ c.in-None.ensures c.cannot.ensures
