use Rattle.console_on.proofs.Typed.{stop_unread, stop_read}
use Rattle.console_on.proofs.stop.Goals as goal

pub returns-in-Some : goal.returns-in-Some
returns-in-Some g c = stop_read _ _ _ _ _ _ c.in-Some.ensures c.stop-answer.ensures c.pressed.ensures

pub returns-in-None : goal.returns-in-None
returns-in-None g c = stop_unread _ _ _ _ c.in-None.ensures c.cannot.ensures
