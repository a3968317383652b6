use Rattle.console_on.proofs.Typed.{repair_unread, repair_read}
use Rattle.console_on.proofs.repair.Goals as goal

pub returns-in-Some : goal.returns-in-Some
returns-in-Some g c = repair_read _ _ _ _ _ _ c.in-Some.ensures c.repair-answer.ensures c.pressed.ensures

pub returns-in-None : goal.returns-in-None
returns-in-None g c = repair_unread _ _ _ _ c.in-None.ensures c.cannot.ensures
