use Rattle.floor.specs.Calls.{forget_answer}
use Rattle.console_tiles.specs.Typed.{forget_typed}
use Rattle.console_tiles.proofs.Typed.{name_unread, name_read}
use Rattle.console_tiles.proofs.forget.Goals as goal

pub returns-then-not-ended : goal.returns-then-not-ended
unfolding forget_typed
returns-then-not-ended g c = name_unread forget_answer _ _ _ _ c.ended.ensures c.if-not-ended.true c.cannot.ensures

pub returns : goal.returns
unfolding forget_typed
returns g c = name_read forget_answer _ _ _ _ _ _ c.ended.ensures c.if-not-ended.false c.name_at-letters.ensures c.forget-answer.ensures c.named.ensures
