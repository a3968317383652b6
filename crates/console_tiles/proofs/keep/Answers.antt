use Rattle.floor.specs.Calls.{keep_answer}
use Rattle.console_tiles.specs.Typed.{keep_typed}
use Rattle.console_tiles.proofs.Typed.{name_unread, name_read}
use Rattle.console_tiles.proofs.keep.Goals as goal

pub returns-then-not-ended : goal.returns-then-not-ended
unfolding keep_typed
returns-then-not-ended g c = name_unread keep_answer _ _ _ _ c.ended.ensures c.if-not-ended.true c.cannot.ensures

pub returns : goal.returns
unfolding keep_typed
returns g c = name_read keep_answer _ _ _ _ _ _ c.ended.ensures c.if-not-ended.false c.name_at-letters.ensures c.keep-answer.ensures c.named.ensures
