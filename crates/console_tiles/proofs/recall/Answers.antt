use Rattle.floor.specs.Calls.{recall_answer}
use Rattle.console_tiles.specs.Typed.{recall_typed}
use Rattle.console_tiles.proofs.Typed.{name_unread, name_read}
use Rattle.console_tiles.proofs.recall.Goals as goal

pub returns-then-not-ended : goal.returns-then-not-ended
unfolding recall_typed
returns-then-not-ended g c = name_unread recall_answer _ _ _ _ c.ended.ensures c.if-not-ended.true c.cannot.ensures

pub returns : goal.returns
unfolding recall_typed
returns g c = name_read recall_answer _ _ _ _ _ _ c.ended.ensures c.if-not-ended.false c.name_at-letters.ensures c.recall-answer.ensures c.named.ensures
