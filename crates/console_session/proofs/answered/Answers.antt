use Rattle.console_session.proofs.Sessions.{call_refused, call_accepted}
use Rattle.console_session.proofs.answered.Goals as goal

pub returns-then-answer-ne0 : goal.returns-then-answer-ne0
returns-then-answer-ne0 g c = call_refused _ _ _ _ c.if-answer-ne0.true c.refused.ensures

pub returns : goal.returns
returns g c = call_accepted _ _ _ _ c.if-answer-ne0.false c.with_floor.ensures
