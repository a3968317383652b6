use Rattle.console_plan.proofs.Lines.{release_unread, release_floorless, release_refused, release_accepted}
use borrow.Author.Rules.{rules}
use Rattle.console_plan.proofs.release.Goals as goal

pub returns-in_default : goal.returns-in_default
returns-in_default g c = search (release_unread, rules)

pub returns-then-not-s : goal.returns-then-not-s
returns-then-not-s g c = search (release_floorless, rules)

pub returns-then-answer-ne0 : goal.returns-then-answer-ne0
returns-then-answer-ne0 g c = search (release_refused, rules)

pub returns : goal.returns
returns g c = release_accepted _ _ _ _ _ _ c.in-Some.ensures c.if-not-s.false c.release-answer.ensures c.if-answer-ne0.false c.with_floor-next.ensures c.with_plan.ensures
