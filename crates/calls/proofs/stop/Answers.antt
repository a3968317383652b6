use mathlib.Core.Path.{◌≡◌, refl, sym, ◌∙◌}
use mathlib.Core.Bool.{true}
use Rattle.floor.specs.Well.{well_formed}
use Rattle.floor.specs.Calls.{stop_answer}
use Rattle.floor.proofs.Answers.{answer_malformed, answer_refused, answer_accepted}
use Rattle.floor.proofs.Refusing.{refusing}
use Rattle.calls.proofs.stop.Goals as goal

pub returns-then-not-well_formed : goal.returns-then-not-well_formed
unfolding stop_answer
returns-then-not-well_formed c = c.refused.ensures ∙ answer_malformed _ _ _ (sym c.well_formed-2.ensures ∙ c.if-not-well_formed.true)

pub test_stop-requires : goal.test_stop-requires
test_stop-requires c = sym c.well_formed-2.ensures ∙ c.if-not-well_formed.false

pub returns-in-Err : goal.returns-in-Err
unfolding stop_answer
returns-in-Err c = c.refused-in-Err.ensures ∙ answer_refused _ _ _ (sym c.well_formed-2.ensures ∙ c.if-not-well_formed.false) _ c.in-Err.ensures (refusing c.in-Err.why)

pub stopped_floor-stopped-requires : goal.stopped_floor-stopped-requires
stopped_floor-stopped-requires c = (sym c.well_formed-2.ensures ∙ c.if-not-well_formed.false, sym c.in_default.ensures)

pub returns : goal.returns
unfolding stop_answer
returns c = answer_accepted _ _ _ (sym c.well_formed-2.ensures ∙ c.if-not-well_formed.false) 0 c.in_default.ensures refl c.stopped_floor-stopped.result c.stopped_floor-stopped.ensures
