use mathlib.Core.Path.{◌≡◌, refl, sym, ◌∙◌}
use mathlib.Core.Bool.{true}
use Rattle.floor.specs.Well.{well_formed}
use Rattle.floor.specs.Calls.{repair_answer}
use Rattle.floor.proofs.Answers.{answer_malformed, answer_refused, answer_accepted}
use Rattle.floor.proofs.Refusing.{refusing}
use Rattle.calls.proofs.repair.Goals as goal

pub returns-then-not-well_formed : goal.returns-then-not-well_formed
unfolding repair_answer
returns-then-not-well_formed c = c.refused.ensures ∙ answer_malformed _ _ _ (sym c.well_formed-2.ensures ∙ c.if-not-well_formed.true)

pub test_repair-requires : goal.test_repair-requires
test_repair-requires c = sym c.well_formed-2.ensures ∙ c.if-not-well_formed.false

pub returns-in-Err : goal.returns-in-Err
unfolding repair_answer
returns-in-Err c = c.refused-in-Err.ensures ∙ answer_refused _ _ _ (sym c.well_formed-2.ensures ∙ c.if-not-well_formed.false) _ c.in-Err.ensures (refusing c.in-Err.why)

pub repaired_floor-repaired-requires : goal.repaired_floor-repaired-requires
repaired_floor-repaired-requires c = (sym c.well_formed-2.ensures ∙ c.if-not-well_formed.false, sym c.in_default.ensures)

pub returns : goal.returns
unfolding repair_answer
returns c = answer_accepted _ _ _ (sym c.well_formed-2.ensures ∙ c.if-not-well_formed.false) 0 c.in_default.ensures refl c.repaired_floor-repaired.result c.repaired_floor-repaired.ensures
