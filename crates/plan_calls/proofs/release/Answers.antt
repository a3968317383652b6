use Rattle.std.proofs.Common.{◌∙◌}
use Rattle.plan_calls.proofs.Answers.{release_refused, release_few, release_well, release_unbooked, release_booked}
use Rattle.plan_calls.proofs.release.Goals as goal

pub returns-in-Err : goal.returns-in-Err
returns-in-Err c = c.refused.ensures ∙ rw c.from.ensures (release_refused c.args.plan c.args.floor c.args.label c.in-Err.why c.in-Err.ensures.tests)

pub anywhere_checked-placed-requires : goal.anywhere_checked-placed-requires
anywhere_checked-placed-requires c = release_well c.args.plan c.args.floor c.args.label c.in-Ok.ensures.tests

pub returns-then-placed-ne0 : goal.returns-then-placed-ne0
returns-then-placed-ne0 c = c.refused-then-placed-ne0.ensures ∙ release_unbooked c.args.plan c.args.floor c.args.label c.in-Ok.ensures.tests c.in-Ok.tile c.in-Ok.ensures.tile c.number_after-number.result c.number_after-number.ensures c.anywhere_checked-placed.result c.anywhere_checked-placed.ensures c.if-placed-ne0.true

pub plan_released-requires : goal.plan_released-requires
plan_released-requires c = release_few c.args.plan c.args.floor c.args.label c.in-Ok.ensures.tests

pub returns : goal.returns
returns c = release_booked c.args.plan c.args.floor c.args.label c.in-Ok.ensures.tests c.in-Ok.tile c.in-Ok.ensures.tile c.number_after-number.result c.number_after-number.ensures c.anywhere_checked-placed.result c.anywhere_checked-placed.ensures c.plan_released.result c.if-placed-ne0.false c.plan_released.ensures
