use Rattle.plan_calls.proofs.Answers.{report_unsound, report_count, report_misfit, report_marked}
use Rattle.plan_calls.proofs.plan_marked.Goals as goal

pub returns-then-sound-over_four : goal.returns-then-sound-over_four
returns-then-sound-over_four c = report_unsound c.args.plan c.args.given c.sound.result c.sound.ensures c.over_four.result c.over_four.ensures c.if-sound-over_four.true

pub fits-requires : goal.fits-requires
fits-requires c = report_count c.args.plan c.args.given c.sound.result c.sound.ensures c.over_four.result c.over_four.ensures c.if-sound-over_four.false

pub returns-then-not-fits : goal.returns-then-not-fits
returns-then-not-fits c = report_misfit c.args.plan c.args.given c.sound.result c.sound.ensures c.over_four.result c.over_four.ensures c.if-sound-over_four.false c.if-not-fits.ensures

pub plan_reported-requires : goal.plan_reported-requires
plan_reported-requires c = report_count c.args.plan c.args.given c.sound.result c.sound.ensures c.over_four.result c.over_four.ensures c.if-sound-over_four.false

pub returns : goal.returns
returns c = report_marked c.args.plan c.args.given c.sound.result c.sound.ensures c.over_four.result c.over_four.ensures c.if-sound-over_four.false c.if-not-fits.ensures c.plan_reported.result c.listed_numbers-numbers.ensures.1 c.plan_reported.ensures
