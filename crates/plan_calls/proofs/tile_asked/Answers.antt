use Rattle.plan_calls.proofs.Answers.{few_sound, release_unsound, release_malformed, release_out_of_range, release_misfit, release_ready}
use Rattle.plan_calls.proofs.tile_asked.Goals as goal

pub returns-then-not-sound-clause-tests : goal.returns-then-not-sound-clause-tests
returns-then-not-sound-clause-tests c = release_unsound c.args.plan c.args.floor c.args.label c.if-not-sound.ensures

pub returns-then-not-well_formed-clause-tests : goal.returns-then-not-well_formed-clause-tests
returns-then-not-well_formed-clause-tests c = release_malformed c.args.plan c.args.floor c.args.label c.if-not-sound.ensures c.if-not-well_formed.ensures

pub used-entries-requires : goal.used-entries-requires
used-entries-requires c = few_sound c.args.plan c.if-not-sound.ensures

pub returns-then-not-all_upto-clause-tests : goal.returns-then-not-all_upto-clause-tests
returns-then-not-all_upto-clause-tests c = release_out_of_range c.args.plan c.args.floor c.args.label c.if-not-sound.ensures c.if-not-well_formed.ensures c.used-entries.result.now c.used-entries.ensures _ c.booked_numbers-numbers.ensures.1 c.if-not-all_upto.ensures

pub fits-requires : goal.fits-requires
fits-requires c = few_sound c.args.plan c.if-not-sound.ensures

pub returns-then-not-fits-clause-tests : goal.returns-then-not-fits-clause-tests
returns-then-not-fits-clause-tests c = release_misfit c.args.plan c.args.floor c.args.label c.if-not-sound.ensures c.if-not-well_formed.ensures c.used-entries.result.now c.used-entries.ensures _ c.booked_numbers-numbers.ensures.1 c.if-not-all_upto.ensures c.if-not-fits.ensures

pub returns-clause-tests : goal.returns-clause-tests
returns-clause-tests c = rw c.ok_or.ensures.value (release_ready c.args.plan c.args.floor c.args.label c.if-not-sound.ensures c.if-not-well_formed.ensures c.used-entries.result.now c.used-entries.ensures _ c.booked_numbers-numbers.ensures.1 c.if-not-all_upto.ensures c.if-not-fits.ensures c.tile_ready.result c.tile_ready.ensures.ready)
