use Rattle.std.proofs.Common.{rules}
use Rattle.plan_calls.proofs.Answers.{few_sound, offer_unsound, offer_misfit, offer_made}
use Rattle.plan_calls.proofs.label_offered.Goals as goal

pub returns-then-not-sound : goal.returns-then-not-sound
returns-then-not-sound c = search (offer_unsound, rules)

pub fits-requires : goal.fits-requires
fits-requires c = search (few_sound, rules)

pub returns-then-not-fits : goal.returns-then-not-fits
returns-then-not-fits c = search (offer_misfit, rules)

pub lowest_ready-requires : goal.lowest_ready-requires
lowest_ready-requires c = search (few_sound, rules)

pub returns : goal.returns
returns c = search (offer_made, rules)
