use Rattle.std.proofs.Common.{rules}
use Rattle.layout_calls.proofs.Packed.{places_fit, forget_malformed, forget_refused, forget_accepted}
use Rattle.layout_calls.proofs.forget_on.Goals as goal

pub returns-then-not-well : goal.returns-then-not-well
returns-then-not-well c = search (forget_malformed, rules)

pub held_set-requires : goal.held_set-requires
held_set-requires c = search (places_fit, rules)

pub returns-in_err-held_set : goal.returns-in_err-held_set
returns-in_err-held_set c = search (forget_refused, rules)

pub returns : goal.returns
returns c = search (forget_accepted, rules)
