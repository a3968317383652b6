use Rattle.std.proofs.Common.{rules}
use Rattle.layout_calls.proofs.Packed.{places_fit, tiles_few, keep_malformed, keep_refused, keep_accepted}
use Rattle.layout_calls.proofs.keep_on.Goals as goal

pub returns-then-not-well : goal.returns-then-not-well
returns-then-not-well c = search (keep_malformed, rules)

pub test_keep-requires : goal.test_keep-requires
test_keep-requires c = search (places_fit, rules)

pub returns-in_err-test_keep : goal.returns-in_err-test_keep
returns-in_err-test_keep c = search (keep_refused, rules)

pub running_set-set-requires : goal.running_set-set-requires
running_set-set-requires c = search (tiles_few, rules)

pub returns : goal.returns
returns c = search (keep_accepted, rules)
