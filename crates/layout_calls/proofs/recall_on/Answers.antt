use Rattle.std.proofs.Common.{rules}
use Rattle.layout_calls.proofs.Packed.{places_fit, tiles_few, recall_malformed, recall_refused, recall_accepted}
use Rattle.layout_calls.proofs.recall_on.Goals as goal

pub returns-then-not-well : goal.returns-then-not-well
returns-then-not-well c = search (recall_malformed, rules)

pub held_set-requires : goal.held_set-requires
held_set-requires c = search (places_fit, rules)

pub returns-in_err-set : goal.returns-in_err-set
returns-in_err-set c = search (recall_refused, rules)

pub recall_tiles-tiles-requires : goal.recall_tiles-tiles-requires
recall_tiles-tiles-requires c = search (tiles_few, rules)

pub returns : goal.returns
returns c = search (recall_accepted, rules)
