use Rattle.floor.specs.Memory.{is_zero_canister}
use Rattle.check_places.proofs.Words.{word_zero}
use Rattle.check_places.proofs.is_zero_canister.Goals as goal

pub returns : goal.returns
unfolding is_zero_canister
returns c = let g = c.args.c in word_zero g.number g.a g.b
