use mathlib.Core.Path.{refl}
use Rattle.round_signal.specs.InternalSignalling.{tokened}
use Rattle.round_signal.proofs.with_token.Goals as goal

pub returns : goal.returns
unfolding tokened
returns c = refl
