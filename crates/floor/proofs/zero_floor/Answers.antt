use mathlib.Core.Path.{refl}
use Rattle.floor.specs.Memory.{zero_floor}
use Rattle.floor.proofs.zero_floor.Goals as goal

pub returns : goal.returns
unfolding zero_floor
returns c = refl
