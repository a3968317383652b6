use Rattle.floor.specs.Route as R
use Rattle.round_route.proofs.Around+u8.nearest.Goals as goal

pub returns : goal.returns
unfolding R.nearest
returns c = cc
