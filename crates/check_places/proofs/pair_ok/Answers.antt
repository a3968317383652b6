use Rattle.floor.specs.Well.{in_order}
use Rattle.check_places.proofs.pair_ok.Goals as goal

pub returns : goal.returns
unfolding in_order
returns c = rw c.stands_apart.ensures
