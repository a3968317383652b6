use Rattle.floor.specs.Well.{hopper_sound}
use Rattle.check_heads.proofs.hopper_ok.Goals as goal

pub returns : goal.returns
unfolding hopper_sound
returns c = rw c.eq.ensures
