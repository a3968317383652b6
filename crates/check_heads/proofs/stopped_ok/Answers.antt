use Rattle.floor.specs.Well.{stopped_sound}
use Rattle.check_heads.proofs.stopped_ok.Goals as goal

pub returns : goal.returns
unfolding stopped_sound
returns c = rw (c.eq.ensures, c.eq-2.ensures)
