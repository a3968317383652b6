use Rattle.floor.specs.Well.{head_sound}
use Rattle.check_heads.proofs.head_ok.Goals as goal

pub returns : goal.returns
unfolding head_sound
returns c = rw (c.own_ok.ensures, c.faces_ok.ensures, c.faces_ok-2.ensures)
