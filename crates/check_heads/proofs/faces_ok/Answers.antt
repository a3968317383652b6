use Rattle.floor.specs.Well.{faces}
use Rattle.check_heads.proofs.faces_ok.Goals as goal

pub returns : goal.returns
unfolding faces
returns c = rw (c.eq.ensures, c.neighbour.ensures, c.tile_count.ensures)
