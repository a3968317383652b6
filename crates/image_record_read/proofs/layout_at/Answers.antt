use Rattle.image_record_read.proofs.Values.{layout_code}
use Rattle.image_record_read.proofs.layout_at.Goals as goal

pub returns : goal.returns
returns c = let g = c.args in rw (layout_code (g.s).now g.at, c.name_at.ensures, c.read_at.ensures)
