use mathlib.Core.Path.{◌∙◌}
use native.Mathlib.Omega.{arith}
use borrow.Author.Tests.{lt-leb}
use Rattle.image_record_read.proofs.Walk.{layout_few, layout_kind}
use Rattle.image_record_read.proofs.is_layout.Goals as goal

pub returns-then-s-at-ge4 : goal.returns-then-s-at-ge4
returns-then-s-at-ge4 c = let g = c.args in layout_kind (g.s).now g.at _ (omega arith) c.read_at.ensures

pub returns-else-s-at-ge4 : goal.returns-else-s-at-ge4
returns-else-s-at-ge4 c = let g = c.args in lt-leb 4 _ (omega arith) ∙ layout_few (g.s).now g.at (omega arith)
