use native.Mathlib.Omega.{arith}
use Rattle.image_record_read.proofs.Refusals.{layout_long, layout_right}
use Rattle.image_record_read.proofs.read_layout.Goals as goal

pub returns-then-n-ne16 : goal.returns-then-n-ne16
returns-then-n-ne16 c = (layout_long c.args.n (omega arith), tt)

pub returns : goal.returns
returns c = (layout_right _ (omega arith), c.layout_at.ensures)
