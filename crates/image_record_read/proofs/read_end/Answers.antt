use native.Mathlib.Omega.{arith}
use Rattle.image_record_read.proofs.Refusals.{end_long, end_right}
use Rattle.image_record_read.proofs.read_end.Goals as goal

pub returns-then-n-ne0 : goal.returns-then-n-ne0
returns-then-n-ne0 c = end_long c.args.n (omega arith)

pub returns : goal.returns
returns c = end_right c.args.n (omega arith)
