use native.Mathlib.Omega.{arith}
use Rattle.image_record_read.proofs.Refusals.{counters_long, counters_right}
use Rattle.image_record_read.proofs.read_counters.Goals as goal

pub returns-then-n-from : goal.returns-then-n-from
returns-then-n-from c = let g = c.args in (counters_long g.h g.n (omega arith), tt)

pub returns : goal.returns
returns c = (counters_right _ _ (omega arith), c.counters_at.ensures)
