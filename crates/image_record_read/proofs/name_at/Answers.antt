use native.Mathlib.Omega.{arith}
use Rattle.image_record_read.proofs.Values.{name_code}
use Rattle.image_record_read.proofs.name_at.Goals as goal

pub returns : goal.returns
returns c = omega (arith, name_code c.args.s.now c.args.at c.requires, c.from_be_bytes.ensures)
