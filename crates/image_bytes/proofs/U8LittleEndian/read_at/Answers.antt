use mathlib.Core.Path.{sym}
use native.Mathlib.Omega.{arith}
use Rattle.image_bytes.proofs.FieldLaws.{le_one}
use Rattle.image_bytes.proofs.U8LittleEndian.read_at.Goals as goal

pub returns : goal.returns
returns c = sym (le_one c.args.s.now c.args.at (omega arith))
