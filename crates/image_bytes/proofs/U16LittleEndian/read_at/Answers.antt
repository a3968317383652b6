use Prim.Native.Nat.{◌+◌}
use native.Mathlib.Omega.{arith}
use Rattle.image_bytes.proofs.FieldLaws.{le_two}
use Rattle.image_bytes.proofs.U16LittleEndian.read_at.Goals as goal

pub returns : goal.returns
returns c = let g = c.args in omega (arith, le_two g.s.now g.at (g.at + 1) (omega arith) (omega arith), c.from_le_bytes.ensures)
