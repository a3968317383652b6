use Prim.Native.Nat.{◌+◌}
use native.Mathlib.Omega.{arith}
use Rattle.image_bytes.proofs.FieldLaws.{le_two, le_four}
use Rattle.image_bytes.proofs.U32LittleEndian.read_at.Goals as goal

pub returns : goal.returns
returns c =
    let g = c.args in
    let s = g.s.now in
    omega (
      arith,
      le_four s g.at,
      le_two s g.at (g.at + 1) (omega arith) (omega arith),
      le_two s (g.at + 2) (g.at + 3) (omega arith) (omega arith),
      c.from_le_bytes.ensures,
    )
