use Prim.Native.Nat.{◌+◌, ◌*◌}
use mathlib.Core.Path.{◌≡◌, ◌∙◌, ap}
use native.Mathlib.Omega.{arith}
use lib.ListN.{drop}
use Rattle.image_bytes.specs.Bytes.{le}
use Rattle.image_bytes.proofs.FieldLaws.{le_two, le_four, le_eight}
use Rattle.image_bytes.proofs.U64LittleEndian.read_at.Goals as goal

pub returns : goal.returns
returns c =
    let g = c.args in
    let s = g.s.now in
    let e : g.at + 4 + 2 ≡ g.at + 6 = omega arith in
    let high = le_four s (g.at + 4) ∙ ap (λ k. le 2 (drop (g.at + 4) s) + le 2 (drop k s) * 65536) e in
    omega (
      arith,
      le_eight s g.at,
      le_four s g.at,
      high,
      le_two s g.at (g.at + 1) (omega arith) (omega arith),
      le_two s (g.at + 2) (g.at + 3) (omega arith) (omega arith),
      le_two s (g.at + 4) (g.at + 5) (omega arith) (omega arith),
      le_two s (g.at + 6) (g.at + 7) (omega arith) (omega arith),
      c.from_le_bytes.ensures,
    )
