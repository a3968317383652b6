use native.Mathlib.Nat.{mul-le-mul, lt_of_le_of_lt}
use lib.Dec.{lit<}
use Prim.Native.Nat.{◌≤◌}
use native.Mathlib.Omega.{arith}
use Rattle.floor.proofs.Settings.tile_count.Goals as goal

pub overflow_mul-result : goal.overflow_mul-result
overflow_mul-result c =
    let x : c.from.result ≤ 255 = omega arith in
    let y : c.from-2.result ≤ 255 = omega arith in
    record { fits = lt_of_le_of_lt (mul-le-mul x y) (lit< tt) }
