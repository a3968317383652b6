-- A place's eight bytes as one number.
use mathlib.Core.Path.{◌≡◌}
use mathlib.Core.Bool.{true, ◌&&◌}
use Prim.Native.Nat.{ℕ, ◌+◌, ◌*◌}
use native.Mathlib.Omega.{arith}
use lib.Dec.{eqb}
use borrow.Author.Tests.{eqb-true, eq-eqb}
use Rattle.laws.proofs.Tests.{same_test, and_left, and_right, and_true}

-- eight bytes as one number are 0 where each part is
pub word_zero : (n a b : ℕ) → eqb (n + a * 4294967296 + b * 281474976710656) 0 ≡ (eqb n 0 && (eqb a 0 && eqb b 0))
word_zero n a b = same_test (eqb (n + a * 4294967296 + b * 281474976710656) 0) (eqb n 0 && (eqb a 0 && eqb b 0)) into out
  where
    into : eqb (n + a * 4294967296 + b * 281474976710656) 0 ≡ true → (eqb n 0 && (eqb a 0 && eqb b 0)) ≡ true
    into p =
        let e = eqb-true (n + a * 4294967296 + b * 281474976710656) 0 p in
        and_true {a = eqb n 0} {b = eqb a 0 && eqb b 0} (eq-eqb n 0 (omega arith)) (and_true {a = eqb a 0} {b = eqb b 0} (eq-eqb a 0 (omega arith)) (eq-eqb b 0 (omega arith)))

    out : (eqb n 0 && (eqb a 0 && eqb b 0)) ≡ true → eqb (n + a * 4294967296 + b * 281474976710656) 0 ≡ true
    out p =
        let q = and_right (eqb n 0) (eqb a 0 && eqb b 0) p in
        let x = eqb-true n 0 (and_left (eqb n 0) (eqb a 0 && eqb b 0) p) in
        let y = eqb-true a 0 (and_left (eqb a 0) (eqb b 0) q) in
        let z = eqb-true b 0 (and_right (eqb a 0) (eqb b 0) q) in
        eq-eqb (n + a * 4294967296 + b * 281474976710656) 0 (omega arith)
