-- Bits of a number that is shifted in 64 bits, and of two joined.
use mathlib.Core.Path.{◌≡◌, refl, sym, ap, ◌∙◌}
use mathlib.Core.Bool.{false, ◌&&◌, ◌||◌}
use Prim.Native.Nat.{ℕ, zero, suc, ◌+◌, ◌-◌, ◌*◌, ◌/◌, ◌%◌, ◌^◌, ◌≤◌, ◌<◌}
use native.Mathlib.Nat.{mul_assoc, mod-lt}
use native.Mathlib.Omega.{arith}
use native.Mathlib.Decide.{dec_le}
use lib.Dec.{leb, eqb, lit<}
use lib.Pow.{pow-add, shl-shr, shr-shr, field, mod-mod-pow}
use lib.Bits.{bit_or, or_shr, or_mod, shifted_even}
use borrow.Author.Tests.{le-leb, lt-leb}
use Rattle.laws.specs.Define.{bit}

-- ---- downwards
pub shr_bit : (x r t : ℕ) → bit (x / 2 ^ r) t ≡ bit x (t + r)
unfolding bit
shr_bit x r t = let e : r + t ≡ t + r = omega arith in ap (λ (y : ℕ). eqb (y % 2) 1) (shr-shr x r t ∙ ap (λ (k : ℕ). x / 2 ^ k) e)

-- ---- upwards: the bits below n of a number that is cut to n
low_bit : (x n t : ℕ) → t < n → bit (x % 2 ^ n) t ≡ bit x t
unfolding bit
low_bit x n t h =
    let j = n - t - 1 in
    let e : n ≡ (j + 1) + t = omega arith in
    ap (λ (k : ℕ). eqb (x % 2 ^ k / 2 ^ t % 2) 1) e ∙ ap (λ (y : ℕ). eqb (y % 2) 1) (field x (j + 1) t) ∙ ap (λ (y : ℕ). eqb y 1) (mod-mod-pow (x / 2 ^ t) j 1)

high : (x r t : ℕ) → r ≤ t → bit (x * 2 ^ r) t ≡ bit x (t - r)
unfolding bit
high x r t h =
    let e : t ≡ r + (t - r) = omega arith in
    ap (λ (k : ℕ). eqb (x * 2 ^ r / 2 ^ k % 2) 1) e
    ∙ ap (λ (y : ℕ). eqb (y % 2) 1) (sym (shr-shr (x * 2 ^ r) r (t - r)) ∙ ap (λ (y : ℕ). y / 2 ^ (t - r)) (shl-shr x r))

low : (x r t : ℕ) → t < r → bit (x * 2 ^ r) t ≡ false
unfolding bit
low x r t h =
    let j = r - t - 1 in
    let e : r ≡ suc j + t = omega arith in
    ap (λ (k : ℕ). eqb (x * 2 ^ k / 2 ^ t % 2) 1) e
    ∙ ap (λ (y : ℕ). eqb (x * y / 2 ^ t % 2) 1) (pow-add 2 (suc j) t)
    ∙ ap (λ (y : ℕ). eqb (y / 2 ^ t % 2) 1) (sym (mul_assoc x (2 ^ suc j) (2 ^ t)))
    ∙ ap (λ (y : ℕ). eqb (y % 2) 1) (shl-shr (x * 2 ^ suc j) t)
    ∙ ap (λ (y : ℕ). eqb y 1) (shifted_even x j)

pub shl_bit : (x r t : ℕ) → t < 64 → bit (x * 2 ^ r % 2 ^ 64) t ≡ (leb r t && bit x (t - r))
shl_bit x r t h = low_bit (x * 2 ^ r) 64 t h ∙ go (dec_le r t)
  where
    go : Dec (r ≤ t) → bit (x * 2 ^ r) t ≡ (leb r t && bit x (t - r))
    go (yes l) = rw (le-leb r t l) (high x r t l)
    go (no l) = let k : t < r = omega arith in rw (lt-leb r t k) (low x r t k)

-- ---- joined
pub either_bit : (x y k : ℕ) → bit (bit_or x y) k ≡ (bit x k || bit y k)
unfolding bit
either_bit x y k =
    rw (or_shr x y k, or_mod (x / 2 ^ k) (y / 2 ^ k) 1)
    (cases (x / 2 ^ k % 2) (y / 2 ^ k % 2) (mod-lt (x / 2 ^ k) (lit< tt)) (mod-lt (y / 2 ^ k) (lit< tt)))
  where
    cases : (a b : ℕ) → a < 2 → b < 2 → eqb (bit_or a b) 1 ≡ (eqb a 1 || eqb b 1)
    cases zero zero h l = refl
    cases zero (suc zero) h l = refl
    cases (suc zero) zero h l = refl
    cases (suc zero) (suc zero) h l = refl
    cases zero (suc (suc b)) h l = absurd (omega arith)
    cases (suc zero) (suc (suc b)) h l = absurd (omega arith)
    cases (suc (suc a)) b h l = absurd (omega arith)
