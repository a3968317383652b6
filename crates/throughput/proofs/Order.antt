-- Rates stand in the order of their counts.
use Rattle.std.proofs.Common.{◌≡◌, ℕ, ◌*◌, ◌<◌, ◌≤◌, min, max, Bool, true, false, cond, ltb, refl, ap, ◌∙◌, mul_assoc, mul_comm, lt_of_mul-lt-mul_right, mul-lt-mul_of_pos_right, mul-pos, mul_right_comm, arith, lit<, ltb-false, ltb-true, lt-ltb}
use lib.Ieee.{Float, nan, inf, fin, up, down, lt, le, eq, div, of_int, of_bits}
use lib.Ieee.Exact.{HasValue}
use lib.Ieee.Fits.{down_pos}
use lib.Ieee.Bits.{is_true}
use lib.Ieee.Order.{le_of_values}
use Rattle.laws.proofs.Tests.{same_test}
use Rattle.throughput.specs.Rate.{rate_of, rate_sound}
use Rattle.throughput.specs.Window.{lower, higher, zero64}
use Rattle.throughput.proofs.Exact.{rate_exact, value_sound}

-- A / E is a / 256, B / D is b / 256: the fractions stand as a and b
scaled : (A E a D : ℕ) → A * 256 ≡ a * E → A * D * 256 ≡ a * (E * D)
scaled A E a D h = mul_right_comm A D 256 ∙ ap (λ (x : ℕ). x * D) h ∙ mul_assoc a E D

cross : (A E a B D b : ℕ) → 0 < E → 0 < D → A * 256 ≡ a * E → B * 256 ≡ b * D → a < b → A * D < B * E
cross A E a B D b p q h k l =
    let e1 = scaled A E a D h in
    let e2 : B * E * 256 ≡ b * (E * D) = scaled B D b E k ∙ ap (λ (x : ℕ). b * x) (mul_comm D E) in
    let m : a * (E * D) < b * (E * D) = mul-lt-mul_of_pos_right l (mul-pos p q) in
    omega (arith, e1, e2, m)

back : (A E a B D b : ℕ) → A * 256 ≡ a * E → B * 256 ≡ b * D → A * D < B * E → a < b
back A E a B D b h k l =
    let e1 = scaled A E a D h in
    let e2 : B * E * 256 ≡ b * (E * D) = scaled B D b E k ∙ ap (λ (x : ℕ). b * x) (mul_comm D E) in
    let m : a * (E * D) < b * (E * D) = omega (arith, e1, e2, l) in
    lt_of_mul-lt-mul_right (E * D) m

lt_values : (x y : Float) (a b : ℕ) → HasValue x false a 256 → HasValue y false b 256 → lt x y ≡ ltb a b
unfolding lt
lt_values nan y a b v w = absurd v
lt_values (inf s) y a b v w = absurd v
lt_values (fin s m e) nan a b v w = absurd w
lt_values (fin s m e) (inf t) a b v w = absurd w
lt_values (fin s m e) (fin t n d) a b v w =
    rw (v.0, w.0)
    (same_test (ltb (m * up e * down d) (n * up d * down e)) (ltb a b)
    (λ h. lt-ltb a b (back (m * up e) (down e) a (n * up d) (down d) b v.1 w.1 (ltb-true _ _ h)))
    (λ h. lt-ltb _ _ (cross (m * up e) (down e) a (n * up d) (down d) b (down_pos e) (down_pos d) v.1 w.1 (ltb-true a b h))))

pub rate_lt : (a b : ℕ) → a ≤ 1024 → b ≤ 1024 → lt (rate_of a) (rate_of b) ≡ ltb a b
rate_lt a b h k = lt_values (rate_of a) (rate_of b) a b (rate_exact a h) (rate_exact b k)

pub rate_le : (a b : ℕ) → a ≤ b → b ≤ 1024 → le (rate_of a) (rate_of b) ≡ true
rate_le a b h k = is_true _ (le_of_values (rate_of a) (rate_of b) a 256 b 256 (lit< tt) (lit< tt) (rate_exact a (omega arith)) (rate_exact b k) (omega arith))

pub rate_is_sound : (n : ℕ) → n ≤ 1024 → rate_sound (rate_of n) ≡ true
rate_is_sound n h = value_sound (rate_of n) n h (rate_exact n h)

pub rate_lower : (a b : ℕ) → a ≤ 1024 → b ≤ 1024 → lower (rate_of a) (rate_of b) ≡ rate_of (min a b)
unfolding lower
rate_lower a b h k = rw (rate_lt a b h k) (go (ltb a b) refl)
  where
    go : (t : Bool) → ltb a b ≡ t → cond t (rate_of a) (rate_of b) ≡ rate_of (min a b)
    go true e = let l = ltb-true a b e in ap rate_of (omega arith)
    go false e = let l = ltb-false a b e in ap rate_of (omega arith)

pub rate_higher : (a b : ℕ) → a ≤ 1024 → b ≤ 1024 → higher (rate_of a) (rate_of b) ≡ rate_of (max a b)
unfolding higher
rate_higher a b h k = rw (rate_lt b a k h) (go (ltb b a) refl)
  where
    go : (t : Bool) → ltb b a ≡ t → cond t (rate_of a) (rate_of b) ≡ rate_of (max a b)
    go true e = let l = ltb-true b a e in ap rate_of (omega arith)
    go false e = let l = ltb-false b a e in ap rate_of (omega arith)

pub rate_zero : rate_of 0 ≡ zero64
unfolding rate_of of_int of_bits div
rate_zero = refl

pub zero_is : eq zero64 zero64 ≡ true
unfolding eq
zero_is = refl
