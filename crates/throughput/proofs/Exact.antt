-- The 1,025 rates: each is exact, each passes the test, and nothing else does.
use Rattle.std.proofs.Common.{◌≡◌, ℕ, ◌+◌, ◌-◌, ◌*◌, ◌/◌, ◌%◌, ◌^◌, ◌<◌, ◌≤◌, Bool, true, false, cond, not, T, eqb, leb, ℤ, pos, sym, refl, ap, ◌∙◌, subst, true≢false, le_trans, lt_of_le_of_lt, add-zero, mul-le-mul_right, mul_assoc, mul_comm, mul-pos, div-add-mod', mul_right_comm, le_of_mul-le-mul_right, arith, lit<, lit≤, le→leb, ltb-true, lt-ltb, eq-eqb, eqb-true, le-leb, leb-true}
use mathlib.Core.Bool.{false≢true}
use native.Mathlib.Nat.{mul-mod_left}
use lib.Ieee.{Float, nan, inf, fin, binary64, top, hid, size, up, down, div, mul, lt, of_int, of_bits, to_bits, to_unsigned, in_float, is_nan, fits}
use lib.Ieee.Exact.{HasValue, round_exact}
use lib.Ieee.Scale.{round_same}
use lib.Ieee.Fits.{down_pos, div-fits}
use lib.Ieee.Back.{unsigned_back, round_whole}
use lib.Ieee.Bits.{of_bits-to_bits}
use lib.Ieee.Nearest.{div_same}
use Rattle.laws.proofs.Tests.{and_left, and_right, and_true, same_test}
use Rattle.throughput.specs.Rate.{per_window, rate_of, rate_sound}

-- ---- a count as an f64, and that over 256
pub whole_value : (n : ℕ) → n ≤ 1024 → HasValue (of_int binary64 (pos n)) false n 1
unfolding of_int
whole_value n h = round_whole binary64 false n (le_trans h (lit≤ tt))

over : (x : Float) (n : ℕ) → n ≤ 1024 → HasValue x false n 1 → HasValue (div binary64 x (fin false 1 (pos 8))) false n 256
unfolding div
over nan n h v = absurd v
over (inf s) n h v = absurd v
over (fin s m e) n h v =
    let a : s ≡ false = v.0 in
    let b : m * up e * 1 ≡ n * down e = v.1 in
    let same : m * up e * 1 * 256 ≡ n * (256 * down e) = rw b (mul_assoc n (down e) 256 ∙ ap (λ (k : ℕ). n * k) (mul_comm (down e) 256)) in
    rw a (rw (round_same binary64 false (m * up e * 1) (256 * down e) n 256 (mul-pos (lit< tt) (down_pos e)) (lit< tt) same)
    (round_exact binary64 false n 256 n 1066 (lit< tt) (lt_of_le_of_lt h (lit< tt))
    (lt_of_le_of_lt (mul-le-mul_right (2 ^ 1066) h) (lit< tt)) (sym (mul_assoc n (2 ^ 1066) 256))))

-- "The rate times 256 is the deliveries exactly"
pub rate_exact : (n : ℕ) → n ≤ 1024 → HasValue (rate_of n) false n 256
unfolding rate_of of_bits
rate_exact n h = over (of_int binary64 (pos n)) n h (whole_value n h)

pub rate_fits : (n : ℕ) → T (fits binary64 (rate_of n))
unfolding rate_of
rate_fits n = div-fits binary64 (of_int binary64 (pos n)) per_window

-- ---- the test, and the count that passes it
pub value_sound : (x : Float) (n : ℕ) → n ≤ 1024 → HasValue x false n 256 → rate_sound x ≡ true
unfolding rate_sound
value_sound nan n h v = absurd v
value_sound (inf s) n h v = absurd v
value_sound (fin s m e) n h v =
    let a : s ≡ false = v.0 in
    let b : m * up e * 256 ≡ n * down e = v.1 in
    rw (a, b) (and_true (eq-eqb _ _ (mul-mod_left n (down e))) (le-leb _ _ (mul-le-mul_right (down e) h)))

pub sound_value : (x : Float) → rate_sound x ≡ true → (n : ℕ) × (n ≤ 1024) × HasValue x false n 256
unfolding rate_sound
sound_value nan h = absurd (false≢true h)
sound_value (inf s) h = absurd (false≢true h)
sound_value (fin true m e) h = absurd (false≢true h)
sound_value (fin false m e) h =
    let w = m * up e * 256 in
    let z : w % down e ≡ 0 = eqb-true _ _ (and_left (eqb (w % down e) 0) (leb w (1024 * down e)) h) in
    let l : w ≤ 1024 * down e = leb-true _ _ (and_right (eqb (w % down e) 0) (leb w (1024 * down e)) h) in
    let q : w ≡ w / down e * down e = sym (div-add-mod' w (down e)) ∙ ap (λ (k : ℕ). w / down e * down e + k) z ∙ add-zero _ in
    (w / down e, le_of_mul-le-mul_right (subst (λ (k : ℕ). k ≤ 1024 * down e) q l) (down_pos e), (refl, q))

-- ---- the bits of a rate are its value's
-- the bits of a finite value: its sign, and its size in units of the smallest value
shape : Bool → ℕ → ℕ
shape s n = let k = size n - 53 in cond s (top binary64) 0 + k * hid binary64 + n / 2 ^ k

shape_is : (s : Bool) (m : ℕ) (e : ℤ) → to_bits binary64 (fin s m e) ≡ shape s (m * up e * 2 ^ 1074 / down e)
unfolding to_bits shape
shape_is s m e = refl

units : (m n : ℕ) (e : ℤ) → m * up e * 256 ≡ n * down e → m * up e * 2 ^ 1074 / down e ≡ n * 2 ^ 1074 / 256
units m n e h =
    div_same (m * up e * 2 ^ 1074) (down e) (n * 2 ^ 1074) 256 (down_pos e) (lit< tt)
    (mul_right_comm (m * up e) (2 ^ 1074) 256 ∙ ap (λ (k : ℕ). k * 2 ^ 1074) h ∙ mul_right_comm n (down e) (2 ^ 1074))

pub same_bits : (x y : Float) (n : ℕ) → HasValue x false n 256 → HasValue y false n 256 → to_bits binary64 x ≡ to_bits binary64 y
same_bits nan y n v w = absurd v
same_bits (inf s) y n v w = absurd v
same_bits (fin s m e) nan n v w = absurd w
same_bits (fin s m e) (inf t) n v w = absurd w
same_bits (fin s m e) (fin t k d) n v w =
    shape_is s m e ∙ (rw (v.0, w.0, units m n e v.1, units k n d w.1) refl) ∙ sym (shape_is t k d)

pub bits_same : (x y : Float) → T (fits binary64 x) → T (fits binary64 y) → to_bits binary64 x ≡ to_bits binary64 y → x ≡ y
bits_same x y f g e = sym (of_bits-to_bits binary64 x f) ∙ ap (of_bits binary64) e ∙ of_bits-to_bits binary64 y g

-- ---- times 256
pub times : (x : Float) (n : ℕ) → n ≤ 1024 → HasValue x false n 256 → mul binary64 x (fin false 1 (pos 8)) ≡ of_int binary64 (pos n)
unfolding mul of_int
times nan n h v = absurd v
times (inf s) n h v = absurd v
times (fin s m e) n h v =
    let a : s ≡ false = v.0 in
    let b : m * up e * 256 ≡ n * down e = v.1 in
    rw a (round_same binary64 false (m * up e * 256) (down e * 1) n 1 (mul-pos (down_pos e) (lit< tt)) (lit< tt) (rw b (mul_assoc n (down e) 1)))

pub cut : (n : ℕ) → n ≤ 1024 → to_unsigned 64 (of_int binary64 (pos n)) ≡ n
unfolding in_float
cut n h = (unsigned_back binary64 64 n (le→leb _ _ (le_trans h (lit≤ tt))) (lt_of_le_of_lt h (lit< tt))).1

-- ---- the two comparisons
pub above_one : (x : Float) (n : ℕ) → HasValue x false n 1 → lt (fin true 1 (pos 0)) x ≡ true
unfolding lt
above_one nan n v = absurd v
above_one (inf s) n v = absurd v
above_one (fin s m e) n v = rw v.0 (lt-ltb 0 (1 * down e + m * up e * 1) (omega (arith, down_pos e)))

pub below_limit : (x : Float) (n : ℕ) → n ≤ 1024 → HasValue x false n 1 → lt x (fin false 1025 (pos 0)) ≡ true
unfolding lt
below_limit nan n h v = absurd v
below_limit (inf s) n h v = absurd v
below_limit (fin s m e) n h v =
    let a : n * down e ≤ 1024 * down e = mul-le-mul_right (down e) h in
    rw v.0 (lt-ltb (m * up e * 1) (1025 * down e) (omega (arith, a, v.1, down_pos e)))

-- what is below 1,025 is below 2 ^ 64
pub far_below : (x : Float) → lt x (fin false 1025 (pos 0)) ≡ true → lt x (fin false 1 (pos 64)) ≡ true
unfolding lt
far_below nan h = h
far_below (inf s) h = h
far_below (fin true m e) h = lt-ltb 0 (m * up e * 1 + 18446744073709551616 * down e) (omega (arith, down_pos e))
far_below (fin false m e) h =
    let a : m * up e * 1 < 1025 * down e = ltb-true _ _ h in
    lt-ltb (m * up e * 1) (18446744073709551616 * down e) (omega (arith, a))

-- a product that is above something is no NaN's
above_nan : (z : Float) → lt z nan ≡ false
unfolding lt
above_nan nan = refl
above_nan (inf s) = refl
above_nan (fin s m e) = refl

pub no_nan : (x y z : Float) → lt z (mul binary64 x y) ≡ true → T (not (is_nan x))
unfolding mul is_nan
no_nan nan y z h = absurd (true≢false (sym h ∙ above_nan z))
no_nan (inf s) y z h = tt
no_nan (fin s m e) y z h = tt

pub value_no_nan : (x : Float) (n : ℕ) → HasValue x false n 256 → T (not (is_nan x))
unfolding is_nan
value_no_nan nan n v = absurd v
value_no_nan (inf s) n v = absurd v
value_no_nan (fin s m e) n v = tt

-- ---- the steps of the test: where the rate is sound, each passes with its count
pub step_above : (x : Float) → rate_sound x ≡ true → lt (fin true 1 (pos 0)) (mul binary64 x (fin false 1 (pos 8))) ≡ true
step_above x h =
    let v = sound_value x h in
    rw (times x v.0 v.1 v.2) (above_one (of_int binary64 (pos v.0)) v.0 (whole_value v.0 v.1))

pub step_below : (x : Float) → rate_sound x ≡ true → lt (mul binary64 x (fin false 1 (pos 8))) (fin false 1025 (pos 0)) ≡ true
step_below x h =
    let v = sound_value x h in
    rw (times x v.0 v.1 v.2) (below_limit (of_int binary64 (pos v.0)) v.0 v.1 (whole_value v.0 v.1))

pub step_count : (x : Float) (k : ℕ) → k ≡ to_unsigned 64 (mul binary64 x (fin false 1 (pos 8))) → rate_sound x ≡ true → (k ≤ 1024) × HasValue x false k 256
step_count x k e h =
    let v = sound_value x h in
    let n = v.0 in
    let q : n ≡ k = sym (e ∙ ap (to_unsigned 64) (times x n v.1 v.2) ∙ cut n v.1) in
    subst (λ (j : ℕ). (j ≤ 1024) × HasValue x false j 256) q (v.1, v.2)

pub step_bits : (x : Float) (k : ℕ) → T (fits binary64 x) → k ≤ 1024 → k ≡ to_unsigned 64 (mul binary64 x (fin false 1 (pos 8)))
    → eqb (to_bits binary64 x) (to_bits binary64 (rate_of k)) ≡ rate_sound x
step_bits x k f l e = same_test (eqb (to_bits binary64 x) (to_bits binary64 (rate_of k))) (rate_sound x)
    (λ b. let q : x ≡ rate_of k = bits_same x (rate_of k) f (rate_fits k) (eqb-true _ _ b) in
    rw q (value_sound (rate_of k) k l (rate_exact k l)))
    (λ h. eq-eqb _ _ (same_bits x (rate_of k) k (step_count x k e h).1 (rate_exact k l)))

-- a sound rate is the rate of a count, to the bit
pub sound_rate : (x : Float) → T (fits binary64 x) → rate_sound x ≡ true → (n : ℕ) × (n ≤ 1024) × (x ≡ rate_of n)
sound_rate x f h =
    let v = sound_value x h in
    (v.0, v.1, bits_same x (rate_of v.0) f (rate_fits v.0) (same_bits x (rate_of v.0) v.0 v.2 (rate_exact v.0 v.1)))
