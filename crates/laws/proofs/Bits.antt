-- Bits of a number, and of one that is changed by a power of two, as the code of `sets` changes it.
use Prim.Native.Nat.{ℕ, zero, suc, ◌+◌, ◌-◌, ◌*◌, ◌/◌, ◌%◌, ◌^◌, ◌≤◌, ◌<◌}
use mathlib.Core.Path.{◌≡◌, refl, ap, sym, ◌∙◌, subst}
use mathlib.Core.Bool.{Bool, true, false, cond, ◌||◌, ◌&&◌, not, true≢false, false≢true}
use mathlib.Core.Logic.{◌⊎◌, inl, inr}
use native.Mathlib.Nat.{lt_of_lt_of_le, one-mul, mul_comm, pow-suc, div-one, div-div-eq-div-mul, div-lt_iff_lt-mul, div-add-mod', div-eq_of_lt, zero-mod, mod-lt}
use native.Mathlib.Numerals.{add-one}
use native.Mathlib.Omega.{arith}
use lib.Dec.{eqb, ltb, lit<}
use lib.Pow.{pow-lt, pow_mono, pow-add, pow_pos, shl-shr, shl_exact, split}
use lib.Bits.{bit_and, bit_or, bit_xor, or_lt, or_shifted_r, or_shr, or_mod, xor_shr, xor_mod, shifted_even, and_mask}
use borrow.Author.Tests.{eqb-true, eqb-false, ltb-true, ltb-false, eq-eqb, lt-ltb}
use Rattle.laws.specs.Define.{bit}
use Rattle.laws.proofs.Tests.{same_test}

-- ---- the power of two that the code makes by 1 << t, and its bits
pub one_shl : (t : ℕ) → t < 64 → 1 * 2 ^ t % 2 ^ 64 ≡ 2 ^ t
one_shl t h = shl_exact {a = 1} 1 t 64 (lit< tt) (omega arith) ∙ one-mul (2 ^ t)

above : (t k : ℕ) → k < t → 2 ^ t / 2 ^ k % 2 ≡ 0
above t k h =
    let j = t - k - 1 in
    let e : t ≡ suc j + k = rw (← add-one) (omega arith) in
    rw (e, pow-add, shl-shr) (ap (λ (x : ℕ). x % 2) (sym (one-mul (2 ^ suc j))) ∙ shifted_even 1 j)

one_at : (t k : ℕ) (b : Bool) → eqb k t ≡ b → 2 ^ t / 2 ^ k % 2 ≡ cond b 1 0
one_at t k true e = rw (eqb-true k t e) (ap (λ (x : ℕ). x / 2 ^ t % 2) (sym (one-mul (2 ^ t))) ∙ ap (λ (x : ℕ). x % 2) (shl-shr 1 t))
one_at t k false e = go (ltb k t) refl
  where
    go : (b : Bool) → ltb k t ≡ b → 2 ^ t / 2 ^ k % 2 ≡ 0
    go true p = above t k (ltb-true k t p)
    go false p =
        let n : k ≡ t → ⊥ = eqb-false k t e in
        let le : t ≤ k = ltb-false k t p in
        let lt : t < k = omega (arith, n) in
        rw (div-eq_of_lt (pow-lt lt)) (zero-mod 2)

below_two : (r : ℕ) → r < 2 → (r ≡ 0) ⊎ (r ≡ 1)
below_two zero h = inl refl
below_two (suc zero) h = inr refl
below_two (suc (suc r)) h = absurd (omega arith)

or_cases : (b : Bool) (r : ℕ) → (r ≡ 0) ⊎ (r ≡ 1) → eqb (bit_or r (cond b 1 0)) 1 ≡ (b || eqb r 1)
or_cases true r (inl e) = rw e
or_cases true r (inr e) = rw e
or_cases false r (inl e) = rw e
or_cases false r (inr e) = rw e

xor_cases : (b : Bool) (r : ℕ) → (r ≡ 0) ⊎ (r ≡ 1) → (b ≡ true → r ≡ 1) → eqb (bit_xor r (cond b 1 0)) 1 ≡ (not b && eqb r 1)
xor_cases true r s h = rw (h refl)
xor_cases false r (inl e) h = rw e
xor_cases false r (inr e) h = rw e

-- ---- numbers with the same bits are the same
half_bit : (x k : ℕ) → bit (x / 2) k ≡ bit x (suc k)
unfolding bit
half_bit x k = ap (λ (y : ℕ). eqb (y % 2) 1) (div-div-eq-div-mul x 2 (2 ^ k) ∙ ap (λ (y : ℕ). x / y) (mul_comm 2 (2 ^ k) ∙ sym (pow-suc 2 k)))

same_parity : (x y : ℕ) → bit x 0 ≡ bit y 0 → x % 2 ≡ y % 2
unfolding bit
same_parity x y e = go (x % 2) (y % 2) (below_two _ (mod-lt x (lit< tt))) (below_two _ (mod-lt y (lit< tt))) (sym (ap (λ (z : ℕ). eqb (z % 2) 1) (div-one x)) ∙ e ∙ ap (λ (z : ℕ). eqb (z % 2) 1) (div-one y))
  where
    go : (a b : ℕ) → (a ≡ 0) ⊎ (a ≡ 1) → (b ≡ 0) ⊎ (b ≡ 1) → eqb a 1 ≡ eqb b 1 → a ≡ b
    go a b (inl p) (inl q) h = p ∙ sym q
    go a b (inl p) (inr q) h = absurd (false≢true (rw (p, q) at h))
    go a b (inr p) (inl q) h = absurd (true≢false (rw (p, q) at h))
    go a b (inr p) (inr q) h = p ∙ sym q

pub bits_same : (n x y : ℕ) → x < 2 ^ n → y < 2 ^ n → ((k : ℕ) → bit x k ≡ bit y k) → x ≡ y
bits_same zero x y h j e = omega (arith, h, j)
bits_same (suc n) x y h j e =
    let half : (z : ℕ) → z < 2 ^ suc n → z / 2 < 2 ^ n = λ z l. (div-lt_iff_lt-mul (lit< tt)).1 (subst (λ (m : ℕ). z < m) (pow-suc 2 n) l) in
    let q = bits_same n (x / 2) (y / 2) (half x h) (half y j) (λ k. half_bit x k ∙ e (suc k) ∙ sym (half_bit y k)) in
    sym (div-add-mod' x 2) ∙ (λ i. q i * 2 + same_parity x y (e 0) i) ∙ div-add-mod' y 2

-- ---- a bit set, cleared and tested
pub with_bit : (s t k : ℕ) → bit (bit_or s (2 ^ t)) k ≡ (eqb k t || bit s k)
unfolding bit
with_bit s t k =
    rw (or_shr s (2 ^ t) k, or_mod (s / 2 ^ k) (2 ^ t / 2 ^ k) 1, one_at t k (eqb k t) refl)
    (or_cases (eqb k t) (s / 2 ^ k % 2) (below_two _ (mod-lt (s / 2 ^ k) (lit< tt))))

-- above all bits of s
pub with_above : (s t r : ℕ) → t < 64 → r < 2 ^ 64 → s < 2 ^ t → ((k : ℕ) → bit r k ≡ (eqb k t || bit s k)) → r ≡ 2 ^ t + s
with_above s t r h w l e =
    let q : bit_or s (2 ^ t) ≡ 2 ^ t + s = ap (bit_or s) (sym (one-mul (2 ^ t))) ∙ or_shifted_r 1 t s l ∙ ap (λ (x : ℕ). x + s) (one-mul (2 ^ t)) in
    let le : t ≤ 64 = omega arith in
    bits_same 64 r (bit_or s (2 ^ t)) w (or_lt 64 s (2 ^ t) (lt_of_lt_of_le l (pow_mono le)) (pow-lt h)) (λ k. e k ∙ sym (with_bit s t k)) ∙ q

pub without_bit : (s t k : ℕ) → bit s t ≡ true → bit (bit_xor s (2 ^ t)) k ≡ (not (eqb k t) && bit s k)
unfolding bit
without_bit s t k on =
    rw (xor_shr s (2 ^ t) k, xor_mod (s / 2 ^ k) (2 ^ t / 2 ^ k) 1, one_at t k (eqb k t) refl)
    (xor_cases (eqb k t) (s / 2 ^ k % 2) (below_two _ (mod-lt (s / 2 ^ k) (lit< tt)))
    (λ e. rw (eqb-true k t e) (eqb-true _ 1 on)))

pub without_none : (s t k : ℕ) → bit s t ≡ false → bit s k ≡ (not (eqb k t) && bit s k)
without_none s t k off = go (eqb k t) refl
  where
    go : (b : Bool) → eqb k t ≡ b → bit s k ≡ (not b && bit s k)
    go true e = rw (eqb-true k t e) off
    go false e = refl

pub test_bit : (s t : ℕ) → eqb (bit_and (s / 2 ^ t) 1) 1 ≡ bit s t
unfolding bit
test_bit s t = ap (λ (x : ℕ). eqb x 1) (and_mask (s / 2 ^ t) 1)

-- the code's test that no bit stands from n on
pub shr_none : (x n : ℕ) → eqb (x / 2 ^ n) 0 ≡ ltb x (2 ^ n)
shr_none x n = same_test (eqb (x / 2 ^ n) 0) (ltb x (2 ^ n)) (λ h. lt-ltb x (2 ^ n) (into (eqb-true (x / 2 ^ n) 0 h))) (λ h. eq-eqb (x / 2 ^ n) 0 (div-eq_of_lt (ltb-true x (2 ^ n) h)))
  where
    into : x / 2 ^ n ≡ 0 → x < 2 ^ n
    into e = omega (arith, rw e at (split x n), mod-lt x (pow_pos n))
