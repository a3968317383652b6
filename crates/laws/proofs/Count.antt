-- How many numbers below n pass a test; a test that implies another and passes as often is the other.
use mathlib.Core.Path.{◌≡◌, refl, sym, ap, ◌∙◌}
use mathlib.Core.Bool.{Bool, true, false, cond, false≢true}
use Prim.Native.Nat.{ℕ, zero, suc, ◌+◌, ◌≤◌, ◌<◌}
use native.Mathlib.Omega.{arith}
use native.Mathlib.Decide.{ℕ_discrete}

-- ---- how many pass
unfoldable pub count : (ℕ → Bool) → ℕ → ℕ
count p zero = 0
count p (suc n) = cond (p n) 1 0 + count p n

-- ---- a test that implies another passes no more often
bit_le : (a b : Bool) → (a ≡ true → b ≡ true) → cond {A = ℕ} a 1 0 ≤ cond b 1 0
bit_le true true f = omega arith
bit_le true false f = absurd (false≢true (f refl))
bit_le false true f = omega arith
bit_le false false f = omega arith

pub count_mono : (p q : ℕ → Bool) (n : ℕ) → ((t : ℕ) → p t ≡ true → q t ≡ true) → count p n ≤ count q n
unfolding count
count_mono p q zero f = omega arith
count_mono p q (suc n) f = omega (arith, bit_le (p n) (q n) (f n), count_mono p q n f)

-- where q passes no more often than p, which implies it, p passes wherever q does
pub count_same : (p q : ℕ → Bool) (n : ℕ) → ((t : ℕ) → p t ≡ true → q t ≡ true) → count q n ≤ count p n → (t : ℕ) → t < n → q t ≡ true → p t ≡ true
unfolding count
count_same p q zero f h t l e = absurd (omega arith)
count_same p q (suc n) f h t l e = go (ℕ_discrete t n) (count_same p q n f (omega (arith, bit_le (p n) (q n) (f n))) t)
  where
    last : (b : Bool) → p n ≡ b → q n ≡ true → p n ≡ true
    last true r k = r
    last false r k = absurd (omega (arith, count_mono p q n f, rw (r, k) at h))

    go : Dec (t ≡ n) → (t < n → q t ≡ true → p t ≡ true) → p t ≡ true
    go (yes k) ih = ap p k ∙ last (p n) refl (sym (ap q k) ∙ e)
    go (no k) ih = ih (omega arith) e

-- all of them pass
count_true : (n : ℕ) → count (λ _. true) n ≡ n
unfolding count
count_true zero = refl
count_true (suc n) = omega (arith, count_true n)

pub count_all : (p : ℕ → Bool) (n : ℕ) → n ≤ count p n → (t : ℕ) → t < n → p t ≡ true
count_all p n h t l = count_same p (λ _. true) n (λ _ _. refl) (omega (arith, count_true n)) t l refl

-- one passes
pub count_pos : (p : ℕ → Bool) (n t : ℕ) → t < n → p t ≡ true → 1 ≤ count p n
unfolding count
count_pos p zero t l e = absurd (omega arith)
count_pos p (suc n) t l e = go (ℕ_discrete t n) (count_pos p n t)
  where
    go : Dec (t ≡ n) → (t < n → p t ≡ true → 1 ≤ count p n) → 1 ≤ cond (p n) 1 0 + count p n
    go (yes q) ih = rw (sym (ap p q) ∙ e) (omega arith)
    go (no q) ih = omega (arith, ih (omega arith) e)
