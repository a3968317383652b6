-- The least number below a bound, and the lowest place among canisters.
use mathlib.Core.Path.{◌≡◌, refl, ap, ◌∙◌, subst}
use mathlib.Core.Logic.{◌⊎◌, inl, inr, ◌↔◌}
use mathlib.Core.Bool.{Bool, true, false, cond}
use mathlib.Core.List.{List}
use Prim.Native.Nat.{ℕ, zero, suc, ◌+◌, ◌≤◌, ◌<◌}
use native.Mathlib.Omega.{arith}
use native.Mathlib.Decide.{ℕ_discrete}
use lib.Dec.{ltb}
use borrow.Author.Tests.{ltb-true, ltb-false}
use Rattle.laws.specs.Every.{All}
use Rattle.laws.proofs.Tests.{by_test, not_both, r_all}
use Rattle.floor.specs.declared.Canister.{Canister}
use Rattle.floor.specs.Well.{apart}
use Rattle.floor.specs.Anywhere.{least_from, least, clear, lowest_a_of, lowest_b_of}
use Rattle.floor.proofs.Sound.{Apart}
use Rattle.floor.proofs.Well.{apart_fact}

-- ---- what the least number x is: it passes if it is below the bound, and none before it does
pub record Least (p : ℕ → Bool) (k n x : ℕ) : Type 0 where
  pub from : k ≤ x
  pub upto : x ≤ n
  pub passes : x < n → p x ≡ true
  pub first : (y : ℕ) → k ≤ y → y < x → p y ≡ false

from_least : (p : ℕ → Bool) (k n : ℕ) → Least p k (k + n) (least_from p k n)
unfolding least_from
from_least p k zero = record { from = omega arith; upto = omega arith; passes = λ h. absurd (omega arith); first = λ y a b. absurd (omega arith) }
from_least p k (suc n) = go (p k) refl (from_least p (suc k) n)
  where
    r : ℕ
    r = least_from p (suc k) n

    go : (b : Bool) → p k ≡ b → Least p (suc k) (suc k + n) r → Least p k (k + suc n) (cond (p k) k r)
    go true e L = rw e (record { from = omega arith; upto = omega arith; passes = λ _. e; first = λ y a b. absurd (omega arith) })
    go false e L = rw e (record { from = omega (arith, L.from); upto = omega (arith, L.upto); passes = λ h. L.passes (omega arith); first = λ y a b. here y a b (ℕ_discrete y k) })
      where
        here : (y : ℕ) → k ≤ y → y < r → Dec (y ≡ k) → p y ≡ false
        here y a b (yes q) = ap p q ∙ e
        here y a b (no q) = L.first y (omega arith) b

pub least_is : (p : ℕ → Bool) (n : ℕ) → Least p 0 n (least p n)
unfolding least
least_is p n = subst (λ (k : ℕ). Least p 0 k (least_from p 0 n)) (omega arith) (from_least p 0 n)

-- two numbers that are least are one
pub least_one : (p : ℕ → Bool) (n x y : ℕ) → Least p 0 n x → Least p 0 n y → x ≡ y
least_one p n x y L K = go (by_test (ltb x y)) (by_test (ltb y x))
  where
    go : (ltb x y ≡ true) ⊎ (ltb x y ≡ false) → (ltb y x ≡ true) ⊎ (ltb y x ≡ false) → x ≡ y
    go (inl h) u = not_both (L.passes (omega (arith, ltb-true, K.upto))) (K.first x (omega arith) (ltb-true x y h))
    go (inr h) (inl k) = not_both (K.passes (omega (arith, ltb-true, L.upto))) (L.first y (omega arith) (ltb-true y x k))
    go (inr h) (inr k) = omega (arith, ltb-false)

-- ---- what keeps the spacing
abbrev pub at : ℕ → ℕ → ℕ → Canister
at number a b = record { number = number; a = a; b = b }

pub clear_fact : (d : ℕ) (l : List Canister) (a b : ℕ) → clear d l a b ≡ true ↔ All (Apart d (at 0 a b)) l
unfolding clear
clear_fact d l a b = r_all (apart d (at 0 a b)) (Apart d (at 0 a b)) (apart_fact d (at 0 a b)) l

-- ---- rows
pub row_least : (d n : ℕ) (l : List Canister) (b : ℕ) → Least (λ a. clear d l a b) 0 n (lowest_a_of d n l b)
unfolding lowest_a_of
row_least d n l b = least_is (λ a. clear d l a b) n

pub rows_least : (d n : ℕ) (l : List Canister) → Least (λ b. ltb (lowest_a_of d n l b) n) 0 n (lowest_b_of d n l)
unfolding lowest_b_of
rows_least d n l = least_is (λ b. ltb (lowest_a_of d n l b) n) n

-- a row has a place exactly where some a keeps the spacing
pub row_fact : (d n : ℕ) (l : List Canister) (b : ℕ) → ltb (lowest_a_of d n l b) n ≡ true ↔ ((a : ℕ) × (a < n) × (clear d l a b ≡ true))
row_fact d n l b = (λ h. let k = ltb-true (lowest_a_of d n l b) n h in (lowest_a_of d n l b, k, L.passes k), λ r. go r.0 r.1 r.2 (by_test (ltb (lowest_a_of d n l b) n)))
  where
    L : Least (λ a. clear d l a b) 0 n (lowest_a_of d n l b)
    L = row_least d n l b

    go : (a : ℕ) → a < n → clear d l a b ≡ true → (ltb (lowest_a_of d n l b) n ≡ true) ⊎ (ltb (lowest_a_of d n l b) n ≡ false) → ltb (lowest_a_of d n l b) n ≡ true
    go a h e (inl k) = k
    go a h e (inr k) = not_both e (L.first a (omega arith) (omega (arith, ltb-false)))

-- ---- the lowest place among the pairs below n
pub record Lowest (d n : ℕ) (l : List Canister) (a b : ℕ) : Type 0 where
  pub a_within : a < n
  pub b_within : b < n
  pub keeps : clear d l a b ≡ true
  pub lowest_b : (x y : ℕ) → x < n → y < n → clear d l x y ≡ true → b ≤ y
  pub lowest_a : (x : ℕ) → x < n → clear d l x b ≡ true → a ≤ x

under : {x y : ℕ} {q : Bool} → (y < x → q ≡ false) → q ≡ true → x ≤ y
under {x} {y} f e = go (by_test (ltb y x))
  where
    go : (ltb y x ≡ true) ⊎ (ltb y x ≡ false) → x ≤ y
    go (inl k) = not_both e (f (ltb-true y x k))
    go (inr k) = ltb-false y x k

pub lowest_is : (d n : ℕ) (l : List Canister) → lowest_b_of d n l < n → Lowest d n l (lowest_a_of d n l (lowest_b_of d n l)) (lowest_b_of d n l)
lowest_is d n l h =
    let b = lowest_b_of d n l in
    let rows = rows_least d n l in
    let row = row_least d n l b in
    let in_row = ltb-true (lowest_a_of d n l b) n (rows.passes h) in
    record {
      a_within = in_row;
      b_within = h;
      keeps = row.passes in_row;
      lowest_b = λ x y p q e. under (rows.first y (omega arith)) ((row_fact d n l y).1 (x, p, e));
      lowest_a = λ x p e. under (row.first x (omega arith)) e;
    }

-- where there is a pair, there is a row
pub found : (d n : ℕ) (l : List Canister) (a b : ℕ) → a < n → b < n → clear d l a b ≡ true → lowest_b_of d n l < n
found d n l a b p q e = go (by_test (ltb (lowest_b_of d n l) n))
  where
    go : (ltb (lowest_b_of d n l) n ≡ true) ⊎ (ltb (lowest_b_of d n l) n ≡ false) → lowest_b_of d n l < n
    go (inl k) = ltb-true (lowest_b_of d n l) n k
    go (inr k) = not_both ((row_fact d n l b).1 (a, p, e)) ((rows_least d n l).first b (omega arith) (omega (arith, ltb-false)))
