-- Sets of sides as the code handles them: each rule is one table that the prover computes, and a law that reads it at an entry.
use Prim.Native.Nat.{ℕ, zero, suc, ◌+◌, ◌*◌, ◌/◌, ◌%◌, ◌^◌, ◌≤◌, ◌<◌}
use mathlib.Core.Path.{◌≡◌, refl, sym, fun_ext}
use mathlib.Core.Bool.{Bool, true, false, cond, not, ◌&&◌}
use native.Mathlib.Omega.{arith}
use native.Mathlib.Decide.{dec_le}
use lib.Dec.{eqb, ltb}
use lib.Bits.{bit_or, bit_and}
use lib.Count.{count_trailing_zeros}
use borrow.Author.Tests.{eqb-true, eq-eqb, ne_eqb, ltb-true}
use Rattle.laws.specs.Define.{all_below, first_of, bit}
use Rattle.laws.proofs.Tables.{below_at}
use Rattle.laws.proofs.Tests.{and_left, and_right}
use Rattle.floor.specs.Sides.{by_side, after, following, in_set}

-- an entry of a table over sides up to 4 and sets below 16
table_at : (p : ℕ → ℕ → Bool) → all_below (λ k. all_below (p k) 16) 5 ≡ true → (k x : ℕ) → k ≤ 4 → x < 16 → p k x ≡ true
table_at p all k x hk hx = below_at (p k) 16 (below_at (λ k. all_below (p k) 16) 5 all k (omega arith)) x hx

-- ---- the first side strictly after k, by trailing zeros of the part of the set beyond k
abbrev pub beyond : ℕ → ℕ → ℕ
beyond k x = x / 2 ^ k * 2 ^ k % 256

found : ℕ → ℕ → ℕ
found k x = cond (eqb x 0) 0 (cond (eqb (beyond k x) 0) (count_trailing_zeros 8 x + 1) (count_trailing_zeros 8 (beyond k x) + 1))

right : ℕ → ℕ → Bool
right k x = eqb (found k x) (following (in_set x) k)

all_right : all_below (λ k. all_below (right k) 16) 5 ≡ true
unfolding all_below right found following first_of after in_set bit count_trailing_zeros
all_right = refl

right_at : (k x : ℕ) → k ≤ 4 → x < 16 → found k x ≡ following (in_set x) k
unfolding right
right_at k x hk hx = eqb-true _ _ (table_at right all_right k x hk hx)

pub next_none : (k x : ℕ) → k ≤ 4 → x < 16 → x ≡ 0 → 0 ≡ following (in_set x) k
unfolding found
next_none k x hk hx e = rw (eq-eqb x 0 e) at (right_at k x hk hx)

pub next_round : (k x : ℕ) → k ≤ 4 → x < 16 → (x ≡ 0 → ⊥) → beyond k x ≡ 0 → count_trailing_zeros 8 x + 1 ≡ following (in_set x) k
unfolding found
next_round k x hk hx n e = rw (ne_eqb x 0 n, eq-eqb (beyond k x) 0 e) at (right_at k x hk hx)

pub next_on : (k x : ℕ) → k ≤ 4 → x < 16 → (x ≡ 0 → ⊥) → (beyond k x ≡ 0 → ⊥) → count_trailing_zeros 8 (beyond k x) + 1 ≡ following (in_set x) k
unfolding found
next_on k x hk hx n e = rw (ne_eqb x 0 n, ne_eqb (beyond k x) 0 e) at (right_at k x hk hx)

-- ---- whether a side is in a set
unfoldable pub same : Bool → Bool → Bool
same a b = cond a b (not b)

pub same_true : (a b : Bool) → same a b ≡ true → a ≡ b
unfolding same
same_true true b h = sym h
same_true false true h = h
same_true false false h = refl

tested : ℕ → ℕ → Bool
tested k x = eqb (bit_and (x * 2 ^ 1 % 256 / 2 ^ k) 1) 1

agrees : ℕ → ℕ → Bool
agrees k x = same (tested k x) (in_set x k)

all_tested : all_below (λ k. all_below (agrees k) 16) 5 ≡ true
unfolding all_below agrees same tested in_set bit
all_tested = refl

pub in_set_lem : (k x : ℕ) → k ≤ 4 → x < 16 → eqb (bit_and (x * 2 ^ 1 % 256 / 2 ^ k) 1) 1 ≡ in_set x k
unfolding tested agrees
in_set_lem k x hk hx = same_true (tested k x) (in_set x k) (table_at agrees all_tested k x hk hx)

-- ---- the set of four tests
abbrev pub set_of : Bool → Bool → Bool → Bool → ℕ
set_of w s n e = bit_or (bit_or (bit_or (cond w 1 0) (cond s 2 0)) (cond n 4 0)) (cond e 8 0)

-- both values of a test
both : (Bool → Bool) → Bool
both p = p true && p false

both_at : (p : Bool → Bool) → both p ≡ true → (b : Bool) → p b ≡ true
unfolding both
both_at p h true = and_left (p true) (p false) h
both_at p h false = and_right (p true) (p false) h

-- the set is below 16, and tells each side up to 4
sides_agree_lem : Bool → Bool → Bool → Bool → Bool
sides_agree_lem w s n e = ltb (set_of w s n e) 16 && all_below (λ k. same (in_set (set_of w s n e) k) (by_side false w s n e k)) 5

all_sides_agree : both (λ w. both (λ s. both (λ n. both (sides_agree_lem w s n)))) ≡ true
unfolding both sides_agree_lem all_below same in_set bit
all_sides_agree = refl

sides_agree_at : (w s n e : Bool) → sides_agree_lem w s n e ≡ true
sides_agree_at w s n = both_at (sides_agree_lem w s n) (both_at (λ n. both (sides_agree_lem w s n)) (both_at (λ s. both (λ n. both (sides_agree_lem w s n))) (both_at (λ w. both (λ s. both (λ n. both (sides_agree_lem w s n)))) all_sides_agree w) s) n)

-- what is no side is in no set
no_side_in : (x : ℕ) (w s n e : Bool) (k : ℕ) → 4 < k → in_set x k ≡ by_side false w s n e k
unfolding in_set
no_side_in x w s n e zero h = absurd (omega arith)
no_side_in x w s n e (suc zero) h = absurd (omega arith)
no_side_in x w s n e (suc (suc zero)) h = absurd (omega arith)
no_side_in x w s n e (suc (suc (suc zero))) h = absurd (omega arith)
no_side_in x w s n e (suc (suc (suc (suc zero)))) h = absurd (omega arith)
no_side_in x w s n e (suc (suc (suc (suc (suc k))))) h = refl

pub set_of_lem : (w s n e : Bool) → (set_of w s n e < 16) × (in_set (set_of w s n e) ≡ by_side false w s n e)
unfolding sides_agree_lem
set_of_lem w s n e = (ltb-true (set_of w s n e) 16 (and_left (ltb (set_of w s n e) 16) _ (sides_agree_at w s n e)), fun_ext (λ k. at k (dec_le k 4)))
  where
    sides_agree : all_below (λ k. same (in_set (set_of w s n e) k) (by_side false w s n e k)) 5 ≡ true
    sides_agree = and_right (ltb (set_of w s n e) 16) _ (sides_agree_at w s n e)

    at : (k : ℕ) → Dec (k ≤ 4) → in_set (set_of w s n e) k ≡ by_side false w s n e k
    at k (yes h) = same_true _ _ (below_at (λ k. same (in_set (set_of w s n e) k) (by_side false w s n e k)) 5 sides_agree k (omega arith))
    at k (no h) = no_side_in (set_of w s n e) w s n e k (omega arith)
