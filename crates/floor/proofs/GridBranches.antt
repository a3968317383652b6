-- The neighbour of a tile and the opposite of a side, branch by branch, in the words of the code; the first row as a set.
use mathlib.Core.Path.{◌≡◌, refl, sym, ap, ◌∙◌}
use mathlib.Core.Logic.{◌≢◌}
use mathlib.Core.Bool.{Bool, true, false, true≢false}
use mathlib.Core.List.{List, [], ◌∷◌}
use Prim.Native.Nat.{ℕ, zero, suc, ◌+◌, ◌-◌, ◌%◌, ◌≤◌, ◌<◌}
use native.Mathlib.Nat.{mod-le, mod-lt, mod-eq_of_lt, mod_self, suc-mod, mul-mod_left}
use native.Mathlib.Decide.{dec_le}
use native.Mathlib.Numerals.{suc-eq-add-one}
use native.Mathlib.Omega.{arith}
use lib.Dec.{eqb}
use lib.ListN.{get_or}
use borrow.Author.Tests.{lt-ltb, le-leb, lt-leb, le-ltb, eqb-true, eq-eqb}
use Rattle.laws.specs.Define.{all_below, bit}
use Rattle.laws.proofs.Tables.{below_at}
use Rattle.floor.specs.declared.Settings.{Settings}
use Rattle.floor.specs.Settings.{total}
use Rattle.floor.specs.Sides.{opposite}
use Rattle.floor.specs.Grid.{neighbour}
use Rattle.floor.proofs.SideTables.{same, same_true}

-- ---- the first row as a set, where a column has r rows: tables that the prover computes
abbrev pub firsts : List ℕ
firsts = 0 ∷ 18446744073709551615 ∷ 6148914691236517205 ∷ 10540996613548315209 ∷ 1229782938247303441 ∷ 1190112520884487201 ∷ 1171221845949812801 ∷ 9295997013522923649 ∷ 72340172838076673 ∷ []

rows_right : List ℕ → (ℕ → ℕ → Bool) → ℕ → ℕ → Bool
rows_right rows q r t = same (bit (get_or rows (r + 1) 0) t) (q (r + 1) t)

rows_at : (rows : List ℕ) (q : ℕ → ℕ → Bool) → all_below (λ r. all_below (rows_right rows q r) 64) 8 ≡ true → (r n : ℕ) → 1 ≤ r → r ≤ 8 → n ≡ r → (t : ℕ) → t < 64 → bit (get_or rows r 0) t ≡ q n t
unfolding rows_right
rows_at rows q all r n lo hi e t h =
    let s : r - 1 + 1 ≡ r = omega arith in
    let a = same_true _ _ (below_at (rows_right rows q (r - 1)) 64 (below_at (λ r. all_below (rows_right rows q r) 64) 8 all (r - 1) (omega arith)) t h) in
    rw s at a ∙ ap (λ (x : ℕ). q x t) (sym e)

firsts_right : all_below (λ r. all_below (rows_right firsts (λ r t. eqb (t % r) 0) r) 64) 8 ≡ true
unfolding all_below rows_right same bit
firsts_right = refl

past_three : (n : ℕ) → 1 ≤ n → n ≢ 1 → n ≢ 2 → n ≢ 3 → 4 ≤ n
past_three n lo a b c = omega arith

past_seven : (n : ℕ) → 4 ≤ n → n ≤ 8 → n ≢ 4 → n ≢ 5 → n ≢ 6 → n ≢ 7 → n ≡ 8
past_seven n lo hi d e f g = omega arith

pub eight : (n : ℕ) → 1 ≤ n → n ≤ 8 → n ≢ 1 → n ≢ 2 → n ≢ 3 → n ≢ 4 → n ≢ 5 → n ≢ 6 → n ≢ 7 → n ≡ 8
eight n lo hi a b c = past_seven n (past_three n lo a b c) hi

module _ (r n : ℕ) (lo : 1 ≤ r) (hi : r ≤ 8) (e : n ≡ r) where
  pub first_row_of : (t : ℕ) → t < 64 → bit (get_or firsts r 0) t ≡ eqb (t % n) 0
  first_row_of = rows_at firsts (λ r t. eqb (t % r) 0) firsts_right r n lo hi e

-- what a test of such a set tells of tile t, n the number of rows
module _ (set t n : ℕ) {found : Bool} (small : t < 64) (f : found ≡ bit set t) where
  module _ (q : (t : ℕ) → t < 64 → bit set t ≡ eqb (t % n) 0) where
    pub first_in : found ≡ true → t % n ≤ 0
    first_in h = omega (arith, eqb-true (t % n) 0 (sym (f ∙ q t small) ∙ h))

    pub first_out : found ≡ false → 0 < t % n
    first_out h = let z : t % n ≢ 0 = λ e. true≢false (sym (eq-eqb (t % n) 0 e) ∙ sym (f ∙ q t small) ∙ h) in omega arith

-- the tile that follows t is of row 0 where t is of the last row
module _ (t n : ℕ) (p : 1 ≤ n) where
  follows : (t + 1) % n ≡ (t % n + 1) % n
  follows = rw (sym (suc-eq-add-one t), sym (suc-eq-add-one (t % n))) (suc-mod t n)

  pub last_of : (t + 1) % n ≤ 0 → n ≤ t % n + 1
  last_of z = go (dec_le n (t % n + 1))
    where
      go : Dec (n ≤ t % n + 1) → n ≤ t % n + 1
      go (yes h) = h
      go (no h) = let lt : t % n + 1 < n = omega (arith, h) in omega (arith, z, follows, mod-eq_of_lt lt)

  pub below_last : 0 < (t + 1) % n → t % n + 1 < n
  below_last z = go (dec_le n (t % n + 1))
    where
      go : Dec (n ≤ t % n + 1) → t % n + 1 < n
      go (no h) = omega (arith, h)
      go (yes h) = let e : t % n + 1 ≡ n = omega (arith, h, mod-lt t p) in omega (arith, z, follows, ap (λ (x : ℕ). x % n) e, mod_self n)

pub some_rest : (t n : ℕ) → 0 < t % n → 1 ≤ t
some_rest t n h = omega (arith, mod-le t n)

module _ (s : Settings) (k t : ℕ) where
  pub west_in : k ≡ 1 → s.rows ≤ t → t - s.rows ≡ neighbour s k t
  unfolding neighbour
  west_in e h = rw (e, le-leb s.rows t h)

  pub south_in : k ≡ 2 → 0 < t % s.rows → t - 1 ≡ neighbour s k t
  unfolding neighbour
  south_in e h = rw (e, lt-ltb 0 (t % s.rows) h)

  pub north_in : k ≡ 3 → 1 ≤ s.rows → 0 < (t + 1) % s.rows → t + 1 ≡ neighbour s k t
  unfolding neighbour
  north_in e p h = rw (e, lt-ltb (t % s.rows + 1) s.rows (below_last t s.rows p h))

  -- all is the number of tiles, as the code has it
  module _ (all : ℕ) (c : all ≡ total s) where
    pub west_out : k ≡ 1 → t < s.rows → all ≡ neighbour s k t
    unfolding neighbour
    west_out e h = rw (e, lt-leb s.rows t h) c

    pub south_out : k ≡ 2 → t % s.rows ≤ 0 → all ≡ neighbour s k t
    unfolding neighbour
    south_out e h = rw (e, le-ltb 0 (t % s.rows) h) c

    pub north_out : k ≡ 3 → 1 ≤ s.rows → (t + 1) % s.rows ≤ 0 → all ≡ neighbour s k t
    unfolding neighbour
    north_out e p h = rw (e, le-ltb (t % s.rows + 1) s.rows (last_of t s.rows p h)) c

    pub north_end : k ≡ 3 → 1 ≤ s.rows → t + 1 ≡ all → all ≡ neighbour s k t
    unfolding neighbour
    north_end e p h = north_out e p (omega (arith, ap (λ (x : ℕ). x % s.rows) (h ∙ c), mul-mod_left s.columns s.rows))

    pub east_in : k ≡ 4 → t + s.rows < all → t + s.rows ≡ neighbour s k t
    unfolding neighbour
    east_in e h = rw (e, sym c, lt-ltb (t + s.rows) all h)

    pub east_out : k ≡ 4 → all ≤ t + s.rows → all ≡ neighbour s k t
    unfolding neighbour
    east_out e h = rw (e, sym c, le-ltb (t + s.rows) all h)

    pub no_side_lem : k ≢ 1 → k ≢ 2 → k ≢ 3 → k ≢ 4 → all ≡ neighbour s k t
    unfolding neighbour
    no_side_lem w n u e = c ∙ none k w n u e
      where
        none : (j : ℕ) → j ≢ 1 → j ≢ 2 → j ≢ 3 → j ≢ 4 → total s ≡ neighbour s j t
        none zero w n u e = refl
        none (suc zero) w n u e = absurd (w refl)
        none (suc (suc zero)) w n u e = absurd (n refl)
        none (suc (suc (suc zero))) w n u e = absurd (u refl)
        none (suc (suc (suc (suc zero)))) w n u e = absurd (e refl)
        none (suc (suc (suc (suc (suc j))))) w n u e = refl

-- opposite sides add up to five
pub opposite_of : (k : ℕ) → 1 ≤ k → k ≤ 4 → 5 - k ≡ opposite k
unfolding opposite
opposite_of zero h q = absurd (omega arith)
opposite_of (suc zero) h q = refl
opposite_of (suc (suc zero)) h q = refl
opposite_of (suc (suc (suc zero))) h q = refl
opposite_of (suc (suc (suc (suc zero)))) h q = refl
opposite_of (suc (suc (suc (suc (suc k))))) h q = absurd (omega arith)

pub no_opposite : (k : ℕ) → (1 ≤ k → k ≤ 4 → ⊥) → 0 ≡ opposite k
unfolding opposite
no_opposite zero n = refl
no_opposite (suc zero) n = absurd (n (omega arith) (omega arith))
no_opposite (suc (suc zero)) n = absurd (n (omega arith) (omega arith))
no_opposite (suc (suc (suc zero))) n = absurd (n (omega arith) (omega arith))
no_opposite (suc (suc (suc (suc zero)))) n = absurd (n (omega arith) (omega arith))
no_opposite (suc (suc (suc (suc (suc k))))) n = refl

pub opposite_five : (k j : ℕ) → k ≤ 4 → k + j ≡ 5 → k ≡ opposite j
unfolding opposite
opposite_five k zero h e = absurd (omega arith)
opposite_five k (suc zero) h e = omega arith
opposite_five k (suc (suc zero)) h e = omega arith
opposite_five k (suc (suc (suc zero))) h e = omega arith
opposite_five k (suc (suc (suc (suc zero)))) h e = omega arith
opposite_five k (suc (suc (suc (suc (suc j))))) h e = omega arith

-- and the other way round
pub opposite_back : (k j : ℕ) → 0 < k → k ≡ opposite j → j ≡ opposite k
unfolding opposite
opposite_back k zero h e = absurd (omega arith)
opposite_back k (suc zero) h e = rw e
opposite_back k (suc (suc zero)) h e = rw e
opposite_back k (suc (suc (suc zero))) h e = rw e
opposite_back k (suc (suc (suc (suc zero)))) h e = rw e
opposite_back k (suc (suc (suc (suc (suc j))))) h e = absurd (omega arith)

pub five_opposite : (k j : ℕ) → 0 < k → k ≡ opposite j → k + j ≡ 5
unfolding opposite
five_opposite k zero h e = absurd (omega arith)
five_opposite k (suc zero) h e = omega arith
five_opposite k (suc (suc zero)) h e = omega arith
five_opposite k (suc (suc (suc zero))) h e = omega arith
five_opposite k (suc (suc (suc (suc zero)))) h e = omega arith
five_opposite k (suc (suc (suc (suc (suc j))))) h e = absurd (omega arith)
