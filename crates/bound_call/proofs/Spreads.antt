-- One pass as the code makes it by shifts: each tile's four neighbours, by their numbers.
use mathlib.Core.Path.{◌≡◌, refl, sym, ap, ◌∙◌}
use mathlib.Core.Bool.{Bool, true, false, cond, ◌&&◌, ◌||◌}
use Prim.Native.Nat.{ℕ, suc, ◌+◌, ◌-◌, ◌*◌, ◌/◌, ◌%◌, ◌^◌, ◌≤◌, ◌<◌}
use native.Mathlib.Nat.{mod-lt, div-add-mod', lt_of_le_of_lt}
use lib.Arith.{digits_mod}
use native.Mathlib.Omega.{arith}
use native.Mathlib.Decide.{dec_le}
use lib.Dec.{leb, ltb}
use lib.Bits.{bit_and, bit_or, and_le_l}
use borrow.Author.Tests.{ltb-true, le-leb, lt-ltb, le-ltb}
use Rattle.laws.specs.Define.{any_of, bit}
use Rattle.laws.proofs.Tests.{and_yes, and_no}
use Rattle.laws.proofs.SetBits.{bit_off, both_bit}
use Rattle.floor.specs.declared.Settings.{Settings}
use Rattle.floor.specs.Sides.{west, south, north, east, sides}
use Rattle.floor.specs.Settings.{total, is_hopper, Ranged}
use Rattle.floor.specs.Grid.{neighbour}
use Rattle.floor.specs.Layouts.{set_below}
use Rattle.floor.proofs.GridBranches.{some_rest}
use Rattle.floor.proofs.SoundLayouts.{below_bit}
use Rattle.bound_call.specs.Sets.{above_first}
use Rattle.bound_call.proofs.Shifts.{shr_bit, shl_bit, either_bit}

-- a neighbour that there may be: where there is none the number of no tile is read, which is in no set
pick : (x n : ℕ) → bit x n ≡ false → (b : Bool) (k : ℕ) → (b && bit x k) ≡ bit x (cond b k n)
pick x n off true k = refl
pick x n off false k = sym off

-- north of a tile there is one exactly if the next number is not in the first row
next_row : (rows t : ℕ) → 1 ≤ rows → ltb (t % rows + 1) rows ≡ ltb 0 ((t + 1) % rows)
next_row rows t pos = go (dec_le (suc (t % rows + 1)) rows)
  where
    up : t % rows + 1 < rows → (t + 1) % rows ≡ t % rows + 1
    up h = let e : t + 1 ≡ t / rows * rows + (t % rows + 1) = omega (arith, div-add-mod' t rows) in ap (λ (x : ℕ). x % rows) e ∙ digits_mod (t / rows) h

    over : rows ≤ t % rows + 1 → (t + 1) % rows ≡ 0
    over h =
        let last : t % rows + 1 ≡ rows = omega (arith, mod-lt t pos) in
        let e : t + 1 ≡ (t / rows + 1) * rows + 0 = omega (arith, div-add-mod' t rows) in
        ap (λ (x : ℕ). x % rows) e ∙ digits_mod (t / rows + 1) pos

    go : Dec (t % rows + 1 < rows) → ltb (t % rows + 1) rows ≡ ltb 0 ((t + 1) % rows)
    go (yes h) = rw (lt-ltb (t % rows + 1) rows h, lt-ltb 0 ((t + 1) % rows) (omega (arith, up h)))
    go (no h) = rw (le-ltb (t % rows + 1) rows (omega arith), le-ltb 0 ((t + 1) % rows) (omega (arith, over (omega arith))))

-- ---- the neighbours of tile t in the set x
module _ (s : Settings) (R : Ranged s) (x : ℕ) (fits : x < 2 ^ total s) where
  abbrev C : ℕ
  C = total s

  off : (k : ℕ) → C ≤ k → bit x k ≡ false
  off k h = bit_off x C k fits h

  module _ (t : ℕ) (on : t < C) where
    west_bit : bit (x * 2 ^ s.rows % 2 ^ 64) t ≡ bit x (neighbour s west t)
    unfolding neighbour
    west_bit = shl_bit x s.rows t (omega (arith, R.2)) ∙ pick x C (off C (omega arith)) (leb s.rows t) (t - s.rows)

    east_bit : bit (x / 2 ^ s.rows) t ≡ bit x (neighbour s east t)
    unfolding neighbour
    east_bit = shr_bit x s.rows t ∙ go (dec_le (suc (t + s.rows)) C)
      where
        go : Dec (t + s.rows < C) → bit x (t + s.rows) ≡ bit x (cond (ltb (t + s.rows) C) (t + s.rows) C)
        go (yes h) = rw (lt-ltb (t + s.rows) C h)
        go (no h) = rw (le-ltb (t + s.rows) C (omega arith)) (off (t + s.rows) (omega arith) ∙ sym (off C (omega arith)))

    module _ (a : ℕ) (above : a ≡ set_below (above_first s.rows) C) where
      above_bit : (k : ℕ) → bit a k ≡ (ltb k C && ltb 0 (k % s.rows))
      above_bit k = ap (λ (y : ℕ). bit y k) above ∙ below_bit (above_first s.rows) C k

      south_bit : bit (bit_and (x * 2 % 2 ^ 64) a) t ≡ bit x (neighbour s south t)
      unfolding neighbour
      south_bit =
          both_bit (x * 2 % 2 ^ 64) a t
          ∙ (λ i. shl_bit x 1 t (omega (arith, R.2)) i && above_bit t i)
          ∙ ap (λ (b : Bool). (leb 1 t && bit x (t - 1)) && (b && ltb 0 (t % s.rows))) (lt-ltb t C on)
          ∙ go (ltb 0 (t % s.rows)) refl
        where
          go : (b : Bool) → ltb 0 (t % s.rows) ≡ b → ((leb 1 t && bit x (t - 1)) && b) ≡ bit x (cond b (t - 1) C)
          go true e = rw (le-leb 1 t (some_rest t s.rows (ltb-true 0 (t % s.rows) e))) (and_yes (bit x (t - 1)))
          go false e = and_no (leb 1 t && bit x (t - 1)) ∙ sym (off C (omega arith))

      north_bit : bit (bit_and x a / 2) t ≡ bit x (neighbour s north t)
      unfolding neighbour
      north_bit =
          shr_bit (bit_and x a) 1 t ∙ both_bit x a (t + 1) ∙ ap (λ (b : Bool). bit x (t + 1) && b) (above_bit (t + 1))
          ∙ go (ltb 0 ((t + 1) % s.rows)) (dec_le (suc (t + 1)) C)
          ∙ ap (λ (b : Bool). bit x (cond b (t + 1) C)) (sym (next_row s.rows t R.0))
        where
          at : (b v : Bool) → v ≡ bit x (t + 1) → (v && b) ≡ bit x (cond b (t + 1) C)
          at true v e = and_yes v ∙ e
          at false v e = and_no v ∙ sym (off C (omega arith))

          beyond : (b : Bool) → C ≤ t + 1 → bit x (cond b (t + 1) C) ≡ false
          beyond true h = off (t + 1) h
          beyond false h = off C (omega arith)

          go : (b : Bool) → Dec (t + 1 < C) → (bit x (t + 1) && (ltb (t + 1) C && b)) ≡ bit x (cond b (t + 1) C)
          go b (yes h) = rw (lt-ltb (t + 1) C h) (at b (bit x (t + 1)) refl)
          go b (no h) = rw (off (t + 1) (omega arith)) (sym (beyond b (omega arith)))

  -- ---- one pass
  module _ (running a : ℕ) (above : a ≡ set_below (above_first s.rows) C) where
    abbrev next : ℕ
    next = bit_and running (bit_or (bit_or (bit_or (bit_or s.hoppers (x * 2 ^ s.rows % 2 ^ 64)) (bit_and (x * 2 % 2 ^ 64) a)) (bit_and x a / 2)) (x / 2 ^ s.rows))

    joined : (h w so n e t : ℕ) → bit (bit_or (bit_or (bit_or (bit_or h w) so) n) e) t ≡ (bit h t || (bit w t || (bit so t || (bit n t || (bit e t || false)))))
    joined h w so n e t =
        either_bit (bit_or (bit_or (bit_or h w) so) n) e t
        ∙ ap (λ (b : Bool). b || bit e t) (either_bit (bit_or (bit_or h w) so) n t)
        ∙ ap (λ (b : Bool). (b || bit n t) || bit e t) (either_bit (bit_or h w) so t)
        ∙ ap (λ (b : Bool). ((b || bit so t) || bit n t) || bit e t) (either_bit h w t)
        ∙ shape (bit h t) (bit w t) (bit so t) (bit n t) (bit e t)
      where
        shape : (h w so n e : Bool) → ((((h || w) || so) || n) || e) ≡ (h || (w || (so || (n || (e || false)))))
        shape true w so n e = refl
        shape false true so n e = refl
        shape false false true n e = refl
        shape false false false true e = refl
        shape false false false false true = refl
        shape false false false false false = refl

    pub spread_fits : running < 2 ^ C → next < 2 ^ C
    spread_fits h = lt_of_le_of_lt (and_le_l running _) h

    pub spread_bit : running < 2 ^ C → (t : ℕ) → bit next t ≡ (bit running t && (is_hopper s t || any_of (λ k. bit x (neighbour s k t)) sides))
    unfolding is_hopper any_of sides
    spread_bit h t =
        both_bit running _ t ∙ ap (λ (b : Bool). bit running t && b) (joined s.hoppers (x * 2 ^ s.rows % 2 ^ 64) (bit_and (x * 2 % 2 ^ 64) a) (bit_and x a / 2) (x / 2 ^ s.rows) t) ∙ go (dec_le (suc t) C)
      where
        around : Bool → Bool → Bool → Bool → Bool
        around w so n e = bit running t && (bit s.hoppers t || (w || (so || (n || (e || false)))))

        go : Dec (t < C) → around (bit (x * 2 ^ s.rows % 2 ^ 64) t) (bit (bit_and (x * 2 % 2 ^ 64) a) t) (bit (bit_and x a / 2) t) (bit (x / 2 ^ s.rows) t)
            ≡ around (bit x (neighbour s west t)) (bit x (neighbour s south t)) (bit x (neighbour s north t)) (bit x (neighbour s east t))
        go (yes l) = (λ i. around (west_bit t l i) (south_bit t l a above i) (north_bit t l a above i) (east_bit t l i))
        go (no l) = let z : bit running t ≡ false = bit_off running C t h (omega arith) in rw z
