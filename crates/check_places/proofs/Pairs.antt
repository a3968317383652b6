-- Numbers that rise from each place to the next, and every two canisters by numbers and by distance apart.
use mathlib.Core.Path.{◌≡◌, sym, ◌∙◌}
use mathlib.Core.Bool.{Bool, true, false, ◌&&◌, false≢true}
use mathlib.Core.List.{List}
use Prim.Native.Nat.{ℕ, zero, suc, ◌+◌, ◌-◌, ◌<◌}
use native.Mathlib.Omega.{arith}
use lib.ListN.{length, get_or}
use lib.Dec.{ltb}
use borrow.Author.Tests.{ltb-true, lt-ltb}
use Rattle.std.specs.List.{IsAllAdjacentAnswer}
use Rattle.laws.specs.Define.{pairs_of}
use Rattle.laws.proofs.Tests.{same_test}
use Rattle.laws.proofs.Tables.{pairs_at, pairs_from_each, pairs_both_test}
use Rattle.floor.specs.declared.Canister.{Canister}
use Rattle.floor.specs.declared.Settings.{Settings}
use Rattle.floor.specs.Settings.{spacing}
use Rattle.floor.specs.Memory.{zero_canister}
use Rattle.floor.specs.Well.{apart, in_order}
use Rattle.check_places.specs.InternalPlace.{rises}

pub in_order_made : (s : Settings) (l : List Canister) (d : ℕ) {up free : Bool} → d ≡ spacing s → up ≡ pairs_of rises l → free ≡ pairs_of (apart d) l → (up && free) ≡ pairs_of (in_order s) l
unfolding in_order rises
in_order_made s l d e p q = rw (p, q, e) (sym (pairs_both_test rises (apart (spacing s)) l))

-- ---- numbers that rise
abbrev number_at : List Canister → ℕ → ℕ
number_at l k = (get_or l k zero_canister).number

rise_on : (l : List Canister) → ((k : ℕ) → k + 1 < length l → number_at l k < number_at l (k + 1)) → (i m : ℕ) → i + suc m < length l → number_at l i < number_at l (i + suc m)
rise_on l f i zero h = f i h
rise_on l f i (suc m) h = let e : i + suc (suc m) ≡ i + suc m + 1 = omega arith in rw e (omega (arith, rise_on l f i m (omega arith), f (i + suc m) (omega arith)))

-- what `is_sorted_by` tells
pub sorted_rises : (l : List Canister) (r : Bool) → IsAllAdjacentAnswer (λ x y b. b ≡ ltb x.number y.number) l r → r ≡ pairs_of rises l
unfolding rises
sorted_rises l true h = sym (pairs_from_each rises l zero_canister (λ i j p q. lt-ltb (number_at l i) (number_at l j) (later i j p q)))
  where
    next : (k : ℕ) → k + 1 < length l → number_at l k < number_at l (k + 1)
    next k p = ltb-true (number_at l k) (number_at l (k + 1)) (sym (h k zero_canister p))

    later : (i j : ℕ) → i < j → j < length l → number_at l i < number_at l j
    later i j p q = let e : i + suc (j - i - 1) ≡ j = omega arith in rw e at (rise_on l next i (j - i - 1) (omega arith))
sorted_rises l false h =
    same_test false (pairs_of rises l) (λ e. absurd (false≢true e)) (λ e. absurd (false≢true (h.2 zero_canister ∙ pairs_at rises l zero_canister e h.0 (h.0 + 1) (omega arith) h.1)))
