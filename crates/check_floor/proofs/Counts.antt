-- The turn of the loop that adds the counts, and the test of the counters without what 32 bits say.
use mathlib.Core.Path.{◌≡◌, refl, sym, ap, ◌∙◌}
use mathlib.Core.Bool.{Bool, ◌&&◌, ◌||◌}
use mathlib.Core.List.{List, [], ◌∷◌}
use Prim.Native.Nat.{ℕ, zero, suc, ◌+◌, ◌*◌, ◌^◌, ◌≤◌, ◌<◌}
use native.Mathlib.Numerals.{add-one}
use native.Mathlib.Omega.{arith}
use native.Mathlib.Decide.{ℕ_discrete}
use lib.Dec.{leb, ltb, eqb}
use lib.ListN.{length, get_or, drop}
use borrow.Author.Tests.{lt-ltb, eq-eqb}
use Rattle.laws.specs.Define.{all_of, all_below, sum}
use Rattle.laws.proofs.Tests.{and_yes, and_assoc}
use Rattle.floor.specs.declared.Counters.{Counters}
use Rattle.floor.specs.declared.Tile.{Tile}
use Rattle.floor.specs.Memory.{zero_tile}
use Rattle.floor.specs.Well.{counters_sound}
use Rattle.check_floor.specs.InternalCode.{counted}

pub none_yet : (ts : List Tile) → 0 ≡ counted ts 0
unfolding counted
none_yet ts = refl

pub counted_more : (ts : List Tile) (t : ℕ) → counted ts (t + 1) ≡ counted ts t + (get_or ts t zero_tile).count
unfolding counted
counted_more ts t = rw add-one

pub none_counted : (ts : List Tile) (n : ℕ) → counted ts n ≡ 0 → (t : ℕ) → t < n → (get_or ts t zero_tile).count ≡ 0
unfolding counted
none_counted ts zero z t h = absurd (omega arith)
none_counted ts (suc n) z t h = go (ℕ_discrete t n) (none_counted ts n (omega (arith, z)) t)
  where
    go : Dec (t ≡ n) → (t < n → (get_or ts t zero_tile).count ≡ 0) → (get_or ts t zero_tile).count ≡ 0
    go (yes e) ih = rw e (omega (arith, z))
    go (no e) ih = ih (omega arith)

drop_all : (h : ℕ) → drop {A = ℕ} h [] ≡ []
drop_all zero = refl
drop_all (suc h) = refl

-- which of four counters must be zero, where h are used
spare_code : (h a b c d : ℕ) → ((ltb 0 h || eqb a 0) && ((ltb 1 h || eqb b 0) && ((ltb 2 h || eqb c 0) && (ltb 3 h || eqb d 0)))) ≡ all_of (λ k. eqb k 0) (drop h (a ∷ b ∷ c ∷ d ∷ []))
unfolding all_of
spare_code zero a b c d = rw (and_yes (eqb d 0))
spare_code (suc zero) a b c d = rw (and_yes (eqb d 0))
spare_code (suc (suc zero)) a b c d = rw (and_yes (eqb d 0))
spare_code (suc (suc (suc zero))) a b c d = rw (and_yes (eqb d 0))
spare_code (suc (suc (suc (suc h)))) a b c d = rw (lt-ltb 0 (suc (suc (suc (suc h)))) (omega arith), lt-ltb 1 (suc (suc (suc (suc h)))) (omega arith), lt-ltb 2 (suc (suc (suc (suc h)))) (omega arith), lt-ltb 3 (suc (suc (suc (suc h)))) (omega arith)) (sym (ap (all_of (λ k. eqb k 0)) (drop_all h)))

sum_code : (a b c d n : ℕ) → a + b + c + d + n ≡ sum (a ∷ b ∷ c ∷ d ∷ []) + n
unfolding sum
sum_code a b c d n = omega arith

pub counters_code : (h : ℕ) (c : Counters) (n : ℕ) → length c.delivered ≡ 4 → c.last < 2 ^ 32
    → (((ltb 0 h || eqb (get_or c.delivered 0 0) 0) && ((ltb 1 h || eqb (get_or c.delivered 1 0) 0) && ((ltb 2 h || eqb (get_or c.delivered 2 0) 0) && (ltb 3 h || eqb (get_or c.delivered 3 0) 0))))
    && (eqb c.booked (get_or c.delivered 0 0 + get_or c.delivered 1 0 + get_or c.delivered 2 0 + get_or c.delivered 3 0 + n) && leb c.booked c.last)) ≡ counters_sound h c n
unfolding counters_sound
counters_code h c n four small =
    rw (eq-eqb (length c.delivered) 4 four, lt-ltb c.last (2 ^ 32) small, and_yes (leb c.booked c.last)) (go c.delivered four)
  where
    go : (l : List ℕ) → length l ≡ 4
        → (((ltb 0 h || eqb (get_or l 0 0) 0) && ((ltb 1 h || eqb (get_or l 1 0) 0) && ((ltb 2 h || eqb (get_or l 2 0) 0) && (ltb 3 h || eqb (get_or l 3 0) 0))))
        && (eqb c.booked (get_or l 0 0 + get_or l 1 0 + get_or l 2 0 + get_or l 3 0 + n) && leb c.booked c.last))
        ≡ (all_of (λ k. eqb k 0) (drop h l) && (eqb c.booked (sum l + n) && leb c.booked c.last))
    go [] e = absurd (omega arith)
    go (x ∷ []) e = absurd (omega arith)
    go (x ∷ y ∷ []) e = absurd (omega arith)
    go (x ∷ y ∷ z ∷ []) e = absurd (omega arith)
    go (x ∷ y ∷ z ∷ w ∷ []) e = rw (spare_code h x y z w, sum_code x y z w n)
    go (x ∷ y ∷ z ∷ w ∷ v ∷ l) e = absurd (omega arith)

-- ---- the loop over the four counters
unfoldable pub added : List ℕ → ℕ → ℕ
added l zero = 0
added l (suc k) = added l k + get_or l k 0

abbrev pub spare_at : ℕ → List ℕ → ℕ → Bool
spare_at h l k = ltb k h || eqb (get_or l k 0) 0

pub record Added (h n : ℕ) (l : List ℕ) (spare : Bool) (sum k : ℕ) : Type 0 where
  pub below : k ≤ 4
  pub small : sum ≤ 4294967295 * (k + 1)
  pub tested : spare ≡ all_below (spare_at h l) k
  pub totalled : sum ≡ added l k + n

pub added_none : (l : List ℕ) (n : ℕ) → n ≡ added l 0 + n
unfolding added
added_none l n = omega arith

pub added_more : (l : List ℕ) (k : ℕ) → added l (k + 1) ≡ added l k + get_or l k 0
unfolding added
added_more l k = rw add-one

four_below : (p : ℕ → Bool) → all_below p 4 ≡ (p 0 && (p 1 && (p 2 && p 3)))
unfolding all_below
four_below p = and_assoc (p 0 && p 1) (p 2) (p 3) ∙ and_assoc (p 0) (p 1) (p 2 && p 3)

four_added : (l : List ℕ) → added l 4 ≡ get_or l 0 0 + get_or l 1 0 + get_or l 2 0 + get_or l 3 0
unfolding added
four_added l = omega arith

pub counters_looped : (h : ℕ) (c : Counters) (n : ℕ) {spare : Bool} {sum : ℕ} → length c.delivered ≡ 4 → c.last < 2 ^ 32
    → spare ≡ all_below (spare_at h c.delivered) 4 → sum ≡ added c.delivered 4 + n → (spare && (eqb c.booked sum && leb c.booked c.last)) ≡ counters_sound h c n
counters_looped h c n four small e f = rw (e, f, four_below (spare_at h c.delivered), four_added c.delivered) (counters_code h c n four small)
