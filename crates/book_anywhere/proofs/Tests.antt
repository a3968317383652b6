-- The number that a booking without a place is refused by, from that of a booking at 0, 0.
use mathlib.Core.Path.{◌≡◌, refl, sym, ap, ◌∙◌}
use mathlib.Core.Logic.{◌≢◌}
use mathlib.Core.Bool.{Bool, true, false, cond, not}
use mathlib.Core.List.{List}
use Prim.Native.Nat.{ℕ, suc, ◌≤◌, ◌<◌}
use native.Mathlib.Omega.{arith}
use lib.Dec.{leb, ltb, eqb}
use borrow.Author.Tests.{le-leb, leb-false, lt-ltb, le-ltb, not-false}
use Rattle.laws.specs.Define.{bit, refusal}
use Rattle.floor.specs.declared.refusal.Refusal.{Refusal}
use Rattle.floor.specs.declared.refusal.Refusal.TheVariants as R
use Rattle.floor.specs.Numbers.{refusal_number}
use Rattle.floor.specs.declared.Canister.{Canister}
use Rattle.floor.specs.declared.Settings.{Settings}
use Rattle.floor.specs.Settings.{total, spacing, span}
use Rattle.floor.specs.Well.{inside, apart}
use Rattle.floor.specs.Calls.{booking_tests}
use Rattle.floor.specs.Anywhere.{clear, lowest_b_of, place_a, place_b, placing_tests}
use Rattle.floor.proofs.Lowest.{at, lowest_is, found}

-- only one refusal has the number 34
pub not_34 : (r : Refusal) → r ≢ R.TooClose → refusal_number r ≢ 34
not_34 R.Grid d e = absurd (omega arith)
not_34 R.Sets d e = absurd (omega arith)
not_34 R.Measure d e = absurd (omega arith)
not_34 R.NoTile d e = absurd (omega arith)
not_34 R.NotASource d e = absurd (omega arith)
not_34 R.NumberZero d e = absurd (omega arith)
not_34 R.Outside d e = absurd (omega arith)
not_34 R.StopOfHopper d e = absurd (omega arith)
not_34 R.ImageEnds d e = absurd (omega arith)
not_34 R.OtherKind d e = absurd (omega arith)
not_34 R.RecordShape d e = absurd (omega arith)
not_34 R.ImageMalformed d e = absurd (omega arith)
not_34 R.ShortBuffer d e = absurd (omega arith)
not_34 R.Malformed d e = absurd (omega arith)
not_34 R.Stopped d e = absurd (omega arith)
not_34 R.Running d e = absurd (omega arith)
not_34 R.NumberUsed d e = absurd (omega arith)
not_34 R.TooClose d e = absurd (d refl)
not_34 R.NoPlace d e = absurd (omega arith)
not_34 R.ListTooLong d e = absurd (omega arith)
not_34 R.ShortPage d e = absurd (omega arith)
not_34 R.BadName d e = absurd (omega arith)
not_34 R.NameNotHeld d e = absurd (omega arith)
not_34 R.LayoutsFull d e = absurd (omega arith)
not_34 R.BadLabel d e = absurd (omega arith)
not_34 R.NotReleased d e = absurd (omega arith)
not_34 R.NoFloor d e = absurd (omega arith)
not_34 R.Overloaded d e = absurd (omega arith)

-- ---- the corner's number decides, but for 34
abbrev after : Bool → Bool → Bool → Bool → Bool → ℕ → ℕ
after t4 t5 t6 t31 t33 n = cond t4 4 (cond t5 5 (cond t6 6 (cond t31 31 (cond t33 33 n))))

other : (t4 t5 t6 t31 t33 near none : Bool) → (near ≡ false → none ≡ false) → after t4 t5 t6 t31 t33 (cond near 34 0) ≢ 34
    → after t4 t5 t6 t31 t33 (cond near 34 0) ≡ after t4 t5 t6 t31 t33 (cond none 40 0)
other true t5 t6 t31 t33 near none h d = refl
other false true t6 t31 t33 near none h d = refl
other false false true t31 t33 near none h d = refl
other false false false true t33 near none h d = refl
other false false false false true near none h d = refl
other false false false false false true none h d = absurd (d refl)
other false false false false false false none h d = rw (h refl)

near_34 : (t4 t5 t6 t31 t33 near none : Bool) → after t4 t5 t6 t31 t33 (cond near 34 0) ≡ 34 → (t4 ≡ false) × (cond none 40 0 ≡ after t4 t5 t6 t31 t33 (cond none 40 0))
near_34 true t5 t6 t31 t33 near none d = absurd (omega arith)
near_34 false true t6 t31 t33 near none d = absurd (omega arith)
near_34 false false true t31 t33 near none d = absurd (omega arith)
near_34 false false false true t33 near none d = absurd (omega arith)
near_34 false false false false true near none d = absurd (omega arith)
near_34 false false false false false near none d = (refl, refl)

nearest : (t4 t5 t6 t31 t33 near : Bool) → after t4 t5 t6 t31 t33 (cond near 34 0) ≡ 0 → near ≡ false
nearest true t5 t6 t31 t33 near d = absurd (omega arith)
nearest false true t6 t31 t33 near d = absurd (omega arith)
nearest false false true t31 t33 near d = absurd (omega arith)
nearest false false false true t33 near d = absurd (omega arith)
nearest false false false false true near d = absurd (omega arith)
nearest false false false false false true d = absurd (omega arith)
nearest false false false false false false d = refl

module _ (s : Settings) (last t number running : ℕ) (l : List Canister) where
  abbrev corner : Canister
  corner = at number 0 0

  abbrev t4 : Bool
  t4 = leb (total s) t

  abbrev t5 : Bool
  t5 = not (bit s.sources t)

  abbrev t6 : Bool
  t6 = eqb number 0

  abbrev t31 : Bool
  t31 = not (eqb running 1)

  abbrev t33 : Bool
  t33 = leb number last

  near : Bool
  near = not (clear (spacing s) l 0 0)

  none : Bool
  none = ltb (span s) (place_b s l)

  corner_is : refusal (booking_tests s last t corner running l) ≡ after t4 t5 t6 t31 t33 (cond near 34 0)
  unfolding booking_tests refusal inside clear apart near
  corner_is = rw (le-leb 0 (span s) (omega arith))

  placing_is : refusal (placing_tests s last t number running l) ≡ after t4 t5 t6 t31 t33 (cond none 40 0)
  unfolding placing_tests refusal none
  placing_is = refl

  -- ---- where the corner is clear, it is the lowest place
  corner_lowest : clear (spacing s) l 0 0 ≡ true → (place_a s l ≡ 0) × (place_b s l ≡ 0)
  unfolding place_a place_b
  corner_lowest e =
      let n = suc (span s) in
      let L = lowest_is (spacing s) n l (found (spacing s) n l 0 0 (omega arith) (omega arith) e) in
      let b = L.lowest_b 0 0 (omega arith) (omega arith) e in
      let z : lowest_b_of (spacing s) n l ≡ 0 = omega arith in
      (let k = L.lowest_a 0 (omega arith) (rw z e) in omega arith, z)

  none_off : near ≡ false → none ≡ false
  unfolding near none
  none_off e = let k = corner_lowest (not-false _ e) in le-ltb (span s) (place_b s l) (omega (arith, k.1))

  -- ---- the branches of find
  module _ (n : ℕ) (e : n ≡ refusal (booking_tests s last t corner running l)) where
    pub corner_number : n ≢ 34 → n ≡ refusal (placing_tests s last t number running l)
    corner_number d = e ∙ corner_is ∙ other t4 t5 t6 t31 t33 near none none_off (λ q. d (e ∙ corner_is ∙ q)) ∙ sym placing_is

    pub corner_place : n ≡ 0 → corner ≡ at number (place_a s l) (place_b s l)
    unfolding near
    corner_place z =
        let k = corner_lowest (not-false _ (nearest t4 t5 t6 t31 t33 near (sym corner_is ∙ sym e ∙ z))) in
        sym (λ i. at number (k.0 i) (k.1 i))

    pub near_on_floor : n ≡ 34 → t < total s
    near_on_floor d = leb-false _ _ (near_34 t4 t5 t6 t31 t33 near none (sym corner_is ∙ sym e ∙ d)).0

    pub none_number : n ≡ 34 → span s < place_b s l → 40 ≡ refusal (placing_tests s last t number running l)
    unfolding none
    none_number d h = ap (λ (b : Bool). cond b 40 0) (sym (lt-ltb (span s) (place_b s l) h)) ∙ (near_34 t4 t5 t6 t31 t33 near none (sym corner_is ∙ sym e ∙ d)).1 ∙ sym placing_is

    pub found_number : n ≡ 34 → place_b s l ≤ span s → 0 ≡ refusal (placing_tests s last t number running l)
    unfolding none
    found_number d h = ap (λ (b : Bool). cond b 40 0) (sym (le-ltb (span s) (place_b s l) h)) ∙ (near_34 t4 t5 t6 t31 t33 near none (sym corner_is ∙ sym e ∙ d)).1 ∙ sym placing_is
