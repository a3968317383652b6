-- [1] on concrete floors, beside AnywhereInstances: `placing` field by field, on tile 1 and on a malformed floor.
use mathlib.Core.Path.{◌≡◌, refl, sym, ap, ◌∙◌, subst}
use mathlib.Core.Logic.{◌⊎◌, inl, inr, ◌≢◌}
use mathlib.Core.Bool.{true, false, cond}
use Prim.Native.Nat.{ℕ, suc, ◌+◌, ◌≤◌, ◌<◌}
use native.Mathlib.Omega.{arith}
use lib.Dec.{ltb, eqb}
use borrow.Author.Tests.{ltb-true, eqb-false}
use Rattle.laws.specs.Define.{bit}
use Rattle.floor.specs.declared.Floor.{Floor}
use Rattle.floor.specs.declared.Answer.{Answer}
use Rattle.floor.specs.Settings.{total, span}
use Rattle.floor.specs.Model.{Model, runs_of_of}
use Rattle.floor.specs.Memory.{zero_floor, view}
use Rattle.floor.specs.Well.{well_formed}
use Rattle.floor.specs.Anywhere.{anywhere_answer}
use Rattle.floor.specs.Placing.{Free, LowestPlace, OthersPass, booked_at}
use Rattle.floor.specs.Demand3.{anywhere, outcome}
use Rattle.floor.specs.CommutingCalls.{place_to}
use Rattle.floor.proofs.Calling.{holds}
use Rattle.floor.proofs.CallsByValue.{Shows, refusal_by, place_by, shows_refusal, shows_place}
use Rattle.floor.proofs.TablesByValue.{Made, begun, book as put, floor_of, made, made_shows, hold_by}
use Rattle.floor.proofs.Placing.{placing}
use Rattle.floor.proofs.CommutingInstances.{narrow}

-- ---- what the value tells of the call
module _ (f : Floor) (m : Model) (s : Shows f m) (t number : ℕ) where
  refusal : (n : ℕ) → refusal_by m (anywhere t number) ≡ n → (anywhere_answer f t number).refusal ≡ n
  unfolding outcome
  refusal n e = shows_refusal f m s (anywhere t number) ∙ e

  -- the place it takes is the lowest
  lowest : (a b : ℕ) → refusal_by m (anywhere t number) ≡ 0 → place_by m (anywhere t number) ≡ (a, b) → LowestPlace m t a b
  unfolding place_to
  lowest a b e p =
      let q = shows_place f m s (anywhere t number) ∙ p in
      let r = anywhere_answer f t number in
      subst (λ (x : Model). LowestPlace x t a b) s.value
      (subst (λ (y : ℕ). LowestPlace (view f) t a y) (ap (λ (x : ℕ × ℕ). x.1) q)
      (subst (λ (x : ℕ). LowestPlace (view f) t x r.b) (ap (λ (x : ℕ × ℕ). x.0) q) ((placing f t number).takes (refusal 0 e))))

  passing : ltb t (total m.settings) ≡ true → bit m.settings.sources t ≡ true → eqb number 0 ≡ false → runs_of_of m t ≡ true → ltb m.counters.last number ≡ true → OthersPass f t number
  unfolding view
  passing on fill some runs above = record {
    well = s.well;
    on_floor = subst (λ (x : Model). t < total x.settings) (sym s.value) (ltb-true t (total m.settings) on);
    fill_tile = ap (λ (x : Model). bit x.settings.sources t) s.value ∙ fill;
    not_zero = eqb-false number 0 some;
    running = ap (λ (x : Model). runs_of_of x t) s.value ∙ runs;
    above_last = subst (λ (x : Model). x.counters.last < number) (sym s.value) (ltb-true m.counters.last number above);
  }

-- ---- 1 at (3, 2): the lowest b is 6
unfoldable high : Made
high = put 1 3 2 1 (begun narrow)

high_test : ((made high).0 ≡ true) × ((refusal_by (made high).1 (anywhere 1 2) ≡ 0) × (place_by (made high).1 (anywhere 1 2) ≡ (0, 6)))
unfolding holds hold_by narrow high
high_test = (refl, (refl, refl))

high_lowest : LowestPlace (made high).1 1 0 6
high_lowest = lowest (floor_of high) (made high).1 (made_shows high high_test.0) 1 2 0 6 high_test.1.0 high_test.1.1

high_within : (0 ≤ 6) × (6 ≤ 6)
unfolding holds hold_by narrow high
high_within = (high_lowest.free.a_within, high_lowest.free.b_within)

high_spaced : ((0 + 4 ≤ 3) ⊎ (3 + 4 ≤ 0)) ⊎ ((6 + 4 ≤ 2) ⊎ (2 + 4 ≤ 6))
unfolding holds hold_by narrow high
high_spaced = high_lowest.free.spaced.0

no_lower : (x y : ℕ) → Free (made high).1 1 x y → 6 ≤ y
no_lower = high_lowest.lowest_b

-- ---- 1 at (2, 1): b is 0, and the lowest a with it is 6
unfoldable aside : Made
aside = put 1 2 1 1 (begun narrow)

abbrev f : Floor
f = floor_of aside

abbrev m : Model
m = (made aside).1

aside_test : ((made aside).0 ≡ true) × ((refusal_by m (anywhere 1 2) ≡ 0) × ((place_by m (anywhere 1 2) ≡ (6, 0)) × (refusal_by m (anywhere 1 1) ≡ 33)))
unfolding holds hold_by narrow aside
aside_test = (refl, (refl, (refl, refl)))

shown : Shows f m
shown = made_shows aside aside_test.0

aside_lowest : LowestPlace m 1 6 0
aside_lowest = lowest f m shown 1 2 6 0 aside_test.1.0 aside_test.1.1.0

no_nearer : (x : ℕ) → Free m 1 x 0 → 6 ≤ x
no_nearer = aside_lowest.lowest_a

-- as a booking there; with number 1, which is refused, too
aside_here : LowestPlace (view f) 1 6 0
aside_here = subst (λ (x : Model). LowestPlace x 1 6 0) (sym shown.value) aside_lowest

booked_floor : ((booked_at f 1 2 6 0).floor ≡ (anywhere_answer f 1 2).floor) × ((booked_at f 1 2 6 0).refusal ≡ 0)
booked_floor =
    let e = (placing f 1 2).as_booked 6 0 aside_here in
    (ap (λ (x : Answer). x.floor) e, ap (λ (x : Answer). x.refusal) e ∙ refusal f m shown 1 2 0 aside_test.1.0)

booked_refused : ((booked_at f 1 1 6 0).floor ≡ (anywhere_answer f 1 1).floor) × ((booked_at f 1 1 6 0).refusal ≡ 33)
booked_refused =
    let e = (placing f 1 1).as_booked 6 0 aside_here in
    (ap (λ (x : Answer). x.floor) e, ap (λ (x : Answer). x.refusal) e ∙ refusal f m shown 1 1 33 aside_test.1.1.1)

-- accepted: all that is asked, and a place; any place will do
accepted_means : (1 < total f.settings) × ((bit f.settings.sources 1 ≡ true) × ((runs_of_of (view f) 1 ≡ true) × ((f.counters.last < 2) × (well_formed f ≡ true))))
accepted_means = let P = ((placing f 1 2).accepted.0 (refusal f m shown 1 2 0 aside_test.1.0)).0 in (P.on_floor, (P.fill_tile, (P.running, (P.above_last, P.well))))

accepted_number : (k : ℕ) → (anywhere_answer f 1 k).refusal ≡ 0 → k ≢ 0
accepted_number k e = ((placing f 1 k).accepted.0 e).0.not_zero

accepted_place : (a : ℕ) × (b : ℕ) × Free (view f) 1 a b
accepted_place = let P = (placing f 1 2).accepted.0 (refusal f m shown 1 2 0 aside_test.1.0) in (P.1, P.2, P.3)

other_place : Free m 1 0 5
unfolding holds hold_by narrow aside
other_place = record { a_within = omega arith; b_within = omega arith; spaced = (inr (inr (omega arith)), tt) }

aside_passes : OthersPass f 1 2
unfolding holds hold_by narrow aside
aside_passes = passing f m shown 1 2 refl refl refl refl refl

accepted_so : (anywhere_answer f 1 2).refusal ≡ 0
accepted_so = (placing f 1 2).accepted.1 (aside_passes, 0, 5, subst (λ (x : Model). Free x 1 0 5) (sym shown.value) other_place)

-- ---- 1 at (3, 3): no place, so 40, and a booking at any pair is 34
unfoldable blocked : Made
blocked = put 1 3 3 1 (begun narrow)

abbrev g : Floor
g = floor_of blocked

abbrev n : Model
n = (made blocked).1

blocked_test : ((made blocked).0 ≡ true) × ((refusal_by n (anywhere 1 2) ≡ 40) × (refusal_by n (anywhere 1 1) ≡ 33))
unfolding holds hold_by narrow blocked
blocked_test = (refl, (refl, refl))

blocked_shows : Shows g n
blocked_shows = made_shows blocked blocked_test.0

forty : (anywhere_answer g 1 2).refusal ≡ 40
forty = refusal g n blocked_shows 1 2 40 blocked_test.1.0

-- by the definition alone no pair is free
none_free : (a b : ℕ) → ¬ (Free n 1 a b)
unfolding holds hold_by narrow blocked
none_free a b F = go F.a_within F.b_within F.spaced.0
  where
    go : a ≤ 6 → b ≤ 6 → ((a + 4 ≤ 3) ⊎ (3 + 4 ≤ a)) ⊎ ((b + 4 ≤ 3) ⊎ (3 + 4 ≤ b)) → ⊥
    go p q (inl (inl h)) = absurd (omega (arith, h))
    go p q (inl (inr h)) = absurd (omega (arith, h, p))
    go p q (inr (inl h)) = absurd (omega (arith, h))
    go p q (inr (inr h)) = absurd (omega (arith, h, q))

blocked_passes : OthersPass g 1 2
unfolding holds hold_by narrow blocked
blocked_passes = passing g n blocked_shows 1 2 refl refl refl refl refl

no_place_so : (anywhere_answer g 1 2).refusal ≡ 40
no_place_so = (placing g 1 2).no_place.1 (blocked_passes, subst (λ (x : Model). (a b : ℕ) → ¬ (Free x 1 a b)) (sym blocked_shows.value) none_free)

no_place_means : OthersPass g 1 2 × ((a b : ℕ) → ¬ (Free (view g) 1 a b))
no_place_means = let P = (placing g 1 2).no_place.0 forty in (P.0, P.1)

spans : span g.settings ≡ 6
unfolding holds hold_by narrow blocked view
spans = ap (λ (x : Model). span x.settings) blocked_shows.value

not_zero : (k : ℕ) {r : ℕ} → r ≡ suc k → r ≢ 0
not_zero k e z = absurd (omega (arith, e, z))

checks_40 : ((booked_at g 1 2 0 0).refusal ≡ 34) × ((booked_at g 1 2 6 6).refusal ≡ 34)
checks_40 =
    let at : (a b : ℕ) → a ≤ 6 → b ≤ 6 → (booked_at g 1 2 a b).refusal ≡ 34 =
    λ a b p q. (placing g 1 2).checks (not_zero 39 forty) a b (omega (arith, p, spans)) (omega (arith, q, spans)) ∙ ap (λ (r : ℕ). cond (eqb r 40) 34 r) forty in
    (at 0 0 (omega arith) (omega arith), at 6 6 (omega arith) (omega arith))

checks_33 : (booked_at g 1 1 6 5).refusal ≡ 33
checks_33 =
    let e = refusal g n blocked_shows 1 1 33 blocked_test.1.1 in
    (placing g 1 1).checks (not_zero 32 e) 6 5 (omega (arith, spans)) (omega (arith, spans)) ∙ ap (λ (r : ℕ). cond (eqb r 40) 34 r) e

refused_40 : ((anywhere_answer g 1 2).floor ≡ g) × ((anywhere_answer g 1 2).a ≡ 0) × ((anywhere_answer g 1 2).b ≡ 0)
refused_40 = let e = (placing g 1 2).refused (not_zero 39 forty) in (e.0, e.1, e.2)

-- ---- the all-zero floor: 30 for either booking
zero_test : (anywhere_answer zero_floor 1 2).refusal ≡ 30
unfolding holds
zero_test = refl

zero_checks : (booked_at zero_floor 1 2 0 0).refusal ≡ 30
unfolding zero_floor
zero_checks = (placing zero_floor 1 2).checks (not_zero 29 zero_test) 0 0 (omega arith) (omega arith) ∙ ap (λ (r : ℕ). cond (eqb r 40) 34 r) zero_test

zero_refused : ((anywhere_answer zero_floor 1 2).floor ≡ zero_floor) × ((anywhere_answer zero_floor 1 2).a ≡ 0) × ((anywhere_answer zero_floor 1 2).b ≡ 0)
zero_refused = let e = (placing zero_floor 1 2).refused (not_zero 29 zero_test) in (e.0, e.1, e.2)
