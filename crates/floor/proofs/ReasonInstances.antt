-- [6] on concrete floors, beside StandingInstances: each reason that a tile can have, what comes before it, and the millimetres; then the gap test on each side.
use mathlib.Core.Path.{◌≡◌, refl, ap, ◌∙◌, subst}
use mathlib.Core.Logic.{◌↔◌, ◌≢◌}
use mathlib.Core.Bool.{Bool, true, false}
use mathlib.Core.List.{List, [], ◌∷◌, Memᴰ}
use Prim.Native.Nat.{ℕ, zero, suc, ◌+◌, ◌≤◌, ◌<◌}
use native.Mathlib.Omega.{arith}
use lib.ListN.{get_or}
use borrow.Author.Tests.{ltb-true, ltb-false}
use lib.Dec.{ltb}
use Rattle.laws.specs.Every.{All}
use Rattle.floor.specs.declared.Canister.{Canister}
use Rattle.floor.specs.declared.Settings.{Settings}
use Rattle.floor.specs.declared.Floor.{Floor}
use Rattle.floor.specs.declared.Report.{Report}
use Rattle.floor.specs.Sides.{sides, opposite}
use Rattle.floor.specs.Settings.{total}
use Rattle.floor.specs.Model.{Model, runs_of_of, next_of, members_of}
use Rattle.floor.specs.Signal.{lack, missing}
use Rattle.floor.specs.Calls.{report_of}
use Rattle.floor.specs.Reports.{listed_at}
use Rattle.floor.specs.Demand3.{round}
use Rattle.floor.specs.BoundedBypass.{wants, turn_of}
use Rattle.floor.specs.Standing.{ahead, Shifts, Shifted, Fits, Standing, reason_at, missing_at_of}
use Rattle.floor.proofs.Calling.{several, settings, can, holds}
use Rattle.floor.proofs.CallsByValue.{value_by, shows_report}
use Rattle.floor.proofs.TablesByValue.{Made, fresh, book as put, stop as halt, rounds as run, floor_of, made, made_shows, hold_by}
use Rattle.floor.proofs.Grid.{at1, at2, at3, at4}
use Rattle.floor.proofs.Standing.{gap_test}
use Rattle.floor.proofs.StandingInstances.{standing_of as standing-shown}

-- ---- a floor that calls made, the round after it, and the numbers that it delivers
abbrev before : Made → Model
before e = (made e).1

abbrev after : Made → Model
after e = value_by (before e) round

abbrev listed : Made → ℕ → List ℕ
listed e = listed_at (report_of (before e))

module _ (e : Made) (h : (made e).0 ≡ true) where
  standing_here : Standing (before e) (after e) (listed e) (reason_at (floor_of e)) (missing_at_of (floor_of e))
  standing_here = standing-shown (floor_of e) (before e) (made_shows e h)

  -- the reason by the value, and what it says of the tile
  reason : (t : ℕ) → reason_at (floor_of e) t ≡ get_or (report_of (before e)).reasons t 0
  unfolding reason_at
  reason t = ap (λ (r : Report). get_or r.reasons t 0) (shows_report (floor_of e) (before e) (made_shows e h))

  says : (t r : ℕ) → get_or (report_of (before e)).reasons t 0 ≡ r → t < total (before e).settings → Fits (before e) (after e) (listed e) t r
  says t r q on = subst (Fits (before e) (after e) (listed e) t) (reason t ∙ q) (standing_here.fits t on)

  earlier : (t r k : ℕ) → get_or (report_of (before e)).reasons t 0 ≡ r → t < total (before e).settings → 1 ≤ k → k < r → ¬ (Fits (before e) (after e) (listed e) t k)
  earlier t r k q on p l = standing_here.first t on k p (omega (arith, l, reason t ∙ q))

-- ---- 3 × 2, hopper 3, tiles 1 and 5 stopped. Tile 2 moves into the hopper, and has the gap for neither 5 on tile 0 nor 6 on tile 4; the turn is west's
unfoldable fork : Made
fork = put 7 35 0 2 (put 6 0 0 4 (put 5 0 0 0 (halt 5 (halt 1 (run 3 (fresh 3 2 3))))))

abbrev m : Model
m = before fork

abbrev n : Model
n = after fork

abbrev f : Floor
f = floor_of fork

fork_made : (made fork).0 ≡ true
unfolding holds hold_by fork
fork_made = refl

six_tiles : total m.settings ≡ 6
unfolding holds hold_by fork
six_tiles = refl

reasons : (get_or (report_of m).reasons 0 0 ≡ 5) × ((get_or (report_of m).reasons 1 0 ≡ 1) × ((get_or (report_of m).reasons 2 0 ≡ 6) × ((get_or (report_of m).reasons 3 0 ≡ 2) × (get_or (report_of m).reasons 4 0 ≡ 4))))
unfolding holds hold_by fork
reasons = (refl, (refl, (refl, (refl, refl))))

on_floor : (t : ℕ) → t < 6 → t < total m.settings
on_floor t l = omega (arith, l, six_tiles)

fork_one : (1 ≤ reason_at f 5) × (reason_at f 5 ≤ 6)
fork_one = let a = (standing_here fork fork_made).one 5 (on_floor 5 (omega arith)) in (a.0, a.1)

fork_stopped : runs_of_of m 1 ≡ false
fork_stopped = says fork fork_made 1 1 reasons.1.0 (on_floor 1 (omega arith))

fork_empty : members_of m 3 ≡ []
fork_empty = says fork fork_made 3 2 reasons.1.1.1.0 (on_floor 3 (omega arith))

fork_turn : turn_of m (ahead m n 4) ≢ opposite (next_of n 4)
fork_turn = says fork fork_made 4 4 reasons.1.1.1.1 (on_floor 4 (omega arith))

fork_gap : 0 < missing m.settings (turn_of m (ahead m n 0)) (members_of m (ahead m n 0))
fork_gap = says fork fork_made 0 5 reasons.0 (on_floor 0 (omega arith))

fork_moved : Shifted m n (listed fork) 2
fork_moved = says fork fork_made 2 6 reasons.1.1.0 (on_floor 2 (omega arith))

-- none before it fits: an empty tile that runs; a turn that is another's; a gap
fork_runs : ¬ (runs_of_of m 3 ≡ false)
fork_runs = earlier fork fork_made 3 2 1 reasons.1.1.1.0 (on_floor 3 (omega arith)) (omega arith) (omega arith)

fork_some : ¬ (members_of m 4 ≡ [])
fork_some = earlier fork fork_made 4 4 2 reasons.1.1.1.1 (on_floor 4 (omega arith)) (omega arith) (omega arith)

fork_arrow : ¬ (next_of n 4 ≡ 0)
fork_arrow = earlier fork fork_made 4 4 3 reasons.1.1.1.1 (on_floor 4 (omega arith)) (omega arith) (omega arith)

fork_own_turn : ¬ (turn_of m (ahead m n 0) ≢ opposite (next_of n 0))
fork_own_turn = earlier fork fork_made 0 5 4 reasons.0 (on_floor 0 (omega arith)) (omega arith) (omega arith)

fork_has_gap : ¬ (0 < missing m.settings (turn_of m (ahead m n 2)) (members_of m (ahead m n 2)))
fork_has_gap = earlier fork fork_made 2 6 5 reasons.1.1.0 (on_floor 2 (omega arith)) (omega arith) (omega arith)

-- tile 1 is stopped and empty: by the theorem alone its reason is the first of the two
fork_first : reason_at f 1 ≡ 1
fork_first = go (ltb 1 (reason_at f 1)) refl
  where
    go : (b : Bool) → ltb 1 (reason_at f 1) ≡ b → reason_at f 1 ≡ 1
    go true q = absurd ((standing_here fork fork_made).first 1 (on_floor 1 (omega arith)) 1 (omega arith) (ltb-true 1 (reason_at f 1) q) fork_stopped)
    go false q = omega (arith, ltb-false 1 (reason_at f 1) q, ((standing_here fork fork_made).one 1 (on_floor 1 (omega arith))).0)

fork_ahead : runs_of_of m (ahead m n 4) ≡ true
fork_ahead = (standing_here fork fork_made).runs 4 fork_arrow

-- 7 was delivered to the hopper north of tile 2; 6 stands where it stood
fork_shifted : (members_of m 2 ≢ []) × (next_of n 2 ≢ 0) × Shifts m.settings n (listed fork) 3 2 (can 7 35 0)
unfolding holds hold_by fork
fork_shifted = let a = ((standing_here fork fork_made).moved 2).0 (reason fork fork_made 2 ∙ reasons.1.1.0) in (a.0, a.1, a.2.0)

fork_stood : Memᴰ (can 6 0 0) (members_of n 4)
unfolding holds hold_by fork
fork_stood = ((standing_here fork fork_made).stood 4 (λ q. absurd (omega (arith, q, reason fork fork_made 4 ∙ reasons.1.1.1.1)))).0

fork_not_both : ¬ (All (λ c. Memᴰ c (members_of n 2)) (members_of m 2))
fork_not_both = (standing_here fork fork_made).not_both 2 fork_moved

fork_hopper : reason_at f 3 ≡ 2
unfolding holds hold_by fork
fork_hopper = (standing_here fork fork_made).hopper 3 refl

fork_none : ((reason_at f 6 ≡ 0) × (missing_at_of f 6 ≡ 0)) × ((reason_at f 63 ≡ 0) × (missing_at_of f 63 ≡ 0))
fork_none =
    let a = (standing_here fork fork_made).none 6 (omega (arith, six_tiles)) in
    let b = (standing_here fork fork_made).none 63 (omega (arith, six_tiles)) in
    ((a.0, a.1), (b.0, b.1))

-- beside reason 4 no millimetres are told
only_zero : (k : ℕ) → ¬ (0 < k) → k ≡ 0
only_zero zero h = refl
only_zero (suc k) h = absurd (h (omega arith))

fork_no_millimetres : missing_at_of f 4 ≡ 0
fork_no_millimetres = only_zero (missing_at_of f 4) (λ p. absurd (omega (arith, ((standing_here fork fork_made).lacking 4).1 p, reason fork fork_made 4 ∙ reasons.1.1.1.1)))

-- ---- W 4, hopper 3: 5 on tile 1 has no arrow in the first round
unfoldable bare : Made
bare = put 5 0 0 1 (fresh 4 1 3)

bare_test : ((made bare).0 ≡ true) × ((total (before bare).settings ≡ 4) × (get_or (report_of (before bare)).reasons 1 0 ≡ 3))
unfolding holds hold_by bare
bare_test = (refl, (refl, refl))

bare_arrow : next_of (after bare) 1 ≡ 0
bare_arrow = says bare bare_test.0 1 3 bare_test.1.1 (omega (arith, bare_test.1.0))

-- ---- W 3, hopper 0: 6 on tile 1 is 40 millimetres, d, short of the gap for 5 on tile 2
unfoldable far : Made
far = put 6 70 0 1 (put 5 50 50 2 (run 2 (fresh 3 1 0)))

far_test : ((made far).0 ≡ true) × ((get_or (report_of (before far)).reasons 2 0 ≡ 5) × (missing (before far).settings (turn_of (before far) (ahead (before far) (after far) 2)) (members_of (before far) (ahead (before far) (after far) 2)) ≡ 40))
unfolding holds hold_by far wants turn_of
far_test = (refl, (refl, refl))

far_five : reason_at (floor_of far) 2 ≡ 5
far_five = reason far far_test.0 2 ∙ far_test.1.0

far_short : missing_at_of (floor_of far) 2 ≡ 40
far_short = (standing_here far far_test.0).short 2 far_five ∙ far_test.1.1

far_lacking : 0 < missing_at_of (floor_of far) 2
far_lacking = ((standing_here far far_test.0).lacking 2).0 far_five

far_millimetres : reason_at (floor_of far) 2 ≡ 5
far_millimetres = ((standing_here far far_test.0).lacking 2).1 (omega (arith, far_short))

far_below : (missing_at_of (floor_of far) 2 ≤ 40) × (missing_at_of (floor_of far) 2 < 100)
unfolding holds hold_by far
far_below = let a = (standing_here far far_test.0).below 2 in (a.0, a.1)

-- ---- the gap test: U 100, l 30, r 10, so d 40
abbrev s : Settings
s = settings 3 1 2 20

-- the worst of two canisters, not their sum
abbrev two : List Canister
two = can 6 39 70 ∷ can 7 5 0 ∷ []

worst_west : (lack s 1 (can 6 39 70) ≤ 35) × (lack s 1 (can 7 5 0) ≤ 35)
unfolding holds
worst_west = let a = ((gap_test s).worst 1 two 35).0 (omega arith) in (a.0, a.1.0)

within_west : missing s 1 two ≤ 35
unfolding holds
within_west = ((gap_test s).worst 1 two 35).1 (omega arith, (omega arith, tt))

not_less : ¬ (missing s 1 two ≤ 34)
unfolding holds
not_less h = let a : lack s 1 (can 7 5 0) ≤ 34 = (((gap_test s).worst 1 two 34).0 h).1.0 in absurd (omega (arith, a))

worst_north : missing s 3 two ≤ 40
unfolding holds
worst_north = ((gap_test s).worst 3 two 40).1 (omega arith, (omega arith, tt))

-- 0 exactly for a gap, on each side
enough_west : (c : Canister) → lack s 1 c ≡ 0 ↔ 40 ≤ c.a
unfolding several settings sides
enough_west c = let e = (gap_test s).enough {k = 1} at1 c in (e.0, e.1)

enough_south : (c : Canister) → lack s 2 c ≡ 0 ↔ 40 ≤ c.b
unfolding several settings sides
enough_south c = let e = (gap_test s).enough {k = 2} at2 c in (e.0, e.1)

enough_north : (c : Canister) → lack s 3 c ≡ 0 ↔ c.b + 30 + 40 ≤ 100
unfolding several settings sides
enough_north c = let e = (gap_test s).enough {k = 3} at3 c in (e.0, e.1)

enough_east : (c : Canister) → lack s 4 c ≡ 0 ↔ c.a + 30 + 40 ≤ 100
unfolding several settings sides
enough_east c = let e = (gap_test s).enough {k = 4} at4 c in (e.0, e.1)

-- a canister with a = d, and one millimetre nearer
just_west : lack s 1 (can 5 40 0) ≡ 0
unfolding can
just_west = (enough_west (can 5 40 0)).1 (omega arith)

too_near : ¬ (lack s 1 (can 5 39 0) ≡ 0)
unfolding can
too_near h = absurd (omega (arith, (enough_west (can 5 39 0)).0 h))

-- of a tile with two canisters
gap_west : (c e : Canister) → missing s 1 (c ∷ e ∷ []) ≡ 0 ↔ (40 ≤ c.a) × ((40 ≤ e.a) × Unit {0})
unfolding several settings sides
gap_west c e = let a = (gap_test s).gap {k = 1} at1 (c ∷ e ∷ []) in (a.0, a.1)

gap_south : (c e : Canister) → missing s 2 (c ∷ e ∷ []) ≡ 0 ↔ (40 ≤ c.b) × ((40 ≤ e.b) × Unit {0})
unfolding several settings sides
gap_south c e = let a = (gap_test s).gap {k = 2} at2 (c ∷ e ∷ []) in (a.0, a.1)

gap_north : (c e : Canister) → missing s 3 (c ∷ e ∷ []) ≡ 0 ↔ (c.b + 30 + 40 ≤ 100) × ((e.b + 30 + 40 ≤ 100) × Unit {0})
unfolding several settings sides
gap_north c e = let a = (gap_test s).gap {k = 3} at3 (c ∷ e ∷ []) in (a.0, a.1)

gap_east : (c e : Canister) → missing s 4 (c ∷ e ∷ []) ≡ 0 ↔ (c.a + 30 + 40 ≤ 100) × ((e.a + 30 + 40 ≤ 100) × Unit {0})
unfolding several settings sides
gap_east c e = let a = (gap_test s).gap {k = 4} at4 (c ∷ e ∷ []) in (a.0, a.1)
