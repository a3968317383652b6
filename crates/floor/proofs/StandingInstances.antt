-- [6] on concrete floors. Where a tile's canisters shifted, by the floors and the report alone, the theorem gives reason 6; where they stood, another; where the reason is 5, the millimetres. What is computed is computed on values.
use mathlib.Core.Path.{◌≡◌, refl, ap, ◌∙◌, subst}
use mathlib.Core.Logic.{◌≢◌}
use mathlib.Core.Bool.{true, false}
use mathlib.Core.List.Memᴰ
use mathlib.Core.List.{List}
use Prim.Native.Nat.{ℕ}
use lib.Dec.{eqb}
use lib.ListN.{length, get_or}
use borrow.Author.Tests.{eqb-false}
use Rattle.laws.specs.Every.{All}
use Rattle.floor.specs.declared.Floor.{Floor}
use Rattle.floor.specs.declared.Report.{Report}
use Rattle.floor.specs.Model.{Model, next_of, members_of}
use Rattle.floor.specs.Memory.{view}
use Rattle.floor.specs.Signal.{missing}
use Rattle.floor.specs.Calls.{report_of, round_answer}
use Rattle.floor.specs.Reports.{listed_at}
use Rattle.floor.specs.Demand3.{round, outcome}
use Rattle.floor.specs.BoundedBypass.{wants, turn_of}
use Rattle.floor.specs.Standing.{ahead, Shifts, Stood, Standing, stayed, landed, delivered, reason_at, missing_at_of}
use Rattle.floor.proofs.Calling.{several, holds}
use Rattle.floor.proofs.CallsByValue.{Shows, value_by, shows_call, shows_report}
use Rattle.floor.proofs.TablesByValue.{Made, begun, fresh, book as put, rounds as run, floor_of, made, made_shows, hold_by}
use Rattle.floor.proofs.Standing.{standing}

-- the theorem on the floor f; the floors and the deliveries in it by the value m
pub standing_of : (f : Floor) (m : Model) → Shows f m → Standing m (value_by m round) (listed_at (report_of m)) (reason_at f) (missing_at_of f)
unfolding outcome
standing_of f m s =
    subst (λ (r : Report). Standing m (value_by m round) (listed_at r) (reason_at f) (missing_at_of f)) (shows_report f m s)
    (subst (λ (x : Model). Standing m x (listed_at (round_answer f).report) (reason_at f) (missing_at_of f)) (shows_call f m s round tt).value
    (subst (λ (x : Model). Standing x (view (round_answer f).floor) (listed_at (round_answer f).report) (reason_at f) (missing_at_of f)) s.value (standing f s.well)))

reason_by_lem : (f : Floor) (m : Model) → Shows f m → (t : ℕ) → reason_at f t ≡ get_or (report_of m).reasons t 0
unfolding reason_at
reason_by_lem f m s t = ap (λ (r : Report). get_or r.reasons t 0) (shows_report f m s)

-- ---- a floor that calls made, and the round after it
abbrev before : Made → Model
before e = (made e).1

abbrev after : Made → Model
after e = value_by (before e) round

abbrev listed : Made → ℕ → List ℕ
listed e = listed_at (report_of (before e))

module _ (e : Made) (h : (made e).0 ≡ true) where
  here : Standing (before e) (after e) (listed e) (reason_at (floor_of e)) (missing_at_of (floor_of e))
  here = standing_of (floor_of e) (before e) (made_shows e h)

  -- tile t had canisters and has an arrow, and each of them is v farther along it
  six : (t : ℕ) → eqb (length (members_of (before e) t)) 0 ≡ false → eqb (next_of (after e) t) 0 ≡ false → All (Shifts (before e).settings (after e) (listed e) (next_of (after e) t) t) (members_of (before e) t) → reason_at (floor_of e) t ≡ 6
  six t some arrow each = (here.moved t).1 (λ q. eqb-false (length (members_of (before e) t)) 0 some (ap length q), λ q. eqb-false (next_of (after e) t) 0 arrow q, each)

-- ---- W 4, hoppers 0 and 3: 5 on tile 1 goes west and stays there, 6 on tile 2 goes east into the second hopper
unfoldable ends : Made
ends = put 6 70 0 2 (put 5 60 0 1 (run 2 (begun (several 4 1 9 20))))

ends_made : (made ends).0 ≡ true
unfolding holds hold_by ends
ends_made = refl

ends_stays : reason_at (floor_of ends) 1 ≡ 6
unfolding holds hold_by ends
ends_stays = six ends ends_made 1 refl refl (stayed refl (Memᴰ.head refl), tt)

ends_delivers : reason_at (floor_of ends) 2 ≡ 6
unfolding holds hold_by ends
ends_delivers = six ends ends_made 2 refl refl (delivered refl refl (Memᴰ.head refl), tt)

-- ---- W 3, hopper 2: 5 and 7 on tile 0, of which 5 lands on tile 1, where 6 goes on
unfoldable lane : Made
lane = put 7 30 0 0 (put 6 60 40 1 (put 5 70 0 0 (run 2 (fresh 3 1 2))))

lane_made : (made lane).0 ≡ true
unfolding holds hold_by lane
lane_made = refl

lane_lands : reason_at (floor_of lane) 0 ≡ 6
unfolding holds hold_by lane
lane_lands = six lane lane_made 0 refl refl (landed refl refl (Memᴰ.head refl), (stayed refl (Memᴰ.head refl), tt))

-- ---- W 3, hopper 1: the turn is west's, so 6 on tile 2 stands where it stood, and that is no shift
unfoldable both : Made
both = put 6 0 0 2 (put 5 70 0 0 (run 2 (fresh 3 1 1)))

both_made : (made both).0 ≡ true
unfolding holds hold_by both
both_made = refl

both_stands : reason_at (floor_of both) 2 ≢ 6
unfolding holds hold_by both
both_stands e = let S = here both both_made in S.not_both 2 ((S.moved 2).0 e) (Memᴰ.head refl, tt)

both_four : reason_at (floor_of both) 2 ≡ 4
unfolding holds hold_by both
both_four = reason_by_lem (floor_of both) (before both) (made_shows both both_made) 2

both_stood : Stood (before both) (after both) 2
both_stood = let S = here both both_made in S.stood 2 both_stands

-- ---- W 3, hopper 2: 6 on tile 1 is one millimetre short of the gap for 5
unfoldable close : Made
close = put 6 39 0 1 (put 5 0 0 0 (run 2 (fresh 3 1 2)))

close_test : ((made close).0 ≡ true) × ((get_or (report_of (before close)).reasons 0 0 ≡ 5) × (missing (before close).settings (turn_of (before close) (ahead (before close) (after close) 0)) (members_of (before close) (ahead (before close) (after close) 0)) ≡ 1))
unfolding holds hold_by close wants turn_of
close_test = (refl, (refl, refl))

close_short : missing_at_of (floor_of close) 0 ≡ 1
close_short = (here close close_test.0).short 0 (reason_by_lem (floor_of close) (before close) (made_shows close close_test.0) 0 ∙ close_test.1.0) ∙ close_test.1.1
