-- [13] on concrete barges: each call against the same one on the lone floor, refused calls, and the other floors. What is computed is computed on values.
use mathlib.Core.Path.{◌≡◌, refl, sym, ap, ◌∙◌, subst}
use mathlib.Core.Logic.{◌≢◌}
use mathlib.Core.Bool.{true, false, true≢false}
use mathlib.Core.List.{List, [], ◌∷◌}
use Prim.Native.Nat.{ℕ, ◌≤◌, ◌<◌}
use native.Mathlib.Omega.{arith}
use lib.Dec.{eqb}
use lib.ListN.{length, get_or}
use borrow.Author.Tests.{eqb-false}
use Rattle.laws.specs.Define.{all_of, sum}
use Rattle.floor.specs.declared.Settings.{Settings}
use Rattle.floor.specs.declared.Floor.{Floor}
use Rattle.floor.specs.declared.Report.{Report}
use Rattle.floor.specs.Model.{Model, numbers_on}
use Rattle.floor.specs.Memory.{zero_floor}
use Rattle.floor.specs.Calls.{zero_report, report_of}
use Rattle.floor.specs.Anywhere.{anywhere_answer}
use Rattle.floor.specs.Reports.{listed_at}
use Rattle.floor.specs.Demand3 as OneFloor
use Rattle.floor.specs.CommutingCalls.{place_to}
use Rattle.floor.proofs.Calling.{can, holds}
use Rattle.floor.proofs.CallsByValue.{Shows, refusal_by, place_by, shows_refusal, shows_place, shows_report}
use Rattle.floor.proofs.TablesByValue.{Made, begun, book as put, rounds as run, floor_of, made, made_shows, hold_by}
use Rattle.floor.proofs.AnywhereSamples.{small}
use Rattle.barge.specs.declared.Barge.{Barge}
use Rattle.barge.specs.Barges.{floor_at, with_floor, on_floor_of, aboard, allowance_sound, barge_sound, barge_round}
use Rattle.barge.specs.Lists.{BargeCall, book, anywhere, stop, repair, round, named, outcome, standalone_outcome, books, Payload, nothing, place, report, payload, standalone_payload, zero_payload, AsStandalone}
use Rattle.barge.proofs.Samples.{four}
use Rattle.barge.proofs.Answers.{others}
use Rattle.barge.proofs.Standalone.{as_standalone, refused}

-- ---- the floors. W 5, hoppers 0 and 4; U 9, l 3, r 1: places 0 to 6, d 4
unfoldable pub two_ends : Settings
two_ends = record { columns = 5; rows = 1; hoppers = 17; sources = 14; width = 9; length = 3; gap = 1; travel = 1 }

-- distances are settled. In the next round 5 goes into hopper 4, the second one, and 4, on tile 2, lacks 3 mm on tile 1
unfoldable pub laden : Made
laden = put 5 6 0 3 (put 4 0 0 2 (put 3 5 0 1 (run 2 (begun two_ends))))

-- W 2, hopper 1: nothing on it; 9 on it
unfoldable pub bare : Made
bare = begun (small 3 1)

unfoldable pub single : Made
single = put 9 0 0 0 (begun (small 3 1))

made_test : ((made laden).0 ≡ true) × (((made bare).0 ≡ true) × ((made single).0 ≡ true))
unfolding holds hold_by small two_ends laden bare single
made_test = (refl, (refl, refl))

pub laden_shows : Shows (floor_of laden) (made laden).1
laden_shows = made_shows laden made_test.0

pub bare_shows : Shows (floor_of bare) (made bare).1
bare_shows = made_shows bare made_test.1.0

pub single_shows : Shows (floor_of single) (made single).1
single_shows = made_shows single made_test.1.1

pub counts_test : (length (numbers_on (made laden).1) ≡ 3) × ((length (numbers_on (made bare).1) ≡ 0) × (length (numbers_on (made single).1) ≡ 1))
unfolding holds hold_by small two_ends laden bare single
counts_test = (refl, (refl, refl))

-- ---- the barge: floor 3 is laden, 9 is on floor 1; four are aboard, and the allowance is n
unfoldable pub loaded : ℕ → Barge
loaded n = four (floor_of bare) (floor_of single) (floor_of bare) (floor_of laden) n

pub loaded_sound : (n : ℕ) → allowance_sound n ≡ true → barge_sound (loaded n) ≡ true
unfolding four loaded barge_sound all_of
loaded_sound n h = rw (h, bare_shows.well, single_shows.well, laden_shows.well)

-- the canisters on a floor, by its value
pub on_shown : (f : Floor) (m : Model) → Shows f m → (n : ℕ) → length (numbers_on m) ≡ n → on_floor_of f ≡ n
unfolding on_floor_of
on_shown f m s n e = ap (λ (x : Model). length (numbers_on x)) s.value ∙ e

pub loaded_four : (n : ℕ) → aboard (loaded n) ≡ 4
unfolding four loaded aboard sum
loaded_four n =
    rw (on_shown (floor_of bare) (made bare).1 bare_shows 0 counts_test.1.0, on_shown (floor_of single) (made single).1 single_shows 1 counts_test.1.1, on_shown (floor_of laden) (made laden).1 laden_shows 3 counts_test.0)

pub sizes : (allowance_sound 5 ≡ true) × ((allowance_sound 4 ≡ true) × ((allowance_sound 3 ≡ true) × (allowance_sound 0 ≡ false)))
unfolding allowance_sound
sizes = (refl, (refl, (refl, refl)))

-- ---- `as_standalone` with one left of the allowance, at it, and above it
below : (c : BargeCall) → named c < 4 → AsStandalone (loaded 5) c
below c l = as_standalone (loaded 5) (loaded_sound 5 sizes.0) c l

full : (c : BargeCall) → named c < 4 → AsStandalone (loaded 4) c
full c l = as_standalone (loaded 4) (loaded_sound 4 sizes.1.0) c l

above : (c : BargeCall) → named c < 4 → AsStandalone (loaded 3) c
above c l = as_standalone (loaded 3) (loaded_sound 3 sizes.1.1.0) c l

-- what the lone floor answers
standalone_test : (refusal_by (made laden).1 (OneFloor.stop 0) ≡ 8) × ((refusal_by (made laden).1 (OneFloor.repair 1) ≡ 32) × ((refusal_by (made laden).1 (OneFloor.book 2 (can 5 4 0)) ≡ 33)
    × ((refusal_by (made laden).1 (OneFloor.book 2 (can 7 4 0)) ≡ 0) × ((refusal_by (made laden).1 (OneFloor.anywhere 2 7) ≡ 0) × (place_by (made laden).1 (OneFloor.anywhere 2 7) ≡ (4, 0))))))
unfolding holds hold_by two_ends laden can
standalone_test = (refl, (refl, (refl, (refl, (refl, refl)))))

standalone_answer : (c : OneFloor.Call) (n : ℕ) → refusal_by (made laden).1 c ≡ n → (OneFloor.outcome (floor_of laden) c).refusal ≡ n
standalone_answer c n e = shows_refusal (floor_of laden) (made laden).1 laden_shows c ∙ e

-- over, from the left: one is left, so 50 is not answered; 50 is never answered to a stop, a repair or a round
not_50 : (c : BargeCall) → named c < 4 → (outcome (loaded 5) c).refusal ≢ 50
unfolding four loaded
not_50 c l e = absurd (omega (arith, ((below c l).over.0 e).2, loaded_four 5))

not_booked : (c : BargeCall) → named c < 4 → books c ≡ false → (outcome (loaded 4) c).refusal ≢ 50
not_booked c l h e = true≢false (sym ((full c l).over.0 e).0 ∙ h)

standalone_33 : (outcome (loaded 4) (book 3 2 (can 5 4 0))).refusal ≢ 50
unfolding four loaded
standalone_33 e = absurd (omega (arith, ((full (book 3 2 (can 5 4 0)) (omega arith)).over.0 e).1, standalone_answer (OneFloor.book 2 (can 5 4 0)) 33 standalone_test.1.1.0))

-- over, from the right: at the allowance, and above it, a booking of either sort
over_book : (outcome (loaded 4) (book 3 2 (can 7 4 0))).refusal ≡ 50
unfolding four loaded
over_book = (full (book 3 2 (can 7 4 0)) (omega arith)).over.1 (refl, standalone_answer (OneFloor.book 2 (can 7 4 0)) 0 standalone_test.1.1.1.0, omega (arith, loaded_four 4))

over_anywhere : ((outcome (loaded 4) (anywhere 3 2 7)).refusal ≡ 50) × ((outcome (loaded 3) (anywhere 3 2 7)).refusal ≡ 50)
unfolding four loaded
over_anywhere =
    let own = standalone_answer (OneFloor.anywhere 2 7) 0 standalone_test.1.1.1.1.0 in
    ((full (anywhere 3 2 7) (omega arith)).over.1 (refl, own, omega (arith, loaded_four 4)), (above (anywhere 3 2 7) (omega arith)).over.1 (refl, own, omega (arith, loaded_four 3)))

-- ---- each field for every call on the barge with one left, and what it is for some calls on floor 3
every_refusal : (c : BargeCall) → named c < 4 → (outcome (loaded 5) c).refusal ≡ (standalone_outcome (loaded 5) c).refusal
every_refusal c l = (below c l).refusal (not_50 c l)

every_floor : (c : BargeCall) → named c < 4 → floor_at (outcome (loaded 5) c).barge (named c) ≡ (standalone_outcome (loaded 5) c).floor
every_floor c l = (below c l).floor (not_50 c l)

every_booked : (c : BargeCall) → named c < 4 → (outcome (loaded 5) c).booked ≡ (standalone_outcome (loaded 5) c).booked
every_booked c l = (below c l).booked (not_50 c l)

every_reported : (c : BargeCall) → named c < 4 → (k : ℕ) → (outcome (loaded 5) c).reported k ≡ (standalone_outcome (loaded 5) c).reported k
every_reported c l k = ap (λ (g : ℕ → List ℕ). g k) ((below c l).reported (not_50 c l))

every_payload : (c : BargeCall) → named c < 4 → payload (loaded 5) c ≡ standalone_payload (floor_at (loaded 5) (named c)) c
every_payload c l = (below c l).same_payload (not_50 c l)

every_barge : (c : BargeCall) → named c < 4 → (outcome (loaded 5) c).refusal ≡ 0 → (outcome (loaded 5) c).barge ≡ with_floor (loaded 5) (named c) (standalone_outcome (loaded 5) c).floor
every_barge c l z = (below c l).barge z

-- refusal: that of the lone floor, at the allowance too
stop_8 : ((outcome (loaded 5) (stop 3 0)).refusal ≡ 8) × ((outcome (loaded 4) (stop 3 0)).refusal ≡ 8)
unfolding four loaded
stop_8 =
    let own = standalone_answer (OneFloor.stop 0) 8 standalone_test.0 in
    (every_refusal (stop 3 0) (omega arith) ∙ own, (full (stop 3 0) (omega arith)).refusal (not_booked (stop 3 0) (omega arith) refl) ∙ own)

repair_32 : (outcome (loaded 5) (repair 3 1)).refusal ≡ 32
unfolding four loaded
repair_32 = every_refusal (repair 3 1) (omega arith) ∙ standalone_answer (OneFloor.repair 1) 32 standalone_test.1.0

book_33 : (outcome (loaded 4) (book 3 2 (can 5 4 0))).refusal ≡ 33
unfolding four loaded
book_33 = (full (book 3 2 (can 5 4 0)) (omega arith)).refusal standalone_33 ∙ standalone_answer (OneFloor.book 2 (can 5 4 0)) 33 standalone_test.1.1.0

anywhere_0 : (outcome (loaded 5) (anywhere 3 2 7)).refusal ≡ 0
unfolding four loaded
anywhere_0 = every_refusal (anywhere 3 2 7) (omega arith) ∙ standalone_answer (OneFloor.anywhere 2 7) 0 standalone_test.1.1.1.1.0

-- floor: floor 3 afterwards is the lone one's
round_floor : floor_at (outcome (loaded 5) (round 3)).barge 3 ≡ (OneFloor.outcome (floor_of laden) OneFloor.round).floor
unfolding four loaded
round_floor = every_floor (round 3) (omega arith)

-- booked
anywhere_booked : (outcome (loaded 5) (anywhere 3 2 7)).booked ≡ 7 ∷ []
unfolding four loaded OneFloor.outcome
anywhere_booked = every_booked (anywhere 3 2 7) (omega arith) ∙ rw (standalone_answer (OneFloor.anywhere 2 7) 0 standalone_test.1.1.1.1.0)

-- reported: at the second hopper
report_test : (listed_at (report_of (made laden).1) 1 ≡ 5 ∷ []) × ((get_or (report_of (made laden).1).grants 4 0 ≡ 1) × ((get_or (report_of (made laden).1).reasons 2 0 ≡ 5) × (get_or (report_of (made laden).1).missing 2 0 ≡ 3)))
unfolding holds hold_by two_ends laden
report_test = (refl, (refl, (refl, refl)))

round_reported : (outcome (loaded 5) (round 3)).reported 1 ≡ 5 ∷ []
unfolding four loaded OneFloor.outcome
round_reported = every_reported (round 3) (omega arith) 1 ∙ ap (λ (r : Report). listed_at r 1) (shows_report (floor_of laden) (made laden).1 laden_shows) ∙ report_test.0

-- tells: a round's report, whole, with a grant, a reason, its millimetres and a delivery read off; the place of a booking without a place
report_in : Payload → Report
report_in nothing = zero_report
report_in (place a b) = zero_report
report_in (report r) = r

round_report : (barge_round (loaded 5) 3).report ≡ report_of (made laden).1
unfolding four loaded report_in
round_report = ap report_in (every_payload (round 3) (omega arith)) ∙ shows_report (floor_of laden) (made laden).1 laden_shows

round_grants : (get_or (barge_round (loaded 5) 3).report.grants 4 0 ≡ 1) × ((get_or (barge_round (loaded 5) 3).report.reasons 2 0 ≡ 5) × ((get_or (barge_round (loaded 5) 3).report.missing 2 0 ≡ 3) × (listed_at (barge_round (loaded 5) 3).report 1 ≡ 5 ∷ [])))
round_grants =
    let e = round_report in (
      ap (λ (r : Report). get_or r.grants 4 0) e ∙ report_test.1.0,
      (ap (λ (r : Report). get_or r.reasons 2 0) e ∙ report_test.1.1.0, (ap (λ (r : Report). get_or r.missing 2 0) e ∙ report_test.1.1.1, ap (λ (r : Report). listed_at r 1) e ∙ report_test.0)),
    )

anywhere_place : payload (loaded 5) (anywhere 3 2 7) ≡ place 4 0
unfolding four loaded place_to
anywhere_place =
    every_payload (anywhere 3 2 7) (omega arith)
    ∙ ap (λ (x : ℕ × ℕ). place x.0 x.1) (shows_place (floor_of laden) (made laden).1 laden_shows (OneFloor.anywhere 2 7) ∙ standalone_test.1.1.1.1.1)

-- barge: accepted, it has floor 3 anew and all else as it was
anywhere_barge : (outcome (loaded 5) (anywhere 3 2 7)).barge ≡ with_floor (loaded 5) 3 (anywhere_answer (floor_of laden) 2 7).floor
unfolding four loaded OneFloor.outcome
anywhere_barge = every_barge (anywhere 3 2 7) (omega arith) anywhere_0

-- ---- `refused`: the barge comes back, zeros are told, nothing is booked or reported
abbrev Back : Barge → BargeCall → Payload → Type 0
Back b c t = ((outcome b c).barge ≡ b) × ((payload b c ≡ t) × (((outcome b c).booked ≡ []) × ((k : ℕ) → (outcome b c).reported k ≡ [])))

-- by any number but 0
by_number : (b : Barge) (c : BargeCall) (n : ℕ) → (outcome b c).refusal ≡ n → eqb n 0 ≡ false → Back b c (zero_payload c)
by_number b c n e d =
    let G = (refused b c).given_back (subst (λ (x : ℕ). x ≢ 0) (sym e) (eqb-false n 0 d)) in
    (G.barge, (G.same_payload, (G.booked, λ k. ap (λ (g : ℕ → List ℕ). g k) G.reported)))

back_8 : Back (loaded 5) (stop 3 0) nothing
back_8 = by_number (loaded 5) (stop 3 0) 8 stop_8.0 refl

back_33 : Back (loaded 4) (book 3 2 (can 5 4 0)) nothing
back_33 = by_number (loaded 4) (book 3 2 (can 5 4 0)) 33 book_33 refl

back_50 : Back (loaded 4) (anywhere 3 2 7) (place 0 0)
back_50 = by_number (loaded 4) (anywhere 3 2 7) 50 over_anywhere.0 refl

-- 30: an allowance of 0, and a malformed floor; before 49
low_unsound : barge_sound (loaded 0) ≡ false
unfolding four loaded barge_sound
low_unsound = rw sizes.1.1.1

round_30 : ((outcome (loaded 0) (round 3)).refusal ≡ 30) × ((outcome (loaded 0) (round 4)).refusal ≡ 30)
round_30 = ((refused (loaded 0) (round 3)).unsound low_unsound, (refused (loaded 0) (round 4)).unsound low_unsound)

back_30 : Back (loaded 0) (round 3) (report zero_report)
back_30 = by_number (loaded 0) (round 3) 30 round_30.0 refl

-- floor 2 is malformed
unfoldable broken : Barge
broken = four (floor_of bare) (floor_of single) zero_floor (floor_of laden) 5

broken_unsound : barge_sound broken ≡ false
unfolding holds four broken barge_sound allowance_sound all_of
broken_unsound = rw (bare_shows.well, single_shows.well)

broken_30 : (outcome broken (anywhere 3 2 7)).refusal ≡ 30
broken_30 = (refused broken (anywhere 3 2 7)).unsound broken_unsound

broken_back : Back broken (anywhere 3 2 7) (place 0 0)
broken_back = by_number broken (anywhere 3 2 7) 30 broken_30 refl

-- 49, from floor number 4 on
round_49 : (k : ℕ) → 4 ≤ k → (outcome (loaded 5) (round k)).refusal ≡ 49
round_49 k l = (refused (loaded 5) (round k)).no_floor (loaded_sound 5 sizes.0) l

back_49 : Back (loaded 5) (round 4) (report zero_report)
back_49 = by_number (loaded 5) (round 4) 49 (round_49 4 (omega arith)) refl

-- ---- `others`: each floor but the named one, whatever the call, on a sound barge and on an unsound one
others_stay : (c : BargeCall) (j : ℕ) → j ≢ named c → floor_at (outcome (loaded 5) c).barge j ≡ floor_at (loaded 5) j
others_stay c j n = others (loaded 5) c j n

others_unsound : (c : BargeCall) (j : ℕ) → j ≢ named c → floor_at (outcome broken c).barge j ≡ floor_at broken j
others_unsound c j n = others broken c j n

one_stays : floor_at (outcome (loaded 5) (round 3)).barge 1 ≡ floor_of single
unfolding four loaded
one_stays = others_stay (round 3) 1 (eqb-false 1 3 refl)
