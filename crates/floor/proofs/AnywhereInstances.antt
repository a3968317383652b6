-- [1] on concrete floors and lists: what the theorem says of a place found and of a full tile; demand 3, [3], [11] and [14] with such bookings in their lists.
use mathlib.Core.Path.{◌≡◌, refl, ap, ◌∙◌, subst}
use mathlib.Core.Bool.{true, false}
use mathlib.Core.List.{List, [], ◌∷◌}
use Prim.Native.Nat.{ℕ}
use native.Mathlib.Omega.{arith}
use Rattle.laws.specs.Every.{All}
use Rattle.floor.specs.declared.Answer.{Answer}
use Rattle.floor.specs.Model.{next_of, members_of}
use Rattle.floor.specs.Memory.{view}
use Rattle.floor.specs.Anywhere.{anywhere_answer}
use Rattle.floor.specs.Placing.{Free, LowestPlace, booked_at}
use Rattle.floor.specs.Demand3.{Call, book, anywhere, stop, round, InRange, outcome, floor_after, disturbs}
use Rattle.floor.specs.CommutingCalls.{place_to, placed, unplaced, BothBooked}
use Rattle.floor.specs.BoundedBypass.{wants, grants_in, Fair}
use Rattle.floor.proofs.Calling.{can, holds}
use Rattle.floor.proofs.CallsByValue.{Shows, refusal_by, place_by, value_by, shows_refusal, shows_place, shows_call}
use Rattle.floor.proofs.ListsByValue.{disturbs_by, quiet_by_lem, running_unchanged_by, waiting_by, call_disturbs, running_unchanged, waiting}
use Rattle.floor.proofs.TablesByValue.{Made, begun, fresh, book as put, floor_of, made, made_shows, hold_by}
use Rattle.floor.proofs.Placing.{placing}
use Rattle.floor.proofs.CommutingCalls.{commuting_calls}
use Rattle.floor.proofs.BoundedBypass.{bounded_bypass}
use Rattle.floor.proofs.Arrows.{arrows}
use Rattle.floor.proofs.AnywhereSamples.{small}
use Rattle.floor.proofs.Instances.{quiet_enough, empties, emptied, rounds, in_range_stop, in_range_rounds, one, crowd, crowd_shows, square, square_shows, four_tiles, running_unchanged_rounds, settled, rest, settled_shows}

-- ---- the place found: U 9, l 3, r 1, canister 1 at (3, 2) on tile 0; 2 is set at (0, 6), the lowest place there is, as a booking there sets it
unfoldable high : Made
high = put 1 3 2 0 (begun (small 3 1))

high_test : ((made high).0 ≡ true) × ((refusal_by (made high).1 (anywhere 0 2) ≡ 0) × (place_by (made high).1 (anywhere 0 2) ≡ (0, 6)))
unfolding holds hold_by small high
high_test = (refl, (refl, refl))

high_shows : Shows (floor_of high) (made high).1
high_shows = made_shows high high_test.0

high_accepted : (anywhere_answer (floor_of high) 0 2).refusal ≡ 0
unfolding outcome
high_accepted = shows_refusal (floor_of high) (made high).1 high_shows (anywhere 0 2) ∙ high_test.1.0

high_place : ((anywhere_answer (floor_of high) 0 2).a ≡ 0) × ((anywhere_answer (floor_of high) 0 2).b ≡ 6)
unfolding place_to
high_place = let e = shows_place (floor_of high) (made high).1 high_shows (anywhere 0 2) ∙ high_test.1.1 in (ap (λ (x : ℕ × ℕ). x.0) e, ap (λ (x : ℕ × ℕ). x.1) e)

high_lowest : LowestPlace (view (floor_of high)) 0 0 6
high_lowest =
    subst (λ (b : ℕ). LowestPlace (view (floor_of high)) 0 0 b) high_place.1
    (subst (λ (a : ℕ). LowestPlace (view (floor_of high)) 0 a (anywhere_answer (floor_of high) 0 2).b) high_place.0 ((placing (floor_of high) 0 2).takes high_accepted))

high_booked : (booked_at (floor_of high) 0 2 0 6).floor ≡ (anywhere_answer (floor_of high) 0 2).floor
high_booked = ap (λ (x : Answer). x.floor) ((placing (floor_of high) 0 2).as_booked 0 6 high_lowest)

-- one canister at (3, 3) takes every place
unfoldable blocked : Made
blocked = put 1 3 3 0 (begun (small 3 1))

blocked_test : ((made blocked).0 ≡ true) × (refusal_by (made blocked).1 (anywhere 0 2) ≡ 40)
unfolding holds hold_by small blocked
blocked_test = (refl, refl)

blocked_none : (a b : ℕ) → ¬ (Free (view (floor_of blocked)) 0 a b)
unfolding outcome
blocked_none = ((placing (floor_of blocked) 0 2).no_place.0 (shows_refusal (floor_of blocked) (made blocked).1 (made_shows blocked blocked_test.0) (anywhere 0 2) ∙ blocked_test.1)).1

-- ---- demand 3: the first trial's canister booked without a place, and a refused one (33) between its five rounds; an accepted one would end the quiet list
first_test : empties (fresh 2 1 1) (anywhere 0 5 ∷ []) (round ∷ anywhere 0 5 ∷ rounds 4) 0 ≡ true
unfolding holds hold_by quiet_by_lem quiet_enough empties
first_test = refl

first_empty : members_of (view (floor_after (floor_after (floor_of (fresh 2 1 1)) (anywhere 0 5 ∷ [])) (round ∷ anywhere 0 5 ∷ rounds 4))) 0 ≡ []
first_empty = emptied (fresh 2 1 1) (anywhere 0 5 ∷ []) (round ∷ anywhere 0 5 ∷ rounds 4) 0 first_test

one_test : ((made one).0 ≡ true) × ((disturbs_by (made one).1 (anywhere 0 6) ≡ true) × (disturbs_by (made one).1 (anywhere 0 5) ≡ false))
unfolding holds hold_by one disturbs_by
one_test = (refl, (refl, refl))

one_ends : (disturbs (floor_of one) (anywhere 0 6) ≡ true) × (disturbs (floor_of one) (anywhere 0 5) ≡ false)
one_ends =
    let s = made_shows one one_test.0 in
    (call_disturbs (floor_of one) (made one).1 s (anywhere 0 6) ∙ one_test.1.0, call_disturbs (floor_of one) (made one).1 s (anywhere 0 5) ∙ one_test.1.1)

-- ---- [14]: two bookings, one of them without a place, on one tile; in the other order the first is accepted and the second is 33
both_test : ((made (fresh 2 1 1)).0 ≡ true) × ((refusal_by (made (fresh 2 1 1)).1 (anywhere 0 5) ≡ 0) × (refusal_by (value_by (made (fresh 2 1 1)).1 (anywhere 0 5)) (book 0 (can 7 40 0)) ≡ 0))
unfolding holds hold_by
both_test = (refl, (refl, refl))

both_booked : BothBooked (floor_of (fresh 2 1 1)) (anywhere 0 5) (book 0 (can 7 40 0))
both_booked =
    let f = floor_of (fresh 2 1 1) in
    let m = (made (fresh 2 1 1)).1 in
    let s = made_shows (fresh 2 1 1) both_test.0 in
    (shows_refusal f m s (anywhere 0 5) ∙ both_test.1.0, shows_refusal (outcome f (anywhere 0 5)).floor (value_by m (anywhere 0 5)) (shows_call f m s (anywhere 0 5) (omega arith)) (book 0 (can 7 40 0)) ∙ both_test.1.1)

other_order : ((outcome (floor_of (fresh 2 1 1)) (book 0 (can 7 40 0))).refusal ≡ 0) × ((outcome (outcome (floor_of (fresh 2 1 1)) (book 0 (can 7 40 0))).floor (anywhere 0 5)).refusal ≡ 33)
unfolding can
other_order = (commuting_calls (floor_of (fresh 2 1 1))).rising_answers 0 0 (anywhere 0 5) (book 0 (can 7 40 0)) (unplaced 5) (placed (can 7 40 0)) (omega arith) both_booked

-- ---- [11]: west waits while another tile is filled; [3]: arrows rest
abbrev meanwhile : List Call
meanwhile = anywhere 0 9 ∷ rounds 5

in_range_meanwhile : All InRange meanwhile
in_range_meanwhile = (omega arith, in_range_rounds 5)

west_test : waiting_by (made crowd).1 meanwhile 4 1 ≡ true
unfolding holds hold_by crowd wants waiting_by
west_test = refl

west_fair : Fair 1 (grants_in (floor_of crowd) meanwhile 4)
west_fair = (bounded_bypass (floor_of crowd) crowd_shows.well).fair meanwhile in_range_meanwhile 4 1 (waiting (floor_of crowd) (made crowd).1 crowd_shows meanwhile in_range_meanwhile 4 1 west_test)

abbrev busy : List Call
busy = anywhere 0 5 ∷ stop 3 ∷ rounds 2

in_range_busy : All InRange busy
in_range_busy = (omega arith, (in_range_stop 3, in_range_rounds 2))

busy_test : running_unchanged_by rest busy ≡ true
unfolding holds hold_by square running_unchanged_by
busy_test = refl

rested : (t : ℕ) → next_of (view (floor_after settled busy)) t ≡ next_of (view settled) t
rested =
    ((arrows (floor_of square) square_shows.well).1.rests (rounds 4) (in_range_rounds 4) (running_unchanged_rounds 4 (floor_of square)) (omega (arith, four_tiles))).stays busy in_range_busy
    (running_unchanged settled rest settled_shows busy in_range_busy busy_test)
