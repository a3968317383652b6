-- [14] on concrete floors: what `commuting_calls` says of calls that change places, of stop, repair, stop and of two bookings, refused calls and a malformed floor too. What is computed is computed on values.
use mathlib.Core.Path.{◌≡◌, refl, ap, ◌∙◌, subst}
use mathlib.Core.Logic.{◌≢◌}
use mathlib.Core.Bool.{true, false}
use mathlib.Core.List.{List, [], ◌∷◌, ◌++◌}
use Prim.Native.Nat.{◌^◌}
use native.Mathlib.Omega.{arith}
use Rattle.laws.specs.Every.{All}
use Rattle.floor.specs.declared.Booking.{Booking}
use Rattle.floor.specs.declared.Settings.{Settings}
use Rattle.floor.specs.declared.Floor.{Floor}
use Rattle.floor.specs.Settings.{is_hopper}
use Rattle.floor.specs.Model.{Model, runs_of_of}
use Rattle.floor.specs.Memory.{zero_floor, view}
use Rattle.floor.specs.Calls.{zero_report}
use Rattle.floor.specs.Bookings.{list_after}
use Rattle.floor.specs.Demand3.{Call, book, anywhere, stop, repair, round, list, InRange, outcome, floor_after}
use Rattle.floor.specs.CommutingCalls.{stops, repairs, placed, unplaced, running_changes, booking, listing, place_to, report_to, list_to, Reply, reply, EitherOrder, replies_in, Exchanged, BothBooked}
use Rattle.floor.proofs.Calling.{can, holds}
use Rattle.floor.proofs.ListSamples.{entry}
use Rattle.floor.proofs.CallsByValue.{Shows, refusal_by, place_by, value_by, shows_refusal, shows_place, shows_call}
use Rattle.floor.proofs.TablesByValue.{Made, begun, book as put, stop as halt, floor_of, made, made_shows, hold_by}
use Rattle.floor.proofs.CommutingCalls.{commuting_calls}

-- W 3, hopper 2; U 9, l 3, r 1, v 1: places 0 to 6, d 4
unfoldable pub narrow : Settings
narrow = record { columns = 3; rows = 1; hoppers = 4; sources = 3; width = 9; length = 3; gap = 1; travel = 1 }

-- 5 at (0, 0) on tile 0, and tile 1 stopped
unfoldable pair : Made
pair = halt 1 (put 5 0 0 0 (begun narrow))

abbrev f : Floor
f = floor_of pair

abbrev m : Model
m = (made pair).1

pair_test : ((made pair).0 ≡ true) × ((refusal_by m (stop 0) ≡ 0) × ((refusal_by m (repair 1) ≡ 0) × (refusal_by m (stop 1) ≡ 31)))
unfolding holds hold_by narrow pair
pair_test = (refl, (refl, (refl, refl)))

shown : Shows f m
shown = made_shows pair pair_test.0

-- ---- either order: a stop and a repair; the two answers are those of each call made first
stop_repair : EitherOrder f (stop 0) (repair 1)
stop_repair = (commuting_calls f).either (stop 0) (repair 1) (running_changes {t = 0} {u = 1} (omega arith) stops repairs)

stop_repair_floor : floor_after f (stop 0 ∷ repair 1 ∷ []) ≡ floor_after f (repair 1 ∷ stop 0 ∷ [])
stop_repair_floor = stop_repair.same_floor

stop_second : (outcome (outcome f (repair 1)).floor (stop 0)).refusal ≡ 0
stop_second = ap (λ (x : Reply). x.0) stop_repair.first_answer ∙ shows_refusal f m shown (stop 0) ∙ pair_test.1.0

repair_second : (outcome (outcome f (stop 0)).floor (repair 1)).refusal ≡ 0
repair_second = ap (λ (x : Reply). x.0) stop_repair.second_answer ∙ shows_refusal f m shown (repair 1) ∙ pair_test.1.1.0

-- a booking with a place, and a repair; another number for the same canister's place is 34 in either order
book_test : (refusal_by m (book 0 (can 6 4 0)) ≡ 0) × (refusal_by m (book 0 (can 6 0 0)) ≡ 34)
unfolding holds hold_by narrow pair
book_test = (refl, refl)

book_repair : EitherOrder f (book 0 (can 6 4 0)) (repair 1)
unfolding can
book_repair = (commuting_calls f).either (book 0 (can 6 4 0)) (repair 1) (booking {t = 0} {u = 1} (omega arith) (placed (can 6 4 0)) (omega arith) repairs)

book_repair_floor : floor_after f (book 0 (can 6 4 0) ∷ repair 1 ∷ []) ≡ floor_after f (repair 1 ∷ book 0 (can 6 4 0) ∷ [])
book_repair_floor = book_repair.same_floor

book_second : (outcome (outcome f (repair 1)).floor (book 0 (can 6 4 0))).refusal ≡ 0
book_second = ap (λ (x : Reply). x.0) book_repair.first_answer ∙ shows_refusal f m shown (book 0 (can 6 4 0)) ∙ book_test.0

book_first : (outcome (outcome f (book 0 (can 6 4 0))).floor (repair 1)).refusal ≡ 0
book_first = ap (λ (x : Reply). x.0) book_repair.second_answer ∙ shows_refusal f m shown (repair 1) ∙ pair_test.1.1.0

near_second : (outcome (outcome f (repair 1)).floor (book 0 (can 6 0 0))).refusal ≡ 34
unfolding can
near_second =
    ap (λ (x : Reply). x.0) ((commuting_calls f).either (book 0 (can 6 0 0)) (repair 1) (booking {t = 0} {u = 1} (omega arith) (placed (can 6 0 0)) (omega arith) repairs)).first_answer
    ∙ shows_refusal f m shown (book 0 (can 6 0 0)) ∙ book_test.1

-- a booking without a place, and a stop that is refused (31): the place told is (4, 0) in either order, and no report
place_test_lem : place_by m (anywhere 0 6) ≡ (4, 0)
unfolding holds hold_by narrow pair
place_test_lem = refl

anywhere_stop : EitherOrder f (anywhere 0 6) (stop 1)
anywhere_stop = (commuting_calls f).either (anywhere 0 6) (stop 1) (booking {t = 0} {u = 1} (omega arith) (unplaced 6) (omega arith) stops)

anywhere_stop_floor : floor_after f (anywhere 0 6 ∷ stop 1 ∷ []) ≡ floor_after f (stop 1 ∷ anywhere 0 6 ∷ [])
anywhere_stop_floor = anywhere_stop.same_floor

anywhere_place : place_to (outcome f (stop 1)).floor (anywhere 0 6) ≡ (4, 0)
anywhere_place = ap (λ (x : Reply). x.1) anywhere_stop.first_answer ∙ shows_place f m shown (anywhere 0 6) ∙ place_test_lem

anywhere_report : report_to (outcome f (stop 1)).floor (anywhere 0 6) ≡ zero_report
unfolding report_to
anywhere_report = ap (λ (x : Reply). x.2) anywhere_stop.first_answer

stop_refused : (outcome (outcome f (anywhere 0 6)).floor (stop 1)).refusal ≡ 31
stop_refused = ap (λ (x : Reply). x.0) anywhere_stop.second_answer ∙ shows_refusal f m shown (stop 1) ∙ pair_test.1.1.1

-- on the all-zero floor, which is malformed, each is 30 in either order
zero_test : ((outcome zero_floor (stop 0)).refusal ≡ 30) × ((outcome zero_floor (repair 1)).refusal ≡ 30)
unfolding holds outcome
zero_test = (refl, refl)

zero_either : EitherOrder zero_floor (stop 0) (repair 1)
zero_either = (commuting_calls zero_floor).either (stop 0) (repair 1) (running_changes {t = 0} {u = 1} (omega arith) stops repairs)

zero_floor_lem : floor_after zero_floor (stop 0 ∷ repair 1 ∷ []) ≡ floor_after zero_floor (repair 1 ∷ stop 0 ∷ [])
zero_floor_lem = zero_either.same_floor

zero_first : (outcome (outcome zero_floor (repair 1)).floor (stop 0)).refusal ≡ 30
zero_first = ap (λ (x : Reply). x.0) zero_either.first_answer ∙ zero_test.0

zero_second : (outcome (outcome zero_floor (stop 0)).floor (repair 1)).refusal ≡ 30
zero_second = ap (λ (x : Reply). x.0) zero_either.second_answer ∙ zero_test.1

-- ---- in a list: a round and a refused stop (4) before the two calls, a round and a booking after them
abbrev before : List Call
before = round ∷ stop 7 ∷ []

abbrev after : List Call
after = round ∷ anywhere 0 7 ∷ []

abbrev between : Floor
between = floor_after f before

exchanged : Exchanged f before (anywhere 0 6) (repair 1) after
exchanged = (commuting_calls f).in_lists before (anywhere 0 6) (repair 1) after (booking {t = 0} {u = 1} (omega arith) (unplaced 6) (omega arith) repairs)

list_here : exchanged.here ≡ between
list_here = exchanged.is_here

list_floor : floor_after f (round ∷ stop 7 ∷ anywhere 0 6 ∷ repair 1 ∷ round ∷ anywhere 0 7 ∷ []) ≡ floor_after f (round ∷ stop 7 ∷ repair 1 ∷ anywhere 0 6 ∷ round ∷ anywhere 0 7 ∷ [])
list_floor = exchanged.same_floor

list_answers : replies_in f (round ∷ stop 7 ∷ anywhere 0 6 ∷ repair 1 ∷ round ∷ anywhere 0 7 ∷ [])
    ≡ replies_in f before ++ (reply between (anywhere 0 6) ∷ reply between (repair 1) ∷ replies_in (floor_after between (anywhere 0 6 ∷ repair 1 ∷ [])) after)
list_answers =
    subst (λ (g : Floor). replies_in f (before ++ (anywhere 0 6 ∷ repair 1 ∷ after)) ≡ replies_in f before ++ (reply g (anywhere 0 6) ∷ reply g (repair 1) ∷ replies_in (floor_after g (anywhere 0 6 ∷ repair 1 ∷ [])) after))
    exchanged.is_here exchanged.answers

list_exchanged : replies_in f (round ∷ stop 7 ∷ repair 1 ∷ anywhere 0 6 ∷ round ∷ anywhere 0 7 ∷ [])
    ≡ replies_in f before ++ (reply between (repair 1) ∷ reply between (anywhere 0 6) ∷ replies_in (floor_after between (anywhere 0 6 ∷ repair 1 ∷ [])) after)
list_exchanged =
    subst (λ (g : Floor). replies_in f (before ++ (repair 1 ∷ anywhere 0 6 ∷ after)) ≡ replies_in f before ++ (reply g (repair 1) ∷ reply g (anywhere 0 6) ∷ replies_in (floor_after g (anywhere 0 6 ∷ repair 1 ∷ [])) after))
    exchanged.is_here exchanged.exchanged

-- ---- stop, repair, stop: on a tile that runs, on a stopped one, on the hopper, where no tile is, on a malformed floor
again_running : floor_after f (stop 0 ∷ repair 0 ∷ stop 0 ∷ []) ≡ floor_after f (stop 0 ∷ [])
again_running = (commuting_calls f).again 0

again_stopped : floor_after f (stop 1 ∷ repair 1 ∷ stop 1 ∷ []) ≡ floor_after f (stop 1 ∷ [])
again_stopped = (commuting_calls f).again 1

again_hopper : floor_after f (stop 2 ∷ repair 2 ∷ stop 2 ∷ []) ≡ floor_after f (stop 2 ∷ [])
again_hopper = (commuting_calls f).again 2

again_nowhere : floor_after f (stop 7 ∷ repair 7 ∷ stop 7 ∷ []) ≡ floor_after f (stop 7 ∷ [])
again_nowhere = (commuting_calls f).again 7

again_zero : floor_after zero_floor (stop 1 ∷ repair 1 ∷ stop 1 ∷ []) ≡ floor_after zero_floor (stop 1 ∷ [])
again_zero = (commuting_calls zero_floor).again 1

-- all three accepted: tile 1, which runs
unfoldable ready : Made
ready = put 5 0 0 0 (begun narrow)

abbrev o : Model
o = (made ready).1

ready_test : ((made ready).0 ≡ true) × ((runs_of_of o 1 ≡ true) × (is_hopper o.settings 1 ≡ false))
unfolding holds hold_by narrow ready
ready_test = (refl, (refl, refl))

ready_shows : Shows (floor_of ready) o
ready_shows = made_shows ready ready_test.0

again_accepted : ((outcome (floor_of ready) (stop 1)).refusal ≡ 0) × ((outcome (floor_after (floor_of ready) (stop 1 ∷ [])) (repair 1)).refusal ≡ 0) × ((outcome (floor_after (floor_of ready) (stop 1 ∷ repair 1 ∷ [])) (stop 1)).refusal ≡ 0)
unfolding view
again_accepted =
    let a = (commuting_calls (floor_of ready)).again_accepted 1 ready_shows.well (ap (λ (x : Model). runs_of_of x 1) ready_shows.value ∙ ready_test.1.0) (ap (λ (x : Model). is_hopper x.settings 1) ready_shows.value ∙ ready_test.1.1) in
    (a.0, a.1, a.2)

-- ---- two bookings: both on tile 0, both of its sorts; on tiles 0 and 1; the later number wider than 32 bits
both : (c e : Call) → InRange c → refusal_by o c ≡ 0 → refusal_by (value_by o c) e ≡ 0 → BothBooked (floor_of ready) c e
both c e h p q = (shows_refusal (floor_of ready) o ready_shows c ∙ p, shows_refusal (outcome (floor_of ready) c).floor (value_by o c) (shows_call (floor_of ready) o ready_shows c h) e ∙ q)

one_tile_lem : ¬ (BothBooked (floor_of ready) (anywhere 0 7) (book 0 (can 6 4 0)))
unfolding holds hold_by narrow ready
one_tile_lem = (commuting_calls (floor_of ready)).rising 0 0 (book 0 (can 6 4 0)) (anywhere 0 7) (placed (can 6 4 0)) (unplaced 7) (both (book 0 (can 6 4 0)) (anywhere 0 7) (omega arith) refl refl)

two_tiles : ¬ (BothBooked (floor_of ready) (book 1 (can 7 0 0)) (book 0 (can 6 4 0)))
unfolding holds hold_by narrow ready
two_tiles = (commuting_calls (floor_of ready)).rising 0 1 (book 0 (can 6 4 0)) (book 1 (can 7 0 0)) (placed (can 6 4 0)) (placed (can 7 0 0)) (both (book 0 (can 6 4 0)) (book 1 (can 7 0 0)) (omega arith) refl refl)

too_wide : ¬ (BothBooked (floor_of ready) (book 1 (can (2 ^ 32) 4 0)) (anywhere 1 6))
unfolding holds hold_by narrow ready
too_wide = (commuting_calls (floor_of ready)).rising 1 1 (anywhere 1 6) (book 1 (can (2 ^ 32) 4 0)) (unplaced 6) (placed (can (2 ^ 32) 4 0)) (both (anywhere 1 6) (book 1 (can (2 ^ 32) 4 0)) (omega arith) refl refl)

-- in the other order the first is accepted and the second is 33
two_answers : ((outcome (floor_of ready) (anywhere 1 7)).refusal ≡ 0) × ((outcome (outcome (floor_of ready) (anywhere 1 7)).floor (book 0 (can 6 4 0))).refusal ≡ 33)
unfolding holds hold_by narrow ready
two_answers = let a = (commuting_calls (floor_of ready)).rising_answers 0 1 (book 0 (can 6 4 0)) (anywhere 1 7) (placed (can 6 4 0)) (unplaced 7) (omega arith) (both (book 0 (can 6 4 0)) (anywhere 1 7) (omega arith) refl refl) in (a.0, a.1)

-- ---- a list of bookings on tile 0, its second entry refused, and a repair of tile 1: the floor and every answer, those of the entries too, are the same
unfoldable sent : List Booking
sent = entry 0 6 4 0 ∷ entry 0 7 0 0 ∷ []

sent_elsewhere : All (λ b. b.tile ≢ 1) sent
unfolding sent entry
sent_elsewhere = (omega arith, (omega arith, tt))

sent_in_range : InRange (list sent)
unfolding sent entry can
sent_in_range = (omega arith, (omega arith, tt))

list_repair : EitherOrder f (list sent) (repair 1)
list_repair = (commuting_calls f).either (list sent) (repair 1) (listing sent_elsewhere sent_in_range repairs)

list_repair_floor : floor_after f (list sent ∷ repair 1 ∷ []) ≡ floor_after f (repair 1 ∷ list sent ∷ [])
list_repair_floor = list_repair.same_floor

list_entries : list_after (outcome f (repair 1)).floor sent ≡ list_after f sent
unfolding list_to
list_entries = ap (λ (x : Reply). x.3) list_repair.first_answer

repair_after_list : (outcome (outcome f (list sent)).floor (repair 1)).refusal ≡ 0
repair_after_list = ap (λ (x : Reply). x.0) list_repair.second_answer ∙ shows_refusal f m shown (repair 1) ∙ pair_test.1.1.0
