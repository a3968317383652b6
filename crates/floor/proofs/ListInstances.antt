-- [4] in demand 3, [11], [3] and [14]: lists in which list calls stand anywhere, refused ones among them; what the theorems say of them, read off.
use mathlib.Core.Path.{◌≡◌, refl, sym, ap, ◌∙◌, subst, fun_ext}
use mathlib.Core.Bool.{true, false, ◌&&◌, true≢false}
use mathlib.Core.List.{List, [], ◌∷◌, ◌++◌, Permᴰ, map}
use Prim.Native.Nat.{ℕ, ◌+◌, ◌-◌, ◌^◌}
use native.Mathlib.Omega.{arith}
use lib.ListN.{length}
use Rattle.laws.specs.Define.{all_of}
use Rattle.laws.specs.Every.{All}
use Rattle.floor.specs.declared.Booking.{Booking}
use Rattle.floor.specs.declared.Floor.{Floor}
use Rattle.floor.specs.Model.{Model, next_of, members_of, numbers_on, runs_of_of}
use Rattle.floor.specs.Memory.{view}
use Rattle.floor.specs.Live.{LivePath, connected}
use Rattle.floor.specs.Bookings.{answered}
use Rattle.floor.specs.Demand3.{Call, stop, repair, round, list, InRange, floor_after, booked_in, reported_all, runs_after_of, disturbs, Quiet, Promises}
use Rattle.floor.specs.CommutingCalls.{stops, running_changes, list_to, replies_in}
use Rattle.floor.specs.BoundedBypass.{wants, Waiting, grants_in, Fair}
use Rattle.floor.specs.Arrows.{RunningUnchanged}
use Rattle.floor.proofs.Calling.{can, holds}
use Rattle.floor.proofs.CallsByValue.{Shows, list_by, shows_list_after}
use Rattle.floor.proofs.ListsByValue.{is_in_range, all_in_range, value_after_of, booked_by, disturbs_by, quiet_by_lem, running_unchanged_by, waiting_by, call_disturbs, shows_list, booked_same, runs_same, quiet, running_unchanged, waiting}
use Rattle.floor.proofs.TablesByValue.{Made, begun, fresh, book as put, floor_of, made, made_shows, list_shows, list_in_range, answers, booked, reported_in, runs_after_of as ranAfter, Rows, hold, hold_by, by_values}
use Rattle.floor.proofs.Theorem.{demand3}
use Rattle.floor.proofs.CommutingCalls.{commuting_calls}
use Rattle.floor.proofs.BoundedBypass.{bounded_bypass}
use Rattle.floor.proofs.Arrows.{arrows}
use Rattle.floor.proofs.AnywhereSamples.{small}
use Rattle.floor.proofs.ListSamples.{entry, elsewhere}
use Rattle.floor.proofs.Instances.{quiet_enough, empties, emptied, rounds, square, square_shows, four_tiles, in_range_rounds, running_unchanged_rounds, settled, rest, settled_shows}

-- ---- demand 3: W 2, hopper 1, U 9, l 8, v 1: places 0 and 1, so M is 2 and the bound 3 for one canister
unfoldable first : Made
first = begun (small 8 0)

-- 5 is booked, 6 is too near it; the tile stops; 65 entries; it is repaired; an empty list
unfoldable before : List Call
before = list (entry 0 5 0 0 ∷ entry 0 6 1 0 ∷ []) ∷ stop 0 ∷ list (elsewhere 65) ∷ repair 0 ∷ list [] ∷ []

-- between the rounds a list whose entries are all refused, the last with the greatest number, and one of 65 entries
unfoldable further : List Call
further = round ∷ list (entry 0 5 0 0 ∷ entry 1 (2 ^ 32 - 1) 0 0 ∷ []) ∷ round ∷ list (elsewhere 65) ∷ round ∷ []

-- 65 entries that say accepted before the call; one of two entries is accepted
unfoldable claimed : List Booking
claimed = record { tile = 0; canister = can 9 0 0; answer = 0 } ∷ elsewhere 64

unfoldable half : List Booking
half = entry 0 5 0 0 ∷ entry 0 6 1 0 ∷ []

unfoldable history : Rows
history =
    (answers (before ++ further) first, 0 ∷ 0 ∷ 42 ∷ 0 ∷ 0 ∷ 0 ∷ 0 ∷ 0 ∷ 42 ∷ 0 ∷ [])
    ∷ (booked before first, 5 ∷ [])
    ∷ (reported_in 0 (before ++ further) first, 5 ∷ [])
    ∷ (ranAfter (0 ∷ 1 ∷ []) before first, 1 ∷ 1 ∷ [])
    -- after the further list, on the empty floor, 7 is booked and 8 is too near it
    ∷ (booked (before ++ further ++ (list (entry 0 7 1 0 ∷ entry 0 8 1 1 ∷ []) ∷ [])) first, 5 ∷ 7 ∷ [])
    ∷ (booked (list claimed ∷ list half ∷ []) first, 5 ∷ [])
    ∷ []

history_test : hold_by history ≡ true
unfolding holds hold_by small first can entry elsewhere before further claimed half history
history_test = refl

histories : hold history ≡ true
histories = by_values history history_test

further_test : empties first before further 0 ≡ true
unfolding holds hold_by small first can entry elsewhere before further quiet_by_lem quiet_enough empties
further_test = refl

further_empty : members_of (view (floor_after (floor_after (floor_of first) before) further)) 0 ≡ []
further_empty = emptied first before further 0 further_test

-- the premises apart
before_made : ((made first).0 && all_of is_in_range before) ≡ true
unfolding holds hold_by small first can entry elsewhere before
before_made = refl

in_range_further : all_of is_in_range further ≡ true
unfolding holds hold_by can entry elsewhere further
in_range_further = refl

before_test : (booked_by (made first).1 before ≡ 5 ∷ []) × ((quiet_by_lem (value_after_of (made first).1 before) further ≡ true)
    × ((runs_of_of (value_after_of (made first).1 before) 1 ≡ true) × ((numbers_on (made first).1 ≡ []) × ((made first).1.counters.booked ≡ 0))))
unfolding holds hold_by small first can entry elsewhere before further quiet_by_lem
before_test = (refl, (refl, (refl, (refl, refl))))

first_shows : Shows (floor_of first) (made first).1
first_shows = list_shows first before before_made

in_range_before : All InRange before
in_range_before = list_in_range first before before_made

P : Promises (floor_of first) before
P = demand3 (floor_of first) first_shows.well before in_range_before

before_shows : Shows (floor_after (floor_of first) before) (value_after_of (made first).1 before)
before_shows = shows_list (floor_of first) (made first).1 first_shows before in_range_before

before_booked : booked_in (floor_of first) before ≡ 5 ∷ []
before_booked = booked_same (floor_of first) (made first).1 first_shows before in_range_before ∙ before_test.0

-- 5 alone was booked, and is counted
five_counted : (floor_after (floor_of first) before).counters.booked ≡ 1
unfolding view
five_counted =
    let none : (floor_of first).counters.booked ≡ 0 = ap (λ (m : Model). m.counters.booked) first_shows.value ∙ before_test.1.1.1.1 in
    ap (λ (g : Floor). g.counters.booked) (sym P.is_now) ∙ P.booked ∙ (λ i. none i + length (before_booked i))

-- after both lists it was reported: with what stands on the floor that is all
all_made : ((made first).0 && all_of is_in_range (before ++ further)) ≡ true
unfolding holds hold_by small first can entry elsewhere before further
all_made = refl

all_booked : booked_by (made first).1 (before ++ further) ≡ 5 ∷ []
unfolding holds hold_by small first can entry elsewhere before further
all_booked = refl

five_kept : Permᴰ (5 ∷ []) (numbers_on (view (floor_after (floor_of first) (before ++ further))) ++ reported_all (floor_of first) (before ++ further))
five_kept =
    let f = floor_of first in
    let in_range = list_in_range first (before ++ further) all_made in
    let R = demand3 f first_shows.well (before ++ further) in_range in
    let none : numbers_on (view f) ≡ [] = ap numbers_on first_shows.value ∙ before_test.1.1.1.0 in
    let five : booked_in f (before ++ further) ≡ 5 ∷ [] = booked_same f (made first).1 first_shows (before ++ further) in_range ∙ all_booked in
    subst (λ (g : Floor). Permᴰ (5 ∷ []) (numbers_on (view g) ++ reported_all f (before ++ further))) R.is_now
    (subst (λ (l : List ℕ). Permᴰ l (numbers_on (view R.now) ++ reported_all f (before ++ further))) (λ i. none i ++ five i) R.kept)

further_quiet : Quiet P.now further
further_quiet =
    subst (λ (g : Floor). Quiet g further) (sym P.is_now)
    (quiet (floor_after (floor_of first) before) (value_after_of (made first).1 before) before_shows further (all_in_range further in_range_further) before_test.1.0)

-- the hopper runs after it too
further_runs : runs_after_of (floor_of first) (before ++ further) 1 ≡ true
further_runs = P.runs_same further further_quiet 1 ∙ runs_same (floor_of first) (made first).1 first_shows before in_range_before 1 ∙ before_test.1.1.0

-- a list call with one accepted entry is an accepted booking; 65 entries aren't, whatever is written in them
half_test : ((made first).0 ≡ true) × ((disturbs_by (made first).1 (list half) ≡ true) × (disturbs_by (made first).1 (list claimed) ≡ false))
unfolding holds hold_by small first can entry elsewhere half claimed disturbs_by
half_test = (refl, (refl, refl))

half_disturbs : disturbs (floor_of first) (list half) ≡ true
half_disturbs = call_disturbs (floor_of first) (made first).1 first_shows (list half) ∙ half_test.1.0

half_not_quiet : ¬ (Quiet (floor_of first) (list half ∷ []))
half_not_quiet q = true≢false (sym half_disturbs ∙ q.0)

claimed_quiet : Quiet (floor_of first) (list claimed ∷ [])
claimed_quiet = (call_disturbs (floor_of first) (made first).1 first_shows (list claimed) ∙ half_test.1.1, tt)

-- ---- live paths after a further list: W 3, hopper 0, tile 1 stopped, so that tile 2 has none, before and after; the hopper has one
unfoldable row : Made
row = fresh 3 1 0

unfoldable later : List Call
later = round ∷ list (entry 1 5 0 0 ∷ entry 2 0 0 0 ∷ []) ∷ stop 1 ∷ round ∷ []

row_made : ((made row).0 && all_of is_in_range (stop 1 ∷ [])) ≡ true
unfolding holds hold_by row
row_made = refl

abbrev cut : Model
cut = value_after_of (made row).1 (stop 1 ∷ [])

row_test : (all_of is_in_range later ≡ true) × ((quiet_by_lem cut later ≡ true) × ((connected (made row).1.settings (runs_of_of cut) 0 ≡ true) × (connected (made row).1.settings (runs_of_of cut) 2 ≡ false)))
unfolding holds hold_by row can entry later quiet_by_lem
row_test = (refl, (refl, (refl, refl)))

row_shows : Shows (floor_of row) (made row).1
row_shows = list_shows row (stop 1 ∷ []) row_made

Q : Promises (floor_of row) (stop 1 ∷ [])
Q = demand3 (floor_of row) row_shows.well (stop 1 ∷ []) (tt, tt)

cut_shows : Shows (floor_after (floor_of row) (stop 1 ∷ [])) cut
cut_shows = shows_list (floor_of row) (made row).1 row_shows (stop 1 ∷ []) (tt, tt)

later_quiet : Quiet Q.now later
later_quiet = subst (λ (g : Floor). Quiet g later) (sym Q.is_now) (quiet (floor_after (floor_of row) (stop 1 ∷ [])) cut cut_shows later (all_in_range later row_test.0) row_test.1.0)

cut_connected : (t : ℕ) → connected (floor_of row).settings (runs_after_of (floor_of row) (stop 1 ∷ [])) t ≡ connected (made row).1.settings (runs_of_of cut) t
unfolding view
cut_connected t = let r = fun_ext (runs_same (floor_of row) (made row).1 row_shows (stop 1 ∷ []) (tt, tt)) in (λ i. connected (row_shows.value i).settings (r i) t)

hopper_live : LivePath (floor_of row).settings (runs_after_of (floor_of row) (stop 1 ∷ later)) 0
hopper_live = (Q.live_same later later_quiet 0).1 ((Q.counts_live 0).1 (cut_connected 0 ∙ row_test.1.1.0))

never_live : ¬ (LivePath (floor_of row).settings (runs_after_of (floor_of row) (stop 1 ∷ later)) 2)
never_live p = true≢false (sym ((Q.counts_live 2).0 ((Q.live_same later later_quiet 2).0 p)) ∙ cut_connected 2 ∙ row_test.1.1.1)

-- ---- [11]: 3 × 3, hopper in the middle, canisters on three sides. A list call brings west's, and west wants from then on
unfoldable three : Made
three = put 8 0 0 7 (put 7 0 0 5 (put 6 0 0 3 (fresh 3 3 4)))

unfoldable brought : List Call
brought = list (entry 1 9 0 0 ∷ entry 1 9 70 0 ∷ []) ∷ rounds 5

three_test : ((made three).0 ≡ true) × ((all_of is_in_range brought ≡ true) × ((wants (made three).1 4 1 ≡ false) × (waiting_by (made three).1 brought 4 1 ≡ true)))
unfolding holds hold_by three can entry brought wants waiting_by
three_test = (refl, (refl, (refl, refl)))

three_shows : Shows (floor_of three) (made three).1
three_shows = made_shows three three_test.0

in_range_brought : All InRange brought
in_range_brought = all_in_range brought three_test.1.0

not_yet : wants (view (floor_of three)) 4 1 ≡ false
not_yet = ap (λ (m : Model). wants m 4 1) three_shows.value ∙ three_test.1.1.0

brought_waits : Waiting (floor_of three) brought 4 1
brought_waits = waiting (floor_of three) (made three).1 three_shows brought in_range_brought 4 1 three_test.1.1.1

brought_fair : Fair 1 (grants_in (floor_of three) brought 4)
brought_fair = (bounded_bypass (floor_of three) three_shows.well).fair brought in_range_brought 4 1 brought_waits

-- ---- [3]: arrows rest through list calls, one with an accepted entry and one of 65
unfoldable busy : List Call
busy = list (entry 0 5 0 0 ∷ entry 0 6 39 39 ∷ []) ∷ round ∷ list (elsewhere 65) ∷ round ∷ []

busy_test : (all_of is_in_range busy ≡ true) × (running_unchanged_by rest busy ≡ true)
unfolding holds hold_by square can entry elsewhere busy running_unchanged_by
busy_test = (refl, refl)

in_range_busy : All InRange busy
in_range_busy = all_in_range busy busy_test.0

busy_running_unchanged : RunningUnchanged settled busy
busy_running_unchanged = running_unchanged settled rest settled_shows busy in_range_busy busy_test.1

busy_rested : (t : ℕ) → next_of (view (floor_after settled busy)) t ≡ next_of (view settled) t
busy_rested = ((arrows (floor_of square) square_shows.well).1.rests (rounds 4) (in_range_rounds 4) (running_unchanged_rounds 4 (floor_of square)) (omega (arith, four_tiles))).stays busy in_range_busy busy_running_unchanged

-- ---- [14]: two stops change places before a list call: its entries come back with the same answers
unfoldable asked : List Booking
asked = entry 2 5 0 0 ∷ entry 1 6 0 0 ∷ []

asked_test : (all_of is_in_range (stop 1 ∷ stop 2 ∷ list asked ∷ []) ≡ true) × (list_by (value_after_of (made row).1 (stop 1 ∷ stop 2 ∷ [])) (list asked) ≡ answered (entry 2 5 0 0) 31 ∷ answered (entry 1 6 0 0) 31 ∷ [])
unfolding holds hold_by row can entry asked
asked_test = (refl, refl)

none_before : (f : Floor) → floor_after f [] ≡ f
unfolding floor_after
none_before f = refl

asked_reply : map (λ x. x.3) (replies_in (floor_of row) (stop 2 ∷ stop 1 ∷ list asked ∷ [])) ≡ [] ∷ [] ∷ (answered (entry 2 5 0 0) 31 ∷ answered (entry 1 6 0 0) 31 ∷ []) ∷ []
unfolding replies_in list_to
asked_reply =
    let f = floor_of row in
    let two = stop 1 ∷ stop 2 ∷ [] in
    let in_range = all_in_range (stop 1 ∷ stop 2 ∷ list asked ∷ []) asked_test.0 in
    let X = (commuting_calls f).in_lists [] (stop 1) (stop 2) (list asked ∷ []) (running_changes (omega arith) stops stops) in
    let last : list_to (floor_after f two) (list asked) ≡ answered (entry 2 5 0 0) 31 ∷ answered (entry 1 6 0 0) 31 ∷ [] =
    shows_list_after (floor_after f two) (value_after_of (made row).1 two) (shows_list f (made row).1 row_shows two (tt, (tt, tt))) (list asked) in_range.1.1.0 ∙ asked_test.1 in
    ap (map (λ x. x.3)) X.exchanged ∙ ap (λ (g : Floor). [] ∷ [] ∷ list_to (floor_after g two) (list asked) ∷ []) (X.is_here ∙ none_before f) ∙ ap (λ (k : List Booking). [] ∷ [] ∷ k ∷ []) last
