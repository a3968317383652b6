-- Demand 3 on concrete lists: its premises are met there, and what it promises of them is read off. Then what the words of later statements mean on such lists. What is computed is computed on values (Made, Walked).
use mathlib.Core.Path.{◌≡◌, refl, sym, ap, ◌∙◌, subst, fun_ext}
use mathlib.Core.Logic.{◌≢◌}
use mathlib.Core.Bool.{Bool, true, false, cond, ◌&&◌}
use mathlib.Core.List.{List, [], ◌∷◌, ◌++◌, Memᴰ}
use Prim.Native.Nat.{ℕ, zero, suc, ◌-◌, ◌^◌, ◌≤◌, ◌<◌}
use native.Mathlib.Omega.{arith}
use lib.Dec.{leb, eqb}
use lib.ListN.{length, take, replicate}
use borrow.Author.Tests.{leb-true, eqb-false}
use Rattle.laws.specs.Define.{all_of}
use Rattle.laws.specs.Every.{All}
use Rattle.laws.proofs.Tests.{and_left, and_right}
use Rattle.floor.specs.declared.Canister.{Canister}
use Rattle.floor.specs.declared.Settings.{Settings}
use Rattle.floor.specs.declared.Floor.{Floor}
use Rattle.floor.specs.Sides.{sides}
use Rattle.floor.specs.Settings.{total, is_hopper}
use Rattle.floor.specs.Model.{Model, distance_of, next_of, members_of, runs_of_of}
use Rattle.floor.specs.Memory.{view}
use Rattle.floor.specs.Well.{well_formed}
use Rattle.floor.specs.Signal.{missing}
use Rattle.floor.specs.Bound.{bound}
use Rattle.floor.specs.Live.{connected, connected_count}
use Rattle.floor.specs.Reports.{listed_at}
use Rattle.floor.specs.Demand3.{Call, book, anywhere, stop, repair, round, InRange, outcome, floor_after, runs_after_of, changes_running, Quiet, rounds_in}
use Rattle.floor.specs.CommutingCalls.{stops, repairs, placed, unplaced, Exchangeable, running_changes, booking, BothBooked}
use Rattle.floor.specs.BoundedBypass.{wants, Waiting, granted, grants_in, Fair, grant_count, turn_of}
use Rattle.floor.specs.Arrows.{beyond, FacesNearest, Chooses, RunningUnchanged, Steady, Resting}
use Rattle.floor.proofs.Calling.{settings, can, holds}
use Rattle.floor.proofs.CallsByValue.{Shows, refusal_by, value_by, shows_refusal, shows_call}
use Rattle.floor.proofs.ListsByValue.{is_in_range, all_in_range, value_after_of, grants_by_lem, quiet_by_lem, running_unchanged_by, waiting_by, shows_list, grants_same, runs_same, quiet, running_unchanged, waiting}
use Rattle.floor.proofs.TablesByValue.{Made, begun, fresh, book as put, stop as halt, repair as mend, rounds as run, floor_of, made, made_shows, list_shows, list_in_range, counted, answers, booked, reported_in, replies, grants, runs_after_of as ranAfter, given, Rows, hold, hold_by, by_values}
use Rattle.floor.proofs.Rows.{view_settings}
use Rattle.floor.proofs.Lists.{list_keeps}
use Rattle.floor.proofs.Theorem.{demand3}
use Rattle.floor.proofs.BoundedBypass.{bounded_bypass}
use Rattle.floor.proofs.Arrows.{arrows}
use Rattle.floor.proofs.Grid.{each_side, side_pos}

-- ---- the premises as tests, and what follows from them by the theorem alone
-- the list cs on f, then the quiet list ds with rounds enough: tile t, which has a live path, is empty
emptied_from : (f : Floor) → well_formed f ≡ true → (cs ds : List Call) → All InRange cs → All InRange ds → Quiet (floor_after f cs) ds
    → bound f.settings (connected_count (view (floor_after f cs)) (runs_after_of f cs)) ≤ rounds_in ds
    → (t : ℕ) → connected f.settings (runs_after_of f cs) t ≡ true → members_of (view (floor_after (floor_after f cs) ds)) t ≡ []
emptied_from f w cs ds in_range later q enough t live =
    let P = demand3 f w cs in_range in
    let K : Floor → ℕ = λ g. bound f.settings (connected_count (view g) (runs_after_of f cs)) in
    let done : (g : Floor) → g ≡ P.now → Quiet g ds → K g ≤ rounds_in ds → members_of (view (floor_after g ds)) t ≡ [] =
    λ g e. subst (λ (x : Floor). Quiet x ds → K x ≤ rounds_in ds → members_of (view (floor_after x ds)) t ≡ []) (sym e) (λ q' b. P.emptied ds later q' b t ((P.counts_live t).1 live)) in
    done (floor_after f cs) (sym P.is_now) q enough

-- the tests, n being the value after cs
unfoldable pub quiet_enough : Model → List Call → ℕ → Bool
quiet_enough n ds t = quiet_by_lem n ds && (leb (bound n.settings (connected_count n (runs_of_of n))) (rounds_in ds) && connected n.settings (runs_of_of n) t)

unfoldable pub empties : Made → List Call → List Call → ℕ → Bool
empties e cs ds t = ((made e).0 && all_of is_in_range cs) && (all_of is_in_range ds && quiet_enough (value_after_of (made e).1 cs) ds t)

pub emptied : (e : Made) (cs ds : List Call) (t : ℕ) → empties e cs ds t ≡ true → members_of (view (floor_after (floor_after (floor_of e) cs) ds)) t ≡ []
unfolding empties quiet_enough
emptied e cs ds t h =
    let first = (made e).0 && all_of is_in_range cs in
    let rest = and_right first _ h in
    go (list_shows e cs (and_left first _ h)) (list_in_range e cs (and_left first _ h)) (all_in_range ds (and_left (all_of is_in_range ds) _ rest)) (and_right (all_of is_in_range ds) _ rest)
  where
    f : Floor
    f = floor_of e

    n : Model
    n = value_after_of (made e).1 cs

    go : Shows f (made e).1 → All InRange cs → All InRange ds → quiet_enough n ds t ≡ true → members_of (view (floor_after (floor_after f cs) ds)) t ≡ []
    go E in_range later k =
        let N = shows_list f (made e).1 E cs in_range in
        let same : n.settings ≡ f.settings = ap (λ (x : Model). x.settings) (sym N.value) ∙ (list_keeps f E.well cs in_range).1.same_settings ∙ view_settings f in
        let runs : runs_of_of n ≡ runs_after_of f cs = fun_ext (λ u. sym (runs_same f (made e).1 E cs in_range u)) in
        let carry : (P : Settings → Model → (ℕ → Bool) → Type 0) → P n.settings n (runs_of_of n) → P f.settings (view (floor_after f cs)) (runs_after_of f cs) =
        λ P p. subst (λ (r : ℕ → Bool). P f.settings (view (floor_after f cs)) r) runs
        (subst (λ (x : Model). P f.settings x (runs_of_of n)) (sym N.value) (subst (λ (s : Settings). P s n (runs_of_of n)) same p)) in
        let k' = and_right (quiet_by_lem n ds) _ k in
        let enough = leb (bound n.settings (connected_count n (runs_of_of n))) (rounds_in ds) in
        emptied_from f E.well cs ds in_range later (quiet (floor_after f cs) n N ds later (and_left (quiet_by_lem n ds) _ k))
        (carry (λ s x r. bound s (connected_count x r) ≤ rounds_in ds) (leb-true _ (rounds_in ds) (and_left enough _ k'))) t (carry (λ s x r. connected s r t ≡ true) (and_right enough _ k'))

-- n rounds
abbrev pub rounds : ℕ → List Call
rounds zero = []
rounds (suc n) = round ∷ rounds n

-- all that is asked of a call: a booking's number has 32 bits
in_range_book : (t : ℕ) (c : Canister) → c.number < 2 ^ 32 → InRange (book t c)
in_range_book t c h = h

pub in_range_stop : (t : ℕ) → InRange (stop t)
in_range_stop t = tt

pub in_range_repair : (t : ℕ) → InRange (repair t)
in_range_repair t = tt

pub in_range_rounds : (n : ℕ) → All InRange (rounds n)
in_range_rounds zero = tt
in_range_rounds (suc n) = (tt, in_range_rounds n)

-- ---- the first trial: W 2, hopper 1, canister 5 at (0, 0) on tile 0; after five rounds tile 0 is empty
unfoldable pub one : Made
one = put 5 0 0 0 (fresh 2 1 1)

first_test : empties one [] (rounds 5) 0 ≡ true
unfolding holds hold_by one quiet_by_lem quiet_enough empties
first_test = refl

first_trial : members_of (view (floor_after (floor_after (floor_of one) []) (rounds 5))) 0 ≡ []
first_trial = emptied one [] (rounds 5) 0 first_test

-- ---- v 29, begun after 4 was delivered and with 5 on tile 0: a booking of the greatest number, a stop, a repair, rounds, and refused calls (31, 8, 33) among them
unfoldable pub swift : Made
swift = put 5 0 0 0 (run 3 (put 4 0 0 0 (begun (settings 2 1 1 29))))

unfoldable mixed : List Call
mixed = round ∷ stop 0 ∷ book 0 (can 6 0 70) ∷ round ∷ repair 0 ∷ book 0 (can (2 ^ 32 - 1) 0 70) ∷ stop 1 ∷ book 0 (can 7 70 0) ∷ []

-- seven rounds, with a refused booking (33), stop (8) and repair (32) between them
unfoldable further : List Call
further = book 0 (can 7 70 0) ∷ round ∷ stop 1 ∷ round ∷ repair 0 ∷ rounds 5

unfoldable history : Rows
history =
    (counted swift, 0 ∷ 5 ∷ 2 ∷ 1 ∷ 0 ∷ 0 ∷ 0 ∷ [])
    ∷ (booked mixed swift, (2 ^ 32 - 1) ∷ [])
    ∷ (reported_in 0 (mixed ++ further) swift, 5 ∷ (2 ^ 32 - 1) ∷ [])
    ∷ (answers (mixed ++ further) swift, 0 ∷ 0 ∷ 31 ∷ 0 ∷ 0 ∷ 0 ∷ 8 ∷ 33 ∷ 33 ∷ 0 ∷ 8 ∷ 0 ∷ 32 ∷ replicate 5 0)
    -- tile 0 is stopped by the second call and runs again by the fifth; the hopper runs; tile 2 isn't there
    ∷ (ranAfter (0 ∷ 1 ∷ 2 ∷ []) (take 4 mixed) swift, 0 ∷ 1 ∷ 0 ∷ [])
    ∷ (ranAfter (0 ∷ []) mixed swift, 1 ∷ [])
    ∷ (given (rounds_in mixed ∷ rounds_in further ∷ []), 2 ∷ 7 ∷ [])
    ∷ []

history_test : hold_by history ≡ true
unfolding holds hold_by swift can mixed further history
history_test = refl

histories : hold history ≡ true
histories = by_values history history_test

in_range : All InRange mixed
unfolding mixed is_in_range all_of can
in_range = all_in_range mixed refl

later : All InRange further
unfolding further is_in_range all_of can
later = all_in_range further refl

mixed_test : empties swift mixed further 0 ≡ true
unfolding holds hold_by swift can mixed further quiet_by_lem quiet_enough empties
mixed_test = refl

mixed_empty : members_of (view (floor_after (floor_after (floor_of swift) mixed) further)) 0 ≡ []
mixed_empty = emptied swift mixed further 0 mixed_test

-- ---- [14]: calls that may change places; two bookings that are accepted on two tiles; the answers of a list with the rounds' reports
stop_repair : (t u : ℕ) → t ≢ u → Exchangeable (stop t) (repair u)
stop_repair t u n = running_changes n stops repairs

book_stop : (t u : ℕ) (c : Canister) → t ≢ u → c.number < 2 ^ 32 → Exchangeable (book t c) (stop u)
book_stop t u c n h = booking n (placed c) h stops

anywhere_repair : (t u number : ℕ) → t ≢ u → number < 2 ^ 32 → Exchangeable (anywhere t number) (repair u)
anywhere_repair t u number n h = booking n (unplaced number) h repairs

both_booked : BothBooked (floor_of (fresh 3 1 2)) (book 0 (can 5 0 0)) (book 1 (can 7 0 0))
unfolding holds floor_of can outcome
both_booked = (refl, refl)

unfoldable heard : Rows
heard =
    let calls = book 0 (can 6 0 0) ∷ rounds 4 in
    (replies (λ x. x.0) calls one, 34 ∷ replicate 4 0)
    ∷ (replies (λ x. length (listed_at x.2 0)) calls one, 0 ∷ 0 ∷ 0 ∷ 0 ∷ 1 ∷ [])
    ∷ []

heard_test : hold_by heard ≡ true
unfolding holds hold_by one can heard
heard_test = refl

heard_all : hold heard ≡ true
heard_all = by_values heard heard_test

-- ---- [11]: the hopper in the middle of 3 × 3, canisters on all four sides. West wants in each of five rounds, after a refused stop, and is granted again after the other three; a list in which another side is granted twice meanwhile is not fair
unfoldable pub crowd : Made
crowd = put 8 0 0 7 (put 7 0 0 5 (put 6 0 0 3 (put 5 0 0 1 (fresh 3 3 4))))

-- 3 × 2, hopper 3: west, south and east want; the turn is south's when tile 2 stops, so east is next
unfoldable corner : Made
corner = put 7 50 0 5 (put 6 0 0 2 (put 5 0 0 1 (fresh 3 2 3)))

unfoldable turns : Rows
turns =
    (grants 4 (stop 4 ∷ rounds 5) crowd, 1 ∷ 2 ∷ 3 ∷ 4 ∷ 1 ∷ [])
    ∷ (grants 3 (round ∷ stop 2 ∷ round ∷ []) corner, 1 ∷ 4 ∷ [])
    ∷ (given (grant_count (1 ∷ 0 ∷ 2 ∷ []) ∷ []), 2 ∷ [])
    ∷ []

turns_test : hold_by turns ≡ true
unfolding holds hold_by crowd corner grant_count turns
turns_test = refl

turns_all : hold turns ≡ true
turns_all = by_values turns turns_test

crowd_made : (made crowd).0 ≡ true
unfolding holds hold_by crowd
crowd_made = refl

pub crowd_shows : Shows (floor_of crowd) (made crowd).1
crowd_shows = made_shows crowd crowd_made

west_test : waiting_by (made crowd).1 (stop 4 ∷ rounds 5) 4 1 ≡ true
unfolding holds hold_by crowd wants waiting_by
west_test = refl

west_waits : Waiting (floor_of crowd) (stop 4 ∷ rounds 5) 4 1
west_waits = waiting (floor_of crowd) (made crowd).1 crowd_shows (stop 4 ∷ rounds 5) (in_range_stop 4, in_range_rounds 5) 4 1 west_test

west_fair : Fair 1 (grants_in (floor_of crowd) (stop 4 ∷ rounds 5) 4)
west_fair = (bounded_bypass (floor_of crowd) crowd_shows.well).fair (stop 4 ∷ rounds 5) (in_range_stop 4, in_range_rounds 5) 4 1 west_waits

unfair : ¬ (Fair 4 (1 ∷ 2 ∷ 1 ∷ []))
unfair h = none (h 1 [] (2 ∷ []) [] (omega arith) (omega arith) refl)
  where
    none : Memᴰ {A = ℕ} 4 (2 ∷ []) → ⊥
    none (Memᴰ.tail x4) = elim x4 [ ]
    none (Memᴰ.head e) = absurd (omega arith)

-- the further promises: east waits while the three others are granted; a stop and a repair at once leave no side wanting; the grant and the turn
not_east : ¬ (Memᴰ {A = ℕ} 4 (1 ∷ 2 ∷ 3 ∷ []))
not_east (Memᴰ.head e) = absurd (omega arith)
not_east (Memᴰ.tail (Memᴰ.head e)) = absurd (omega arith)
not_east (Memᴰ.tail (Memᴰ.tail (Memᴰ.tail x12))) = elim x12 [ ]
not_east (Memᴰ.tail (Memᴰ.tail (Memᴰ.head e))) = absurd (omega arith)

east_test : (waiting_by (made crowd).1 (rounds 3) 4 4 ≡ true) × (grants_by_lem (made crowd).1 (rounds 3) 4 ≡ 1 ∷ 2 ∷ 3 ∷ [])
unfolding holds hold_by crowd wants waiting_by
east_test = (refl, refl)

east_waits : Waiting (floor_of crowd) (rounds 3) 4 4
east_waits = waiting (floor_of crowd) (made crowd).1 crowd_shows (rounds 3) (in_range_rounds 3) 4 4 east_test.0

east_three : grant_count (grants_in (floor_of crowd) (rounds 3) 4) ≤ 3
east_three =
    let e = grants_same (floor_of crowd) (made crowd).1 crowd_shows (rounds 3) (in_range_rounds 3) 4 ∙ east_test.1 in
    (bounded_bypass (floor_of crowd) crowd_shows.well).three (rounds 3) (in_range_rounds 3) 4 4 east_waits (subst (λ (l : List ℕ). ¬ (Memᴰ {A = ℕ} 4 l)) (sym e) not_east)

-- W 3, hopper 0: the canister on tile 2 wants into tile 1; tile 1 stopped and repaired at once, it no longer does
unfoldable queue : Made
queue = put 5 70 0 2 (run 2 (fresh 3 1 0))

queue_test : ((made queue).0 ≡ true) × ((wants (made queue).1 1 4 ≡ true) × (refusal_by (made queue).1 (stop 1) ≡ 0))
unfolding holds hold_by queue wants
queue_test = (refl, (refl, refl))

queue_shows : Shows (floor_of queue) (made queue).1
queue_shows = made_shows queue queue_test.0

queue_wants : wants (view (floor_of queue)) 1 4 ≡ true
queue_wants = ap (λ (x : Model). wants x 1 4) queue_shows.value ∙ queue_test.1.0

ends_repaired : (k : ℕ) → wants (view (floor_after (floor_of queue) (stop 1 ∷ repair 1 ∷ []))) 1 k ≡ false
ends_repaired =
    (bounded_bypass (floor_of queue) queue_shows.well).stop_ends 1 (shows_refusal (floor_of queue) (made queue).1 queue_shows (stop 1) ∙ queue_test.1.1) (repair 1 ∷ []) (in_range_repair 1, tt) refl

-- the grant by the value
grant_by : Model → ℕ → ℕ
grant_by m t = cond (wants m t (turn_of m t) && eqb (missing m.settings (turn_of m t) (members_of m t)) 0) (turn_of m t) 0

granted_by : (f : Floor) (m : Model) → Shows f m → (t : ℕ) → runs_of_of m t ≡ true → granted f t ≡ grant_by m t
unfolding view grant_by
granted_by f m s t = subst (λ (x : Model). runs_of_of x t ≡ true → granted f t ≡ grant_by x t) s.value ((bounded_bypass f s.well).grants t)

crowd_test : (runs_of_of (made crowd).1 4 ≡ true) × ((grant_by (made crowd).1 4 ≡ 1) × (((made (run 1 crowd)).0 ≡ true) × (wants (made (run 1 crowd)).1 4 4 ≡ true)))
unfolding holds hold_by crowd wants turn_of grant_by
crowd_test = (refl, (refl, (refl, refl)))

crowd_grants : granted (floor_of crowd) 4 ≡ 1
crowd_grants = granted_by (floor_of crowd) (made crowd).1 crowd_shows 4 crowd_test.0 ∙ crowd_test.1.0

crowd_turn : wants (view (floor_of (run 1 crowd))) 4 (turn_of (view (floor_of (run 1 crowd))) 4) ≡ true
crowd_turn =
    let E = made_shows (run 1 crowd) crowd_test.1.1.0 in
    (bounded_bypass (floor_of (run 1 crowd)) E.well).turn_wants 4 4 (ap (λ (x : Model). wants x 4 4) E.value ∙ crowd_test.1.1.1)

-- ---- [3]: 2 × 2, hopper 3. After four rounds arrows rest: a booking, a refused stop and rounds leave them
unfoldable pub square : Made
square = fresh 2 2 3

square_test : ((made square).0 ≡ true) × (total (made square).1.settings ≡ 4)
unfolding holds hold_by square
square_test = (refl, refl)

pub square_shows : Shows (floor_of square) (made square).1
square_shows = made_shows square square_test.0

pub four_tiles : total (floor_of square).settings ≡ 4
unfolding view
four_tiles = ap (λ (x : Model). total x.settings) square_shows.value ∙ square_test.1

pub running_unchanged_rounds : (n : ℕ) (f : Floor) → RunningUnchanged f (rounds n)
unfolding changes_running
running_unchanged_rounds zero f = tt
running_unchanged_rounds (suc n) f = (refl, running_unchanged_rounds n (outcome f round).floor)

abbrev pub settled : Floor
settled = floor_after (floor_of square) (rounds 4)

abbrev pub rest : Model
rest = value_after_of (made square).1 (rounds 4)

pub settled_shows : Shows settled rest
settled_shows = shows_list (floor_of square) (made square).1 square_shows (rounds 4) (in_range_rounds 4)

abbrev busy : List Call
busy = book 0 (can 5 0 0) ∷ stop 3 ∷ rounds 2

in_range_busy : All InRange busy
unfolding can
in_range_busy = (in_range_book 0 (can 5 0 0) (omega arith), (in_range_stop 3, in_range_rounds 2))

busy_test : (running_unchanged_by rest busy ≡ true) × (eqb (next_of (value_after_of rest busy) 0) 0 ≡ false)
unfolding holds hold_by square can running_unchanged_by
busy_test = (refl, refl)

busy_running_unchanged : RunningUnchanged settled busy
busy_running_unchanged = running_unchanged settled rest settled_shows busy in_range_busy busy_test.0

rested : (t : ℕ) → next_of (view (floor_after settled busy)) t ≡ next_of (view settled) t
rested = ((arrows (floor_of square) square_shows.well).1.rests (rounds 4) (in_range_rounds 4) (running_unchanged_rounds 4 (floor_of square)) (omega (arith, four_tiles))).stays busy in_range_busy busy_running_unchanged

-- tile 0 has two ways at distance 1; it has the later one, east, since tile 1 was stopped once, and keeps it
unfoldable mended : Made
mended = run 1 (mend 1 (run 3 (halt 1 (run 3 square))))

value_east : FacesNearest (made mended).1 0 (next_of (made mended).1 0)
unfolding holds hold_by square mended sides
value_east = record {
  side = Memᴰ.tail (Memᴰ.tail (Memᴰ.tail (Memᴰ.head refl)));
  least = λ j. each_side (λ k. beyond (made mended).1 0 (next_of (made mended).1 0) ≤ beyond (made mended).1 0 k) (near 1 refl) (near 2 refl) (near 3 refl) (near 4 refl);
}
  where
    near : (k : ℕ) → leb (beyond (made mended).1 0 (next_of (made mended).1 0)) (beyond (made mended).1 0 k) ≡ true → beyond (made mended).1 0 (next_of (made mended).1 0) ≤ beyond (made mended).1 0 k
    near k = leb-true (beyond (made mended).1 0 (next_of (made mended).1 0)) (beyond (made mended).1 0 k)

mended_test : ((made mended).0 ≡ true) × ((is_hopper (made mended).1.settings 0 ≡ false) × (eqb (distance_of (value_by (made mended).1 round) 0) 255 ≡ false))
unfolding holds hold_by square mended
mended_test = (refl, (refl, refl))

mended_shows : Shows (floor_of mended) (made mended).1
mended_shows = made_shows mended mended_test.0

faces_east : FacesNearest (view (floor_of mended)) 0 (next_of (view (floor_of mended)) 0)
faces_east = subst (λ (x : Model). FacesNearest x 0 (next_of x 0)) (sym mended_shows.value) value_east

-- the arrow that a round gives
chosen : (f : Floor) (m : Model) → Shows f m → (t : ℕ) → is_hopper m.settings t ≡ false → eqb (distance_of (value_by m round) t) 255 ≡ false → Chooses (view f) (view (outcome f round).floor) t
unfolding view
chosen f m s t off some =
    let A = (arrows f s.well).0 in
    let far : distance_of (view (outcome f round).floor) t ≢ 255 = subst (λ (x : Model). distance_of x t ≢ 255) (sym (shows_call f m s round tt).value) (eqb-false (distance_of (value_by m round) t) 255 some) in
    subst (λ (g : Floor). distance_of (view g) t ≢ 255 → Chooses (view f) (view g) t) A.is_after (A.chooses t (ap (λ (x : Model). is_hopper x.settings t) s.value ∙ off)) far

kept_east : next_of (view (outcome (floor_of mended) round).floor) 0 ≡ next_of (view (floor_of mended)) 0
kept_east = (chosen (floor_of mended) (made mended).1 mended_shows 0 mended_test.1.0 mended_test.1.1).keeps faces_east

-- tile 0 gets its first arrow in the second round: it faces a nearest neighbour, and south, the side before it, is farther
unfoldable early : Made
early = run 1 square

early_test : ((made early).0 ≡ true) × ((is_hopper (made early).1.settings 0 ≡ false) × ((eqb (distance_of (value_by (made early).1 round) 0) 255 ≡ false) × ((next_of (made early).1 0 ≡ 0) × (next_of (value_by (made early).1 round) 0 ≡ 3))))
unfolding holds hold_by square early
early_test = (refl, (refl, (refl, (refl, refl))))

early_shows : Shows (floor_of early) (made early).1
early_shows = made_shows early early_test.0

early_chooses : Chooses (view (floor_of early)) (view (outcome (floor_of early) round).floor) 0
early_chooses = chosen (floor_of early) (made early).1 early_shows 0 early_test.1.0 early_test.1.1.0

early_nearest : FacesNearest (view (floor_of early)) 0 (next_of (view (outcome (floor_of early) round).floor) 0)
early_nearest = early_chooses.nearest

early_ties : beyond (view (floor_of early)) 0 (next_of (view (outcome (floor_of early) round).floor) 0) < beyond (view (floor_of early)) 0 2
unfolding sides
early_ties = early_chooses.ties (λ N. absurd (none N.side)) 2 (Memᴰ.tail (Memᴰ.head refl)) (omega (arith, north))
  where
    north : next_of (view (outcome (floor_of early) round).floor) 0 ≡ 3
    north = ap (λ (x : Model). next_of x 0) (shows_call (floor_of early) (made early).1 early_shows round tt).value ∙ early_test.1.1.1.1

    none : Memᴰ (next_of (view (floor_of early)) 0) sides → ⊥
    none h = let e : next_of (view (floor_of early)) 0 ≡ 0 = ap (λ (x : Model). next_of x 0) early_shows.value ∙ early_test.1.1.1.0 in absurd (omega (arith, e, side_pos h))

-- after three rounds, C - 1, the next one changes no distance; after it arrows rest, and face a nearest neighbour
abbrev third : Floor
third = floor_after (floor_of square) (rounds 3)

third_steady : Steady third
third_steady = (arrows (floor_of square) square_shows.well).1.steady (rounds 3) (in_range_rounds 3) (running_unchanged_rounds 3 (floor_of square)) (omega (arith, four_tiles))

third_rests : Resting settled
unfolding floor_after
third_rests = let A = (arrows third (list_keeps (floor_of square) square_shows.well (rounds 3) (in_range_rounds 3)).0).0 in subst Resting A.is_after (A.rests third_steady)

busy_faces : FacesNearest (view (floor_after settled busy)) 0 (next_of (view (floor_after settled busy)) 0)
busy_faces =
    let E = shows_list settled rest settled_shows busy in_range_busy in
    third_rests.faces busy in_range_busy busy_running_unchanged 0 (subst (λ (x : Model). next_of x 0 ≢ 0) (sym E.value) (eqb-false (next_of (value_after_of rest busy) 0) 0 busy_test.1))
