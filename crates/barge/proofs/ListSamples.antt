-- [13]: lists of calls on a barge, computed: one table, one proof. A row is what they give, then what is due. Then `totals` and `per_floor` on such lists.
use mathlib.Core.Path.{◌≡◌, refl, sym, ◌∙◌, subst}
use mathlib.Core.Bool.{Bool, true, cond, not, ◌&&◌, true≢false}
use mathlib.Core.List.{List, [], ◌∷◌, ◌++◌}
use Prim.Native.Nat.{ℕ, ◌≤◌, ◌<◌}
use native.Mathlib.Omega.{arith}
use lib.Dec.{leb}
use borrow.Author.Tests.{leb-true, not-true}
use Rattle.laws.specs.Define.{tab}
use Rattle.laws.specs.Every.{All}
use Rattle.laws.proofs.Tests.{and_left, and_right}
use Rattle.floor.specs.declared.Floor.{Floor}
use Rattle.floor.specs.Model.{members_of}
use Rattle.floor.specs.Memory.{view}
use Rattle.floor.specs.Calls.{fresh_answer}
use Rattle.floor.specs.Bound.{bound}
use Rattle.floor.specs.Live.{connected, connected_count}
use Rattle.floor.proofs.Calling.{got, can, Table, holds}
use Rattle.floor.proofs.Calling as Calling
use Rattle.floor.proofs.AnywhereSamples.{small}
use Rattle.barge.specs.declared.Barge.{Barge}
use Rattle.barge.specs.Barges.{floor_at, with_floor, on_floor_of, aboard, allowance_sound, barge_sound, barge_refusal, allowed, barge_with, barge_book, barge_book_anywhere, barge_stop, barge_repair, barge_round}
use Rattle.barge.specs.Lists.{BargeCall, book, anywhere, stop, repair, round, InRange, outcome, barge_after, booked_in, reported_in}
use Rattle.barge.specs.PerFloor.{booked_on, reported_on, reported_all_on, runs_by, latest, runs_on_of, disturbs, QuietOn, rounds_on}
use Rattle.barge.proofs.Samples.{four}
use Rattle.barge.proofs.PerFloor.{per_floor}
use Rattle.barge.proofs.Totals.{totals}

-- the refusals along a list
unfoldable answers : Barge → List BargeCall → List ℕ
answers b [] = []
answers b (c ∷ cs) = (outcome b c).refusal ∷ answers (outcome b c).barge cs

-- W 2, hopper 1, U 9, l 3, r 1: places 0 to 6, d 4. One canister is aboard: 5, on floor 1, about to be delivered
unfoldable start : Barge
start =
    let f = got (fresh_answer (small 3 1)) in
    four f (Calling.book 5 6 0 0 f) f f 3

-- bookings of either sort on two floors, up to the allowance; tile 0 of floor 1 stops
unfoldable before : List BargeCall
before = book 4 0 (can 1 0 0) ∷ book 0 0 (can 8 6 0) ∷ anywhere 1 0 7 ∷ anywhere 3 0 3 ∷ stop 1 0 ∷ []

-- rounds on both floors, that of floor 1 before and after the repair; then floor 3 may book
unfoldable later : List BargeCall
later = round 1 ∷ round 0 ∷ repair 1 0 ∷ round 1 ∷ anywhere 3 0 3 ∷ []

unfoldable table : Table
table =
    let b = start in
    let d = barge_after b before in
    let runs : ℕ → Barge → List BargeCall → ℕ → ℕ = λ j x cs t. cond (runs_on_of j x cs t) 1 0 in
    (answers b (before ++ later), 49 ∷ 0 ∷ 0 ∷ 50 ∷ 0 ∷ 0 ∷ 0 ∷ 0 ∷ 0 ∷ 0 ∷ [])
    ∷ (aboard b ∷ aboard d ∷ aboard (barge_after d later) ∷ [], 1 ∷ 3 ∷ 2 ∷ [])
    ∷ (booked_in b before, 8 ∷ 7 ∷ [])
    ∷ (reported_in d later, 8 ∷ 5 ∷ [])
    -- of the calls that name a floor
    ∷ (booked_on 0 b before, 8 ∷ [])
    ∷ (booked_on 1 b before, 7 ∷ [])
    ∷ (booked_on 2 b (anywhere 2 0 4 ∷ anywhere 0 0 6 ∷ []), 4 ∷ [])
    ∷ (booked_on 3 b before, [])
    ∷ (booked_on 3 d later, 3 ∷ [])
    ∷ (reported_on 0 d later 0, 8 ∷ [])
    ∷ (reported_on 1 d later 0, 5 ∷ [])
    ∷ (reported_on 2 d (round 0 ∷ round 2 ∷ []) 0, [])
    ∷ (reported_on 3 d later 0, [])
    ∷ (reported_all_on 0 d (round 1 ∷ round 0 ∷ []), 8 ∷ [])
    -- tile 0 of floor 1 is stopped, then repaired; its hopper, and tile 0 of floor 0, run
    ∷ (runs 1 b before 0 ∷ runs 1 b before 1 ∷ runs 0 b before 0 ∷ runs 1 d later 0 ∷ [], 0 ∷ 1 ∷ 1 ∷ 1 ∷ [])
    ∷ (tab 4 (λ j. rounds_on j later), 1 ∷ 2 ∷ 0 ∷ 0 ∷ [])
    ∷ []

list_samples : holds table ≡ true
unfolding holds small four answers start before later table on_floor_of aboard allowance_sound barge_sound barge_refusal allowed barge_with barge_book barge_book_anywhere barge_stop barge_repair barge_round
    outcome barge_after booked_in reported_in booked_on reported_on reported_all_on runs_by latest runs_on_of
list_samples = refl

-- ---- the joint total: from this barge no list passes the allowance
start_test : barge_sound start && leb (aboard start) start.allowance ≡ true
unfolding holds small four start on_floor_of aboard allowance_sound barge_sound
start_test = refl

never_over : (cs : List BargeCall) → All InRange cs → aboard (barge_after start cs) ≤ start.allowance
never_over cs in_range = (totals start (and_left (barge_sound start) _ start_test) cs in_range).within (leb-true (aboard start) start.allowance (and_right (barge_sound start) _ start_test))

-- ---- demand 3 of floor j: QuietOn as a test, and the other premises
unfoldable quiet_by_lem : ℕ → Barge → List BargeCall → Bool
quiet_by_lem j b [] = true
quiet_by_lem j b (c ∷ cs) = not (disturbs j b c) && quiet_by_lem j (outcome b c).barge cs

quiet : (j : ℕ) (b : Barge) (cs : List BargeCall) → quiet_by_lem j b cs ≡ true → QuietOn j b cs
unfolding quiet_by_lem
quiet j b [] h = tt
quiet j b (c ∷ cs) h = (not-true (disturbs j b c) (and_left (not (disturbs j b c)) _ h), quiet j (outcome b c).barge cs (and_right (not (disturbs j b c)) _ h))

quiet_by : (j : ℕ) (b : Barge) (cs : List BargeCall) → QuietOn j b cs → quiet_by_lem j b cs ≡ true
unfolding quiet_by_lem
quiet_by j b [] q = refl
quiet_by j b (c ∷ cs) q = rw (q.0, quiet_by j (outcome b c).barge cs q.1)

emptied_from : (j : ℕ) → j < 4 → (b : Barge) → barge_sound b ≡ true → (cs ds : List BargeCall) → All InRange cs → All InRange ds → QuietOn j (barge_after b cs) ds
    → bound (floor_at b j).settings (connected_count (view (floor_at (barge_after b cs) j)) (runs_on_of j b cs)) ≤ rounds_on j ds
    → (t : ℕ) → connected (floor_at b j).settings (runs_on_of j b cs) t ≡ true → members_of (view (floor_at (barge_after (barge_after b cs) ds) j)) t ≡ []
emptied_from j j4 b s cs ds in_range further q enough t live =
    let P = per_floor j j4 b s cs in_range in
    let r = runs_on_of j b cs in
    let enough' = subst (λ (g : Floor). bound P.first.settings (connected_count (view g) r) ≤ rounds_on j ds) (sym P.is_now)
    (subst (λ (g : Floor). bound g.settings (connected_count (view (floor_at (barge_after b cs) j)) r) ≤ rounds_on j ds) (sym P.is_first) enough) in
    P.emptied ds further q enough' t ((P.counts_live t).1 (subst (λ (g : Floor). connected g.settings r t ≡ true) (sym P.is_first) live))

-- U 9, l 8, r 0: places 0 and 1, so M is 2 and the bound 3. Canister 5 is on floor j
unfoldable wide : ℕ → Barge
wide j =
    let f = got (fresh_answer (small 8 0)) in
    let b = four f f f f 3 in
    with_floor b j (Calling.book 5 0 0 0 f)

-- floor j is stopped and repaired; then three rounds of it, with a refused stop (8), while floor i books
unfoldable paused : ℕ → List BargeCall
paused j = stop j 0 ∷ repair j 0 ∷ []

unfoldable further : ℕ → ℕ → List BargeCall
further j i = round j ∷ stop j 1 ∷ anywhere i 0 9 ∷ round j ∷ round j ∷ []

-- the premises as a test: the barge is sound and the rounds enough, tile 0 is live, floor j is quiet and floor i is not
unfoldable met : ℕ → ℕ → Bool
met j i =
    let d = barge_after (wide j) (paused j) in
    (barge_sound (wide j) && leb (bound (floor_at (wide j) j).settings (connected_count (view (floor_at d j)) (runs_on_of j (wide j) (paused j)))) (rounds_on j (further j i)))
    && (connected (floor_at (wide j) j).settings (runs_on_of j (wide j) (paused j)) 0 && (quiet_by_lem j d (further j i) && not (quiet_by_lem i d (further j i))))

wide_test : (met 1 3 ≡ true) × (met 3 1 ≡ true)
unfolding holds small four wide paused further met quiet_by_lem on_floor_of aboard allowance_sound barge_sound barge_refusal allowed barge_with barge_book barge_book_anywhere barge_stop barge_repair barge_round outcome barge_after runs_by latest runs_on_of disturbs
wide_test = (refl, refl)

module _ (j i : ℕ) (h : met j i ≡ true) where
  abbrev paused_barge : Barge
  paused_barge = barge_after (wide j) (paused j)

  abbrev enough : Bool
  enough = leb (bound (floor_at (wide j) j).settings (connected_count (view (floor_at paused_barge j)) (runs_on_of j (wide j) (paused j)))) (rounds_on j (further j i))

  abbrev live : Bool
  live = connected (floor_at (wide j) j).settings (runs_on_of j (wide j) (paused j)) 0

  begun : barge_sound (wide j) && enough ≡ true
  unfolding met
  begun = and_left (barge_sound (wide j) && enough) _ h

  rest : live && (quiet_by_lem j paused_barge (further j i) && not (quiet_by_lem i paused_barge (further j i))) ≡ true
  unfolding met
  rest = and_right (barge_sound (wide j) && enough) _ h

  -- the accepted booking on floor i leaves floor j quiet, and not floor i
  here_quiet : QuietOn j paused_barge (further j i)
  here_quiet = quiet j paused_barge (further j i) (and_left (quiet_by_lem j paused_barge (further j i)) _ (and_right live _ rest))

  other_not_quiet : ¬ (QuietOn i paused_barge (further j i))
  other_not_quiet q = true≢false (sym (quiet_by i paused_barge (further j i) q) ∙ not-true _ (and_right (quiet_by_lem j paused_barge (further j i)) _ (and_right live _ rest)))

  in_range_paused : All InRange (paused j)
  unfolding paused
  in_range_paused = (tt, (tt, tt))

  in_range_further : All InRange (further j i)
  unfolding further
  in_range_further = (tt, (tt, (omega arith, (tt, (tt, tt)))))

  -- by the theorem alone
  here_emptied : j < 4 → members_of (view (floor_at (barge_after paused_barge (further j i)) j)) 0 ≡ []
  here_emptied l =
      emptied_from j l (wide j) (and_left (barge_sound (wide j)) _ begun) (paused j) (further j i) in_range_paused in_range_further here_quiet
      (leb-true _ (rounds_on j (further j i)) (and_right (barge_sound (wide j)) _ begun)) 0 (and_left live _ rest)

one_emptied : members_of (view (floor_at (barge_after (barge_after (wide 1) (paused 1)) (further 1 3)) 1)) 0 ≡ []
one_emptied = here_emptied 1 3 wide_test.0 (omega arith)

three_not_quiet : ¬ (QuietOn 3 (barge_after (wide 1) (paused 1)) (further 1 3))
three_not_quiet = other_not_quiet 1 3 wide_test.0

three_emptied : members_of (view (floor_at (barge_after (barge_after (wide 3) (paused 3)) (further 3 1)) 3)) 0 ≡ []
three_emptied = here_emptied 3 1 wide_test.1 (omega arith)
