-- A plan ends: with the offered label released each time the floor is empty, and rounds enough after it, all are delivered: `ends`, `scheduled`. The statements are specs/Ending.
use mathlib.Core.Path.{◌≡◌, refl, sym, ap, ◌∙◌, subst, fun_ext}
use mathlib.Core.Logic.{◌⊎◌, inl, inr, ◌≢◌}
use mathlib.Core.Bool.{Bool, true, false, cond, not, ◌||◌, false≢true}
use mathlib.Core.List.Permᴰ
use mathlib.Core.List.{List, [], ◌∷◌, ◌++◌, map, append-nil, Memᴰ, Permᴰ}
use Prim.Native.Nat.{ℕ, zero, suc, ◌+◌, ◌^◌, ◌≤◌, ◌<◌}
use native.Mathlib.Omega.{arith}
use native.Mathlib.Decide.{dec_le}
use lib.Dec.{eqb}
use lib.ListN.{length, take, get_or-eq_default}
use lib.Seq.{get_or-set_other}
use borrow.Author.Tests.{eqb-true, eqb-false, eq-eqb, ne_eqb, lt-ltb, not-false}
use Rattle.laws.specs.Define.{cat, all_of, any_of, bit, filter, refusal}
use Rattle.laws.specs.Every.{All, Pairs}
use Rattle.laws.proofs.Tests.{by_test, not_both, and_left, test_none}
use Rattle.laws.proofs.Lists.{all_mem, all_imp, all_both, mem_perm, mem_cat, cat_nil, length_perm}
use Rattle.floor.specs.declared.Canister.{Canister}
use Rattle.floor.specs.declared.Settings.{Settings}
use Rattle.floor.specs.declared.Layout.{Layout}
use Rattle.floor.specs.declared.Floor.{Floor}
use Rattle.floor.specs.Settings.{total}
use Rattle.floor.specs.Model.{TileState, Model, no_tile_of, tile_of, runs_of_of, members_of, numbers, numbers_on, with_layouts, with_members}
use Rattle.floor.specs.Memory.{view, pack}
use Rattle.floor.specs.Well.{well_formed}
use Rattle.floor.specs.Calls.{refusal_of, answer, booked, round_answer}
use Rattle.floor.specs.Move.{insert}
use Rattle.floor.specs.Anywhere.{anywhere_tests, placed_at, anywhere_answer}
use Rattle.floor.specs.Placing.{Free, OthersPass}
use Rattle.floor.specs.CommutingCalls.{unplaced}
use Rattle.floor.specs.Bound.{bound}
use Rattle.floor.specs.Live.{LivePath, here, step, connected}
use Rattle.floor.specs.Demand3.{Call, anywhere, round, InRange, outcome, floor_after, booked_in, reported_in, disturbs, Quiet, rounds_in}
use Rattle.floor.proofs.Sound.{Sound}
use Rattle.floor.proofs.Pack.{well_sound}
use Rattle.floor.proofs.Capacity.{view_packed}
use Rattle.floor.proofs.Nearest.{routable}
use Rattle.floor.proofs.Paths.{live_iff}
use Rattle.floor.proofs.Calls.{Keeps, Accepted, anywhere_accepts, anywhere_keeps, book_runs}
use Rattle.floor.proofs.GuardedCalls.{accepted, booking_pos}
use Rattle.floor.proofs.Placing.{placing}
use Rattle.floor.proofs.Clearing.{rounds, rounds_settings}
use Rattle.floor.proofs.Lists.{list_keeps, quiet_rounds}
use Rattle.plan.specs.declared.Entry.{Entry}
use Rattle.plan.specs.declared.Plan.{Plan}
use Rattle.plan.specs.Entries.{Stage, waiting, booked as bookedUnder, delivered, stage_of, is_waiting, is_delivered, number_in, waits, was_delivered, booked_number, used, predecessors, done, plan_sound, numbers_upto, plan_fits, ready, ready_label, changed, released, reported}
use Rattle.plan.specs.Plans.{offer_tests, offer_answer, release_tests, number_after, tile_for, release_booking, release_answer}
use Rattle.plan_floor.specs.Steps.{Step, call, release, report, State, stepped, state_after, StepInRange, report_of_call, reports_of, calls_of, calls_in, reported_by}
use Rattle.plan_floor.specs.Ending.{waiting_in, Served, HandedIn, Cycle, release_offered, Cycles, after_cycles, refusals_in, EndsPromise, handed_rounds, schedule, SchedulePromise}
use Rattle.plan.proofs.Stages.{neither, booked_stage, reported_label, released_there, released_other, used_changed, changed_all, none_booked_number}
use Rattle.plan_floor.proofs.Written.{reported_plain}
use Rattle.plan_floor.proofs.History.{accepted as passed, ready_entry, all_ready}
use Rattle.plan_floor.proofs.Offering.{offer_fits, offers}
use Rattle.plan_floor.proofs.Keeping.{delivered_waits, none_released, reported_waits, reported_delivered, fewer}
use Rattle.plan_floor.proofs.AsCalls.{same_step, in_range_list, as_calls}
use Rattle.plan_floor.proofs.Soundness.{good_sound, good_upto, sound_good, labels_differ, Fine, step_fine, list_fine, offers_by}
use Rattle.plan_floor.proofs.Once.{Under, booked_under}
use Rattle.plan_floor.proofs.Emptying.{rounds_runs, rounds_last, OnLive, emptied, count_upto}
use Rattle.plan_floor.proofs.Marking.{Arrived, round_marks, quiet_list, quiet_waiting}

-- ---- an empty floor, and a booking on it
live_runs : {s : Settings} {r : ℕ → Bool} {t : ℕ} → LivePath s r t → r t ≡ true
live_runs (here h l r) = r
live_runs (step k mk l r p) = r

none_on : (m : Model) → Sound m → numbers_on m ≡ [] → (u : ℕ) → members_of m u ≡ []
unfolding numbers_on
none_on m S e u = go (dec_le (suc u) (total m.settings))
  where
    by : (l : List Canister) → members_of m u ≡ l → u < total m.settings → l ≡ []
    by [] q h = refl
    by (c ∷ l) q h =
        absurd (mathlib.Core.List.Memᴰ.not-nil (subst (Memᴰ c.number) e (mem_cat (total m.settings) (λ t. numbers (members_of m t)) u h (subst (λ (x : List Canister). Memᴰ c.number (numbers x)) (sym q) (mathlib.Core.List.Memᴰ.head refl)))))

    go : Dec (u < total m.settings) → members_of m u ≡ []
    go (yes h) = by (members_of m u) refl h
    go (no h) = ap (λ (x : TileState). x.members) (get_or-eq_default m.tiles no_tile_of (omega (arith, S.len)))

-- from m to b, with one canister
record Added (m b : Model) (n : ℕ) : Type 0 where
  sound : Sound b
  same_settings : b.settings ≡ m.settings
  same_runs : runs_of_of b ≡ runs_of_of m
  last : b.counters.last ≡ n
  one : Permᴰ (numbers_on b) (n ∷ [])
  on_live : OnLive b

module _ (f : Floor) (w : well_formed f ≡ true) (empty : numbers_on (view f) ≡ []) (t n : ℕ) (T : Served f t) (above : f.counters.last < n) (fit : n < 2 ^ 32) where
  abbrev m : Model
  m = view f

  S : Sound m
  S = well_sound f w

  abbrev c : Canister
  c = placed_at m t n

  booking_taken : (anywhere_answer f t n).refusal ≡ 0
  booking_taken =
      let O : OthersPass f t n = record { well = w; on_floor = T.on_floor; fill_tile = T.fill_tile; not_zero = λ e. omega arith; running = live_runs T.live; above_last = above } in
      let F : Free m t 0 0 = record { a_within = omega arith; b_within = omega arith; spaced = rw (none_on m S empty t) tt } in
      (placing f t n).accepted.1 (O, 0, 0, F)

  tests_passed : Accepted (anywhere_tests m t n)
  unfolding anywhere_answer answer
  tests_passed = (accepted f (anywhere_tests m t n) (booking_pos {t = t} (unplaced n) m) booking_taken).1

  K : Keeps m (booked m t c) (n ∷ []) (λ _. [])
  K = anywhere_keeps m S t n tests_passed fit

  value_after : view (outcome f (anywhere t n)).floor ≡ booked m t c
  unfolding outcome anywhere_answer answer
  value_after = ap (λ (b : Bool). view (cond b (pack (booked m t c)) f)) (eq-eqb (refusal_of f (anywhere_tests m t n)) 0 booking_taken) ∙ view_packed (booked m t c) K.well

  elsewhere : (u : ℕ) → u ≢ t → members_of (booked m t c) u ≡ []
  unfolding booked
  elsewhere u d = ap (λ (x : TileState). x.members) (get_or-set_other m.tiles t u (with_members (tile_of m t) (insert c (members_of m t))) no_tile_of d) ∙ none_on m S empty u

  runs_after : runs_of_of (booked m t c) ≡ runs_of_of m
  runs_after = fun_ext (book_runs m S t c (anywhere_accepts m t n tests_passed))

  live_here : connected (booked m t c).settings (runs_of_of (booked m t c)) t ≡ true
  unfolding booked view
  live_here = ap (λ (r : ℕ → Bool). connected m.settings r t) runs_after ∙ (live_iff m.settings (runs_of_of m) (routable m S) t).0 T.live

  one_number : Permᴰ (numbers_on (booked m t c)) (n ∷ [])
  one_number =
      subst (λ (l : List ℕ). Permᴰ l (n ∷ [])) (ap (λ (l : List ℕ). numbers_on (booked m t c) ++ l) (cat_nil {A = ℕ} 4) ∙ append-nil (numbers_on (booked m t c)))
      (subst (λ (l : List ℕ). Permᴰ (numbers_on (booked m t c) ++ cat 4 (λ _. [])) (l ++ (n ∷ []))) empty K.nums)

  added : Added m (view (outcome f (anywhere t n)).floor) n
  unfolding booked placed_at
  added = subst (λ (b : Model). Added m b n) (sym value_after) (record {
    sound = K.well;
    same_settings = refl;
    same_runs = runs_after;
    last = refl;
    one = one_number;
    on_live = λ u l e. elsewhere u (λ q. not_both live_here (subst (λ (x : ℕ). connected (booked m t c).settings (runs_of_of (booked m t c)) x ≡ false) q e));
  })

-- rounds on an empty floor
stays_empty : (m : Model) → Sound m → numbers_on m ≡ [] → (n : ℕ) → bound m.settings 1 ≤ n → numbers_on (rounds n m) ≡ []
stays_empty m S e n h = emptied m S (λ u l q. none_on m S e u) (omega (arith, count_upto m (runs_of_of m), ap length e)) n h

-- ---- one label less waits
fewer_wait : (k n : ℕ) (es : List Entry) → Pairs (λ x y. x.label ≢ y.label) es → (x : Entry) → Memᴰ x es → x.label ≡ k → waits x ≡ true → suc (length (filter waits (map (released k n) es))) ≡ length (filter waits es)
unfolding filter
fewer_wait k n [] L x m q h = absurd (mathlib.Core.List.Memᴰ.not-nil m)
fewer_wait k n (e ∷ es) L x (mathlib.Core.List.Memᴰ.head p) q h =
    let l : e.label ≡ k = sym (ap (λ (y : Entry). y.label) p) ∙ q in
    let a : waits (released k n e) ≡ false = ap waits (released_there k n e l) ∙ ap is_waiting (booked_stage n e) in
    let b : waits e ≡ true = sym (ap waits p) ∙ h in
    let rest = none_released k n es (all_imp (λ y. e.label ≢ y.label) (λ y. y.label ≢ k) es (λ y d s. d (l ∙ sym s)) L.0) in
    rw (a, b, rest) refl
fewer_wait k n (e ∷ es) L x (mathlib.Core.List.Memᴰ.tail m) q h =
    let d : e.label ≢ k = λ s. all_mem (λ y. e.label ≢ y.label) m L.0 (s ∙ sym q) in
    ap (λ (y : Entry). suc (length (cond (waits y) (y ∷ filter waits (map (released k n) es)) (filter waits (map (released k n) es))))) (released_other k n e d) ∙ go (waits e) (fewer_wait k n es L.1 x m q h)
  where
    go : (b : Bool) → suc (length (filter waits (map (released k n) es))) ≡ length (filter waits es)
        → suc (length (cond b (e ∷ filter waits (map (released k n) es)) (filter waits (map (released k n) es)))) ≡ length (cond b (e ∷ filter waits es) (filter waits es))
    go true ih = ap suc ih
    go false ih = ih

some_wait : (es : List Entry) (n : ℕ) → length (filter waits es) ≡ suc n → any_of waits es ≡ true
unfolding filter any_of
some_wait [] n h = absurd (omega arith)
some_wait (e ∷ es) n h = go (waits e) h (λ q. some_wait es n q)
  where
    go : (b : Bool) → length (cond b (e ∷ filter waits es) (filter waits es)) ≡ suc n → (length (filter waits es) ≡ suc n → any_of waits es ≡ true) → (b || any_of waits es) ≡ true
    go true h ih = refl
    go false h ih = ih h

none_wait : (es : List Entry) → length (filter waits es) ≡ 0 → All (λ e. waits e ≡ false) es
unfolding filter
none_wait [] h = tt
none_wait (e ∷ es) h = go (waits e) refl h (λ q. none_wait es q)
  where
    go : (b : Bool) → waits e ≡ b → length (cond b (e ∷ filter waits es) (filter waits es)) ≡ 0 → (length (filter waits es) ≡ 0 → All (λ e. waits e ≡ false) es) → (waits e ≡ false) × All (λ e. waits e ≡ false) es
    go true q h ih = absurd (omega arith)
    go false q h ih = (q, ih h)

-- ---- an entry's tile, and its stage
tile_for_lem : (P : ℕ → Type 0) (k : ℕ) (es : List Entry) (x : Entry) → Memᴰ x es → x.label ≡ k → ((e : Entry) → Memᴰ e es → e.label ≡ k → P e.tile) → P (tile_for es k)
unfolding tile_for
tile_for_lem P k [] x m q h = absurd (mathlib.Core.List.Memᴰ.not-nil m)
tile_for_lem P k (e ∷ es) x m q h = go (eqb e.label k) refl (mathlib.Core.List.Memᴰ.cases_cons m) (λ y. tile_for_lem P k es x y q (λ e m. h e (mathlib.Core.List.Memᴰ.tail m)))
  where
    go : (b : Bool) → eqb e.label k ≡ b → (x ≡ e) ⊎ Memᴰ x es → (Memᴰ x es → P (tile_for es k)) → P (cond b e.tile (tile_for es k))
    go true l y ih = h e (mathlib.Core.List.Memᴰ.head refl) (eqb-true e.label k l)
    go false l (inl y) ih = absurd (eqb-false e.label k l (sym (ap (λ (z : Entry). z.label) y) ∙ q))
    go false l (inr y) ih = ih y

delivered_booked_number : (e : Entry) → was_delivered e ≡ true → booked_number e ≡ []
delivered_booked_number e h = go (stage_of e) h
  where
    go : (s : Stage) → is_delivered s ≡ true → number_in s ≡ []
    go waiting h = refl
    go (bookedUnder n) h = absurd (false≢true h)
    go delivered h = refl

served_same : (f g : Floor) (t : ℕ) → g.settings ≡ f.settings → runs_of_of (view g) ≡ runs_of_of (view f) → Served f t → Served g t
served_same f g t s r T = record {
  on_floor = subst (λ (x : Settings). t < total x) (sym s) T.on_floor;
  fill_tile = subst (λ (x : Settings). bit x.sources t ≡ true) (sym s) T.fill_tile;
  live = subst (λ (x : Settings). LivePath x (runs_of_of (view g)) t) (sym s) (subst (λ (x : ℕ → Bool). LivePath f.settings x t) (sym r) T.live);
}

cat_find : {A : Type 0} (n : ℕ) (f : ℕ → List A) (x : A) → Memᴰ x (cat n f) → (t : ℕ) × (t < n) × Memᴰ x (f t)
unfolding cat
cat_find zero f x m = absurd (mathlib.Core.List.Memᴰ.not-nil m)
cat_find {A} (suc n) f x m = go (mathlib.Core.List.Memᴰ.append_cases (f n) m) (λ q. cat_find n f x q)
  where
    go : Memᴰ x (f n) ⊎ Memᴰ x (cat n f) → (Memᴰ x (cat n f) → (t : ℕ) × (t < n) × Memᴰ x (f t)) → (t : ℕ) × (t < suc n) × Memᴰ x (f t)
    go (inl q) ih = (n, omega arith, q)
    go (inr q) ih = let r = ih q in (r.0, omega (arith, r.1), r.2)

-- ---- between two cycles, n labels wait
record BetweenCycles (s : State) (n : ℕ) : Type 0 where
  fine : Fine s
  fits : plan_fits s.plan ≡ true
  none : All (λ e. booked_number e ≡ []) (used s.plan)
  empty : numbers_on (view s.floor) ≡ []
  served : All (λ e. waits e ≡ true → Served s.floor e.tile) (used s.plan)
  room : s.floor.counters.last + n < 2 ^ 32
  count : waiting_in s.plan ≡ n

-- the release of a cycle
module _ (s : State) (n : ℕ) (R : BetweenCycles s (suc n)) where
  abbrev p : Plan
  p = s.plan

  abbrev g : Floor
  g = s.floor

  abbrev k : ℕ
  k = (offer_answer p).label

  abbrev num : ℕ
  num = number_after g

  abbrev tile : ℕ
  tile = tile_for (used p) k

  abbrev s1 : State
  s1 = release_offered s

  sound : plan_sound p ≡ true
  sound = good_sound g.counters.last p R.fine.1

  upto : numbers_upto g.counters.last p ≡ true
  upto = good_upto g.counters.last p R.fine.1

  offered_ok : (offer_answer p).refusal ≡ 0
  offered_ok = offers_by p sound ∙ ap (λ (b : Bool). cond b 0 47) R.fits

  can_go : ready_label (used p) k ≡ true
  unfolding waiting_in
  can_go = let O = offers p offered_ok in O.can_go (O.goes_on (some_wait (used p) n R.count) R.none)

  own_none : refusal (release_tests p g k) ≡ 0
  unfolding release_tests refusal
  own_none = rw (sound, R.fine.0, upto, R.fits, can_go)

  next_number : num ≡ g.counters.last + 1
  unfolding number_after
  next_number = rw (lt-ltb (g.counters.last + 1) (2 ^ 32) (omega (arith, R.room)))

  entry : (e : Entry) × Memᴰ e (used p) × (e.label ≡ k) × (ready (used p) e ≡ true)
  entry = ready_entry p R.fits k can_go

  served_tile : Served g tile
  unfolding ready
  served_tile =
      tile_for_lem (Served g) k (used p) entry.0 entry.1 entry.2
      (λ e m q. all_mem (λ e. waits e ≡ true → Served g e.tile) m R.served (and_left (waits e) (all_of (done (used p)) (predecessors e)) (all_ready p R.fits k can_go e m q)))

  above : g.counters.last < num
  above = omega (arith, next_number)

  fit : num < 2 ^ 32
  fit = omega (arith, next_number, R.room)

  floor_is : s1.floor ≡ (outcome g (anywhere tile num)).floor
  unfolding calls_of floor_after
  floor_is = sym (same_step s (release k)).floor ∙ ap (λ (b : Bool). floor_after g (cond b (anywhere tile num ∷ []) [])) (eq-eqb (refusal (release_tests p g k)) 0 own_none)

  A : Added (view g) (view s1.floor) num
  A = subst (λ (h : Floor). Added (view g) (view h) num) (sym floor_is) (added g R.fine.0 R.empty tile num served_tile above fit)

  taken : (release_answer p g k).refusal ≡ 0
  unfolding release_answer release_booking
  taken = rw own_none (booking_taken g R.fine.0 R.empty tile num served_tile above fit)

  plan_is : s1.plan ≡ changed p (released k num)
  unfolding stepped release_answer
  plan_is = ap (λ (b : Bool). cond b (changed p (released k num)) p) (eq-eqb (release_answer p g k).refusal 0 taken)

  under : Under s1.plan k num
  under = subst (λ (q : Plan). Under q k num) (sym plan_is) (booked_under p k num)

  abbrev Rest : Entry → Type 0
  Rest e = e.label ≢ k → booked_number e ≡ []

  released_rest : (e : Entry) → booked_number e ≡ [] → Rest (released k num e)
  released_rest e h = go (by_test (eqb e.label k))
    where
      go : (eqb e.label k ≡ true) ⊎ (eqb e.label k ≡ false) → Rest (released k num e)
      go (inl q) = subst Rest (sym (released_there k num e (eqb-true e.label k q))) (λ d. absurd (d (eqb-true e.label k q)))
      go (inr q) = subst Rest (sym (released_other k num e (eqb-false e.label k q))) (λ d. h)

  rest : All Rest (used s1.plan)
  rest = subst (λ (q : Plan). All Rest (used q)) (sym plan_is) (changed_all (λ e. booked_number e ≡ []) Rest p (released k num) released_rest R.none)

  -- the tiles of the labels that still wait
  abbrev Tile : Entry → Type 0
  Tile e = waits e ≡ true → Served g e.tile

  released_tile : (e : Entry) → Tile e → Tile (released k num e)
  released_tile e h = go (by_test (eqb e.label k))
    where
      go : (eqb e.label k ≡ true) ⊎ (eqb e.label k ≡ false) → Tile (released k num e)
      go (inl q) = λ w. not_both w (ap waits (released_there k num e (eqb-true e.label k q)) ∙ ap is_waiting (booked_stage num e))
      go (inr q) = subst Tile (sym (released_other k num e (eqb-false e.label k q))) h

  tiles : All Tile (used s1.plan)
  tiles = subst (λ (q : Plan). All Tile (used q)) (sym plan_is) (changed_all Tile Tile p (released k num) released_tile R.served)

  waiting_less : waiting_in s1.plan ≡ n
  unfolding waiting_in ready
  waiting_less =
      let w = entry in
      let less = fewer_wait k num (used p) (labels_differ p R.fits) w.0 w.1 w.2 (and_left (waits w.0) (all_of (done (used p)) (predecessors w.0)) w.3) in
      let same : length (filter waits (used s1.plan)) ≡ length (filter waits (map (released k num) (used p))) =
      ap (λ (q : Plan). length (filter waits (used q))) plan_is ∙ ap (λ (es : List Entry). length (filter waits es)) (used_changed p (released k num)) in
      omega (arith, less, same, R.count)

  F1 : Fine s1 × (plan_fits s1.plan ≡ plan_fits p)
  F1 = step_fine s (release k) tt R.fine

  -- the rest of the cycle
  module _ (cs : List Step) (T : Cycle s1 cs) where
    abbrev calls : List Call
    calls = calls_in s1 cs

    abbrev now : State
    now = state_after s1 cs

    abbrev m1 : Model
    m1 = view s1.floor

    in_range_calls : All InRange calls
    in_range_calls = in_range_list s1 cs F1.0.0 T.in_range

    after_calls : floor_after s1.floor calls ≡ now.floor
    after_calls = (as_calls s1 cs).same_floor

    value_now : (l : List Layout) × (view now.floor ≡ with_layouts (rounds (rounds_in calls) m1) l)
    value_now = subst (λ (h : Floor). (l : List Layout) × (view h ≡ with_layouts (rounds (rounds_in calls) m1) l)) after_calls (quiet_rounds s1.floor F1.0.0 calls in_range_calls T.quiet)

    empty_now : numbers_on (view now.floor) ≡ []
    unfolding numbers_on view
    empty_now =
        ap numbers_on value_now.1
        ∙ emptied m1 A.sound A.on_live (omega (arith, count_upto m1 (runs_of_of m1), length_perm A.one)) (rounds_in calls) T.enough

    settings_now : now.floor.settings ≡ g.settings
    unfolding view
    settings_now = ap (λ (x : Model). x.settings) value_now.1 ∙ rounds_settings (rounds_in calls) m1 ∙ A.same_settings

    runs_now : runs_of_of (view now.floor) ≡ runs_of_of (view g)
    runs_now = ap runs_of_of value_now.1 ∙ rounds_runs (rounds_in calls) m1 A.sound ∙ A.same_runs

    last_now : now.floor.counters.last ≡ num
    unfolding view
    last_now = ap (λ (x : Model). x.counters.last) value_now.1 ∙ rounds_last (rounds_in calls) m1 ∙ A.last

    -- the number left the floor, so a round reported it
    reported_now : (j : ℕ) × (j < 4) × Memᴰ num (reported_by s1 cs j)
    reported_now =
        let L = list_keeps s1.floor F1.0.0 calls in_range_calls in
        let there : Memᴰ num (numbers_on m1) = mem_perm (Permᴰ.symm A.one) num (mathlib.Core.List.Memᴰ.head refl) in
        let left = mem_perm (Permᴰ.symm L.1.nums) num (mathlib.Core.List.Memᴰ.append_left (booked_in s1.floor calls) there) in
        let gone : numbers_on (view (floor_after s1.floor calls)) ≡ [] = ap (λ (h : Floor). numbers_on (view h)) after_calls ∙ empty_now in
        go (mathlib.Core.List.Memᴰ.append_cases (numbers_on (view (floor_after s1.floor calls))) left) gone
      where
        go : Memᴰ num (numbers_on (view (floor_after s1.floor calls))) ⊎ Memᴰ num (cat 4 (reported_in s1.floor calls)) → numbers_on (view (floor_after s1.floor calls)) ≡ []
            → (j : ℕ) × (j < 4) × Memᴰ num (reported_by s1 cs j)
        go (inl q) e = absurd (mathlib.Core.List.Memᴰ.not-nil (subst (Memᴰ num) e q))
        go (inr q) e = let r = cat_find 4 (reported_in s1.floor calls) num q in (r.0, r.1, subst (Memᴰ num) ((as_calls s1 cs).same_reported r.0) r.2)

    arrived : Arrived now.plan k
    arrived = let r = reported_now in round_marks s1 cs r.0 k num T.in_range F1.0 (F1.1 ∙ R.fits) under T.handed r.1 r.2

    still_rest : (l : List ℕ) (e : Entry) → Rest e → Rest (reported l e)
    still_rest l e h d = go (fewer l e)
      where
        go : (booked_number (reported l e) ≡ []) ⊎ (booked_number (reported l e) ≡ booked_number e) → booked_number (reported l e) ≡ []
        go (inl q) = q
        go (inr q) = q ∙ h (λ x. d (reported_label l e ∙ x))

    none_now : All (λ e. booked_number e ≡ []) (used now.plan)
    none_now =
        all_imp (λ e. (e.label ≡ k → was_delivered e ≡ true) × Rest e) (λ e. booked_number e ≡ []) (used now.plan) (λ e h. go e h.0 h.1 (by_test (eqb e.label k)))
        (all_both (λ e. e.label ≡ k → was_delivered e ≡ true) Rest (used now.plan) arrived (quiet_list Rest still_rest s1 cs T.quiet rest))
      where
        go : (e : Entry) → (e.label ≡ k → was_delivered e ≡ true) → Rest e → (eqb e.label k ≡ true) ⊎ (eqb e.label k ≡ false) → booked_number e ≡ []
        go e a b (inl q) = delivered_booked_number e (a (eqb-true e.label k q))
        go e a b (inr q) = b (eqb-false e.label k q)

    still_tile : (l : List ℕ) (e : Entry) → Tile e → Tile (reported l e)
    still_tile l e h w = subst (Served g) (sym ((reported_plain l).tile e)) (h (sym (reported_waits l e) ∙ w))

    served_now : All (λ e. waits e ≡ true → Served now.floor e.tile) (used now.plan)
    served_now =
        all_imp Tile (λ e. waits e ≡ true → Served now.floor e.tile) (used now.plan) (λ e h w. served_same g now.floor e.tile settings_now runs_now (h w))
        (quiet_list Tile still_tile s1 cs T.quiet tiles)

    between_now : BetweenCycles now n
    between_now =
        let F = list_fine s1 cs T.in_range F1.0 in
        record {
          fine = F.0;
          fits = F.1 ∙ F1.1 ∙ R.fits;
          none = none_now;
          empty = empty_now;
          served = served_now;
          room = omega (arith, last_now, next_number, R.room);
          count = quiet_waiting s1 cs T.quiet ∙ waiting_less;
        }

-- ---- cycles
all_arrived : (s : State) → BetweenCycles s 0 → All (λ e. was_delivered e ≡ true) (used s.plan)
unfolding waiting_in
all_arrived s R =
    all_imp (λ e. (waits e ≡ false) × (booked_number e ≡ [])) (λ e. was_delivered e ≡ true) (used s.plan) (λ e h. neither e h.0 h.1)
    (all_both (λ e. waits e ≡ false) (λ e. booked_number e ≡ []) (used s.plan) (none_wait (used s.plan) R.count) R.none)

-- all delivered, on an empty floor
record Idle (s : State) : Type 0 where
  well : well_formed s.floor ≡ true
  delivered : All (λ e. was_delivered e ≡ true) (used s.plan)
  empty : numbers_on (view s.floor) ≡ []

-- a cycle that is not needed: its release is refused
module _ (s : State) (I : Idle s) where
  abbrev label : ℕ
  label = (offer_answer s.plan).label

  not_taken : (release_answer s.plan s.floor label).refusal ≢ 0
  unfolding ready
  not_taken h =
      let P = passed s.plan s.floor label h in
      let w = ready_entry s.plan P.fits label P.is_ready in
      not_both (and_left (waits w.0) (all_of (done (used s.plan)) (predecessors w.0)) w.3) (delivered_waits w.0 (all_mem (λ e. was_delivered e ≡ true) w.1 I.delivered))

  unchanged : release_offered s ≡ s
  unfolding stepped release_answer
  unchanged = rw (ne_eqb (release_answer s.plan s.floor label).refusal 0 not_taken)

  idle_cycle : (cs : List Step) → Cycle s cs → Idle (state_after s cs)
  unfolding numbers_on view
  idle_cycle cs T =
      let m = view s.floor in
      let S = well_sound s.floor I.well in
      let calls = calls_in s cs in
      let in_range = in_range_list s cs I.well T.in_range in
      let same = (as_calls s cs).same_floor in
      let value = quiet_rounds s.floor I.well calls in_range T.quiet in
      record {
        well = subst (λ (h : Floor). well_formed h ≡ true) same (list_keeps s.floor I.well calls in_range).0;
        delivered = quiet_list (λ e. was_delivered e ≡ true) reported_delivered s cs T.quiet I.delivered;
        empty = ap (λ (h : Floor). numbers_on (view h)) (sym same) ∙ ap numbers_on value.1 ∙ stays_empty m S I.empty (rounds_in calls) T.enough;
      }

idle_cycles : (cycles : List (List Step)) (s : State) → Idle s → Cycles s cycles → Idle (after_cycles s cycles)
unfolding after_cycles
idle_cycles [] s I T = I
idle_cycles (cs ∷ cycles) s I T =
    let same = unchanged s I in
    idle_cycles cycles (state_after (release_offered s) cs) (subst (λ (x : State). Idle (state_after x cs)) (sym same) (idle_cycle s I cs (subst (λ (x : State). Cycle x cs) same T.0))) T.1

-- n labels wait
record EndedBy (n : ℕ) (s : State) (cycles : List (List Step)) : Type 0 where
  accepted : All (λ r. r ≡ 0) (take n (refusals_in s cycles))
  idle : Idle (after_cycles s cycles)

cycle_by_cycle : (n : ℕ) (cycles : List (List Step)) (s : State) → BetweenCycles s n → n ≤ length cycles → Cycles s cycles → EndedBy n s cycles
unfolding after_cycles refusals_in
cycle_by_cycle zero cycles s R l T = record { accepted = tt; idle = idle_cycles cycles s (record { well = R.fine.0; delivered = all_arrived s R; empty = R.empty }) T }
cycle_by_cycle (suc n) [] s R l T = absurd (omega arith)
cycle_by_cycle (suc n) (cs ∷ cycles) s R l T =
    let E = cycle_by_cycle n cycles (state_after (release_offered s) cs) (between_now s n R cs T.0) (omega arith) T.1 in
    record { accepted = (taken s n R, E.accepted); idle = E.idle }

-- ---- at first
none_upto : (last : ℕ) (p : Plan) → All (λ e. booked_number e ≡ []) (used p) → numbers_upto last p ≡ true
unfolding numbers_upto all_of
none_upto last p h = rw (none_booked_number (used p) h) refl

offer_sound : (p : Plan) → (offer_answer p).refusal ≡ 0 → plan_sound p ≡ true
unfolding offer_answer offer_tests
offer_sound p h = not-false (plan_sound p) (test_none (not (plan_sound p)) 30 _ (omega arith) h).0

pub ends : EndsPromise
ends s B cycles l T =
    let E = cycle_by_cycle (waiting_in s.plan) cycles s (record {
      fine = (B.well, sound_good s.floor.counters.last s.plan (offer_sound s.plan B.not_refused) (none_upto s.floor.counters.last s.plan B.none_booked));
      fits = offer_fits s.plan B.not_refused;
      none = B.none_booked;
      empty = B.empty;
      served = B.served;
      room = B.numbers_left;
      count = refl;
    }) l T in
    record { accepted = E.accepted; delivered = E.idle.delivered; empty = E.idle.empty }

-- ---- a schedule
pub handed_quiet : (n : ℕ) (s : State) → Quiet s.floor (calls_in s (handed_rounds n s))
unfolding handed_rounds calls_in calls_of stepped disturbs
handed_quiet zero s = tt
handed_quiet (suc n) s = (refl, handed_quiet n (stepped (stepped s (call round)) (report (round_answer s.floor).report)))

pub handed_rounds_lem : (n : ℕ) (s : State) → rounds_in (calls_in s (handed_rounds n s)) ≡ n
unfolding handed_rounds calls_in calls_of
handed_rounds_lem zero s = refl
handed_rounds_lem (suc n) s = omega (arith, handed_rounds_lem n (stepped (stepped s (call round)) (report (round_answer s.floor).report)))

pub handed_in : (n : ℕ) (s : State) → HandedIn s (handed_rounds n s)
unfolding handed_rounds reports_of report_of_call
handed_in zero s = tt
handed_in (suc n) s = ((mathlib.Core.List.Memᴰ.head refl, tt), (tt, handed_in n (stepped (stepped s (call round)) (report (round_answer s.floor).report))))

pub handed_in_range : (n : ℕ) (s : State) → All StepInRange (handed_rounds n s)
unfolding handed_rounds
handed_in_range zero s = tt
handed_in_range (suc n) s = (tt, (tt, handed_in_range n (stepped (stepped s (call round)) (report (round_answer s.floor).report))))

pub scheduled_cycles : (n : ℕ) (s : State) → Cycles s (schedule n s)
unfolding schedule
scheduled_cycles zero s = tt
scheduled_cycles (suc n) s =
    let r = release_offered s in
    let k = bound r.floor.settings 1 in
    (record { in_range = handed_in_range k r; quiet = handed_quiet k r; handed = handed_in k r; enough = omega (arith, handed_rounds_lem k r) }, scheduled_cycles n (state_after r (handed_rounds k r)))

pub scheduled_length : (n : ℕ) (s : State) → length (schedule n s) ≡ n
unfolding schedule
scheduled_length zero s = refl
scheduled_length (suc n) s = let r = release_offered s in ap suc (scheduled_length n (state_after r (handed_rounds (bound r.floor.settings 1) r)))

pub scheduled : SchedulePromise
scheduled s B = let n = waiting_in s.plan in ends s B (schedule n s) (omega (arith, scheduled_length n s)) (scheduled_cycles n s)
