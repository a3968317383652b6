-- Lists of calls on floors in memory: what each call and each list keeps.
use mathlib.Core.Path.{◌≡◌, refl, sym, ap, ◌∙◌, subst, fun_ext}
use mathlib.Core.Logic.{◌⊎◌, inl, inr, ◌≢◌}
use mathlib.Core.Bool.{Bool, true, false, cond, not, ◌&&◌, true≢false, false≢true}
use mathlib.Core.List.{List, [], ◌∷◌, ◌++◌, append_assoc}
use Prim.Native.Nat.{ℕ, zero, suc, ◌+◌, ◌^◌, ◌≤◌, ◌<◌}
use native.Mathlib.Omega.{arith}
use native.Mathlib.Decide.{dec_le}
use lib.Dec.{ltb, eqb}
use lib.ListN.{length, get_or, take, get_or-eq_default}
use borrow.Author.Tests.{eqb-true, eqb-false, ne_eqb, lt-ltb, le-ltb, not-true, not-false}
use Rattle.laws.specs.Define.{tab, all_below, bit, refusal}
use Rattle.laws.specs.Every.{All}
use Rattle.laws.proofs.Tests.{by_test, refusal_none, test_none}
use Rattle.laws.proofs.Tables.{tab_at, tab_off, below_at}
use Rattle.floor.specs.declared.Canister.{Canister}
use Rattle.floor.specs.declared.Booking.{Booking}
use Rattle.floor.specs.declared.Delivery.{Delivery}
use Rattle.floor.specs.declared.Layout.{Layout}
use Rattle.floor.specs.declared.Floor.{Floor}
use Rattle.floor.specs.declared.Report.{Report}
use Rattle.floor.specs.Settings.{total}
use Rattle.floor.specs.Layouts.{set_of}
use Rattle.floor.specs.Model.{Model, tile_of, runs_of_of, with_tile, with_layouts}
use Rattle.floor.specs.Memory.{view, pack}
use Rattle.floor.specs.Well.{well_formed}
use Rattle.floor.specs.Route.{route}
use Rattle.floor.specs.Signal.{signal, signal_of, shown_of}
use Rattle.floor.specs.Move.{move, move_tile, arrivals, delivered_by}
use Rattle.floor.specs.Calls.{refusal_of, answer, book_tests, booked, book_answer, stop_tests, stopped, stop_answer, repair_tests, repaired, repair_answer, keep_tests, kept_under, keep_answer, name_held_tests, forgotten, forget_answer, recalled, recall_answer, after_round, delivered, delivery_of, no_delivery, report_of, round_answer}
use Rattle.floor.specs.Anywhere.{anywhere_tests, placed_at, anywhere_answer}
use Rattle.floor.specs.Bookings.{single, floor_singly, entries_singly, too_long_of, accepted_in, list_answer, list_after}
use Rattle.floor.specs.Reports.{listed, listed_at}
use Rattle.floor.specs.Demand3.{Call, book, anywhere, stop, repair, round, keep, forget, recall, list, InRange, outcome, floor_after, booked_in, reported_in, recall_set, recall_makes, runs_by, latest, runs_after_of, is_round, changes_running, disturbs, Quiet, rounds_in}
use Rattle.floor.proofs.Sound.{Sound}
use Rattle.floor.proofs.Pack.{well_sound}
use Rattle.floor.proofs.Capacity.{sound_well, view_packed}
use Rattle.floor.proofs.Deliveries.{delivered_few}
use Rattle.floor.proofs.Fields.{delivered_to_lem, delivered_length, round_runs}
use Rattle.floor.proofs.Clearing.{rounds}
use Rattle.floor.proofs.Calls.{Keeps, none, Accepted, book_keeps, anywhere_accepts, anywhere_keeps, stop_keeps, repair_keeps, round_keeps, same_floor, keeps_join, book_runs, stop_runs, repair_runs}
use Rattle.floor.proofs.SoundLayouts.{keep_keeps, forget_keeps}
use Rattle.floor.proofs.Stages.{recall_keeps, recall_runs, recall_none}

-- one list of calls after another
pub after_both : (f : Floor) (cs ds : List Call) → floor_after f (cs ++ ds) ≡ floor_after (floor_after f cs) ds
unfolding floor_after
after_both f [] ds = refl
after_both f (c ∷ cs) ds = after_both (outcome f c).floor cs ds

pub booked_both : (f : Floor) (cs ds : List Call) → booked_in f (cs ++ ds) ≡ booked_in f cs ++ booked_in (floor_after f cs) ds
unfolding floor_after booked_in
booked_both f [] ds = refl
booked_both f (c ∷ cs) ds = ap (λ l. (outcome f c).booked ++ l) (booked_both (outcome f c).floor cs ds) ∙ sym (append_assoc (outcome f c).booked _ _)

pub reported_both : (f : Floor) (cs ds : List Call) (k : ℕ) → reported_in f (cs ++ ds) k ≡ reported_in f cs k ++ reported_in (floor_after f cs) ds k
unfolding floor_after reported_in
reported_both f [] ds k = refl
reported_both f (c ∷ cs) ds k = ap (λ l. (outcome f c).reported k ++ l) (reported_both (outcome f c).floor cs ds k) ∙ sym (append_assoc ((outcome f c).reported k) _ _)

-- from f to g, with the numbers that came and went
abbrev pub KeepsWell : Floor → Floor → List ℕ → (ℕ → List ℕ) → Type 0
KeepsWell f g added removed = (well_formed g ≡ true) × Keeps (view f) (view g) added removed

-- the first `count` of the report's four numbers are all that were delivered
pub listed_all : (l : List ℕ) → length l ≤ 4 → take (length l) (tab 4 (λ k. get_or l k 0)) ≡ l
unfolding tab
listed_all [] h = refl
listed_all (a ∷ []) h = refl
listed_all (a ∷ b ∷ []) h = refl
listed_all (a ∷ b ∷ c ∷ []) h = refl
listed_all (a ∷ b ∷ c ∷ d ∷ []) h = refl
listed_all (a ∷ b ∷ c ∷ d ∷ e ∷ l) h = absurd (omega arith)

-- each hopper's part of the report, beyond the last one too
pub report_at : (m : Model) → Sound m → (k : ℕ) → get_or (report_of m).deliveries k no_delivery ≡ delivery_of (delivered_to_lem m k)
unfolding report_of delivery_of tab
report_at m S k = go (dec_le (suc k) 4)
  where
    each : ℕ → Delivery
    each k = delivery_of (delivered_to_lem m k)

    go : Dec (k < 4) → get_or (tab 4 each) k no_delivery ≡ each k
    go (yes h) = tab_at 4 each k no_delivery h
    go (no h) =
        let q : 4 ≤ k = omega arith in
        tab_off 4 each k no_delivery q
        ∙ sym (ap delivery_of (get_or-eq_default (delivered m) [] (omega (arith, delivered_length m S.len, S.measured.hoppers_few))))

module _ (f : Floor) (w : well_formed f ≡ true) where
  S : Sound (view f)
  S = well_sound f w

  unchanged : KeepsWell f f [] none
  unchanged = (w, same_floor (view f) S)

  packed : (n : Model) (added : List ℕ) (removed : ℕ → List ℕ) → Keeps (view f) n added removed → KeepsWell f (pack n) added removed
  packed n added removed K = (sound_well n K.well, subst (λ (x : Model). Keeps (view f) x added removed) (sym (view_packed n K.well)) K)

  -- the answer of a call with tests: accepted or not
  module _ (tests : List (Bool × ℕ)) (pos : All (λ x. 0 < x.1) tests) where
    pub passed : eqb (refusal_of f tests) 0 ≡ true → Accepted tests
    unfolding refusal_of
    passed e = refusal_none tests pos (test_none (not (well_formed f)) 30 tests (omega arith) (eqb-true (refusal_of f tests) 0 e)).1

    by_answer : (P : Bool → Type 0) → (Accepted tests → P true) → P false → P (eqb (refusal_of f tests) 0)
    by_answer P yes' no' = go (eqb (refusal_of f tests) 0) refl
      where
        go : (b : Bool) → eqb (refusal_of f tests) 0 ≡ b → P b
        go true e = yes' (passed e)
        go false e = no'

    answer_keeps : (n : Model) (added : Bool → List ℕ) → added false ≡ [] → (Accepted tests → Keeps (view f) n (added true) none)
        → KeepsWell f (cond (eqb (refusal_of f tests) 0) (pack n) f) (added (eqb (refusal_of f tests) 0)) none
    answer_keeps n added e K =
        by_answer (λ b. KeepsWell f (cond b (pack n) f) (added b) none) (λ T. packed n (added true) none (K T)) (subst (λ (l : List ℕ). KeepsWell f f l none) (sym e) unchanged)

    -- how a tile runs after it; `same` tells whether the call named that tile
    answer_runs : (n : Model) (t : ℕ) (same r : Bool) → Sound (view f) → (Accepted tests → Sound n) → (Accepted tests → runs_of_of n t ≡ cond same r (runs_of_of (view f) t))
        → runs_of_of (view (cond (eqb (refusal_of f tests) 0) (pack n) f)) t ≡ cond (eqb (refusal_of f tests) 0 && same) r (runs_of_of (view f) t)
    answer_runs n t same r S' sn h =
        by_answer (λ b. runs_of_of (view (cond b (pack n) f)) t ≡ cond (b && same) r (runs_of_of (view f) t))
        (λ T. ap (λ (x : Model). runs_of_of x t) (view_packed n (sn T)) ∙ h T) refl

  -- a round on a well-formed floor is accepted
  pub round_accepted : refusal_of f [] ≡ 0
  unfolding refusal_of refusal
  round_accepted = rw w

  pub round_floor : (outcome f round).floor ≡ pack (after_round (view f))
  unfolding outcome round_answer
  round_floor = rw round_accepted

  pub round_report : (round_answer f).report ≡ report_of (view f)
  unfolding round_answer
  round_report = rw round_accepted

  pub round_reported : (outcome f round).reported ≡ delivered_to_lem (view f)
  unfolding outcome listed_at delivery_of
  round_reported = fun_ext reported
    where
      reported : (k : ℕ) → listed_at (round_answer f).report k ≡ delivered_to_lem (view f) k
      reported k = ap (λ (r : Report). listed_at r k) round_report ∙ ap listed (report_at (view f) S k) ∙ listed_all (delivered_to_lem (view f) k) (delivered_few (view f) S k)

  pub view_round : (c : Call) → is_round c ≡ true → view (outcome f c).floor ≡ after_round (view f)
  view_round (book t c) e = absurd (false≢true e)
  view_round (anywhere t number) e = absurd (false≢true e)
  view_round (stop t) e = absurd (false≢true e)
  view_round (repair t) e = absurd (false≢true e)
  view_round (keep name) e = absurd (false≢true e)
  view_round (forget name) e = absurd (false≢true e)
  view_round (recall name) e = absurd (false≢true e)
  view_round (list l) e = absurd (false≢true e)
  view_round round e = ap view round_floor ∙ view_packed (after_round (view f)) (round_keeps (view f) S).well

  -- ---- a booking
  booking_keeps : (t : ℕ) (c : Canister) → c.number < 2 ^ 32 → KeepsWell f (book_answer f t c).floor (cond (eqb (book_answer f t c).refusal 0) (c.number ∷ []) []) none
  unfolding book_answer answer book_tests
  booking_keeps t c h = answer_keeps (book_tests (view f) t c) (omega arith) (booked (view f) t c) (λ b. cond b (c.number ∷ []) []) refl (λ T. book_keeps (view f) S t c T h)

  never : (t : ℕ) (b : Bool) → cond (b && false) true (runs_of_of (view f) t) ≡ runs_of_of (view f) t
  never t true = refl
  never t false = refl

  booking_runs : (u : ℕ) (c : Canister) → c.number < 2 ^ 32 → (t : ℕ) → runs_of_of (view (book_answer f u c).floor) t ≡ runs_of_of (view f) t
  unfolding book_answer answer book_tests
  booking_runs u c h t =
      answer_runs (book_tests (view f) u c) (omega arith) (booked (view f) u c) t false true S (λ T. (book_keeps (view f) S u c T h).well) (λ T. book_runs (view f) S u c T t) ∙ never t (eqb (refusal_of f (book_tests (view f) u c)) 0)

-- ---- lists of bookings
-- more than 64 entries are refused, and nothing is booked; others are booked one after another
pub list_refused : (f : Floor) (l : List Booking) → too_long_of (length l) ≡ true
    → ((outcome f (list l)).refusal ≡ 42) × ((outcome f (list l)).floor ≡ f) × ((outcome f (list l)).booked ≡ []) × ((outcome f (list l)).reported ≡ none)
unfolding outcome list_answer
list_refused f l e = (rw e, rw e, rw e, refl)

pub list_made : (f : Floor) (l : List Booking) → too_long_of (length l) ≡ false
    → ((outcome f (list l)).refusal ≡ 0) × ((outcome f (list l)).floor ≡ floor_singly f l) × ((outcome f (list l)).booked ≡ accepted_in (entries_singly f l)) × ((outcome f (list l)).reported ≡ none)
unfolding outcome list_answer list_after
list_made f l e = (rw e, rw e, rw e, refl)

singly_keeps : (f : Floor) → well_formed f ≡ true → (l : List Booking) → InRange (list l) → KeepsWell f (floor_singly f l) (accepted_in (entries_singly f l)) none
unfolding floor_singly entries_singly
singly_keeps f w [] h = unchanged f w
singly_keeps f w (b ∷ l) h =
    let g = (single f b).floor in
    let K = booking_keeps f w b.tile b.canister h.0 in
    let J = singly_keeps g K.0 l h.1 in
    (J.0, keeps_join (view f) (view g) (view (floor_singly g l)) (cond (eqb (single f b).refusal 0) (b.canister.number ∷ []) []) none (accepted_in (entries_singly g l)) none K.1 J.1)

-- what a booking keeps of a well-formed floor, a list of bookings keeps
module _ (P : Floor → Type 0) (step : (g : Floor) → well_formed g ≡ true → (t : ℕ) (c : Canister) → InRange (book t c) → P g → P (outcome g (book t c)).floor) where
  each_booking : (f : Floor) → well_formed f ≡ true → (l : List Booking) → InRange (list l) → P f → P (floor_singly f l)
  unfolding floor_singly outcome
  each_booking f w [] h p = p
  each_booking f w (b ∷ l) h p = each_booking (single f b).floor (booking_keeps f w b.tile b.canister h.0).0 l h.1 (step f w b.tile b.canister h.0 p)

  pub through_list : (f : Floor) → well_formed f ≡ true → (l : List Booking) → InRange (list l) → P f → P (outcome f (list l)).floor
  through_list f w l h p = go (by_test (too_long_of (length l)))
    where
      go : (too_long_of (length l) ≡ true) ⊎ (too_long_of (length l) ≡ false) → P (outcome f (list l)).floor
      go (inl e) = subst P (sym (list_refused f l e).1) p
      go (inr e) = subst P (sym (list_made f l e).1) (each_booking f w l h p)

list_call_keeps : (f : Floor) → well_formed f ≡ true → (l : List Booking) → InRange (list l) → KeepsWell f (outcome f (list l)).floor (outcome f (list l)).booked (outcome f (list l)).reported
list_call_keeps f w l h = go (by_test (too_long_of (length l)))
  where
    go : (too_long_of (length l) ≡ true) ⊎ (too_long_of (length l) ≡ false) → KeepsWell f (outcome f (list l)).floor (outcome f (list l)).booked (outcome f (list l)).reported
    go (inl e) = let k = list_refused f l e in rw (k.1, k.2, k.3) (unchanged f w)
    go (inr e) = let k = list_made f l e in rw (k.1, k.2, k.3) (singly_keeps f w l h)

-- a refused booking gives the floor back
pub single_refused : (f : Floor) (b : Booking) → eqb (single f b).refusal 0 ≡ false → (single f b).floor ≡ f
unfolding book_answer answer
single_refused f b e = rw e

-- all of them refused
none_accepted : (f : Floor) (l : List Booking) → ltb 0 (length (accepted_in (entries_singly f l))) ≡ false → floor_singly f l ≡ f
unfolding floor_singly entries_singly
none_accepted f [] h = refl
none_accepted f (b ∷ l) h = go (eqb (single f b).refusal 0) refl h (none_accepted g l)
  where
    g : Floor
    g = (single f b).floor

    rest : List ℕ
    rest = accepted_in (entries_singly g l)

    go : (x : Bool) → eqb (single f b).refusal 0 ≡ x → ltb 0 (length (cond x (b.canister.number ∷ []) [] ++ rest)) ≡ false → (ltb 0 (length rest) ≡ false → floor_singly g l ≡ g) → floor_singly g l ≡ f
    go true e k ih = absurd (true≢false (sym (lt-ltb 0 (suc (length rest)) (omega arith)) ∙ k))
    go false e k ih = ih k ∙ single_refused f b e

-- ---- one call
module _ (f : Floor) (w : well_formed f ≡ true) where
  pub call_keeps : (c : Call) → InRange c → KeepsWell f (outcome f c).floor (outcome f c).booked (outcome f c).reported
  unfolding outcome anywhere_answer stop_answer repair_answer keep_answer forget_answer recall_answer answer anywhere_tests stop_tests repair_tests keep_tests name_held_tests
  call_keeps (book t c) h = booking_keeps f w t c h
  call_keeps (anywhere t number) h =
      answer_keeps f w (anywhere_tests (view f) t number) (omega arith) (booked (view f) t (placed_at (view f) t number)) (λ b. cond b (number ∷ []) []) refl (λ T. anywhere_keeps (view f) (S f w) t number T h)
  call_keeps (stop t) h = answer_keeps f w (stop_tests (view f) t) (omega arith) (with_tile (view f) t (stopped (tile_of (view f) t))) (λ _. []) refl (stop_keeps (view f) (S f w) t)
  call_keeps (repair t) h = answer_keeps f w (repair_tests (view f) t) (omega arith) (with_tile (view f) t (repaired (tile_of (view f) t))) (λ _. []) refl (repair_keeps (view f) (S f w) t)
  call_keeps round h =
      subst (λ (g : Floor). KeepsWell f g [] (outcome f round).reported) (sym (round_floor f w))
      (subst (λ (l : ℕ → List ℕ). KeepsWell f (pack (after_round (view f))) [] l) (sym (round_reported f w)) (packed f w (after_round (view f)) [] (delivered_to_lem (view f)) (round_keeps (view f) (S f w))))
  call_keeps (keep name) h = answer_keeps f w (keep_tests (view f).layouts name) (omega arith) (kept_under (view f) name) (λ _. []) refl (keep_keeps (view f) (S f w) name)
  call_keeps (forget name) h = answer_keeps f w (name_held_tests (view f).layouts name) (omega arith) (forgotten (view f) name) (λ _. []) refl (λ _. forget_keeps (view f) (S f w) name)
  call_keeps (recall name) h = answer_keeps f w (name_held_tests (view f).layouts name) (omega arith) (recalled (view f) (set_of (view f).layouts name)) (λ _. []) refl (recall_keeps (view f) (S f w) name)
  call_keeps (list l) h = list_call_keeps f w l h

  -- which tiles run after it
  pub call_runs : (c : Call) → InRange c → (t : ℕ) → runs_of_of (view (outcome f c).floor) t ≡ runs_by f c t (runs_of_of (view f) t)
  unfolding outcome anywhere_answer stop_answer repair_answer keep_answer forget_answer recall_answer answer anywhere_tests stop_tests repair_tests keep_tests name_held_tests kept_under forgotten runs_by recall_makes recall_set view
  call_runs (book u c) h t = booking_runs f w u c h t
  call_runs (anywhere u number) h t =
      answer_runs f w (anywhere_tests (view f) u number) (omega arith) (booked (view f) u (placed_at (view f) u number)) t false true (S f w) (λ T. (anywhere_keeps (view f) (S f w) u number T h).well)
      (λ T. book_runs (view f) (S f w) u (placed_at (view f) u number) (anywhere_accepts (view f) u number T) t) ∙ never f w t (eqb (refusal_of f (anywhere_tests (view f) u number)) 0)
  call_runs (stop u) h t =
      answer_runs f w (stop_tests (view f) u) (omega arith) (with_tile (view f) u (stopped (tile_of (view f) u))) t (eqb u t) false (S f w) (λ T. (stop_keeps (view f) (S f w) u T).well) (λ T. stop_runs (view f) (S f w) u T t)
  call_runs (repair u) h t =
      answer_runs f w (repair_tests (view f) u) (omega arith) (with_tile (view f) u (repaired (tile_of (view f) u))) t (eqb u t) true (S f w) (λ T. (repair_keeps (view f) (S f w) u T).well) (λ T. repair_runs (view f) (S f w) u T t)
  call_runs round h t = ap (λ (x : Model). runs_of_of x t) (view_round f w round refl) ∙ round_runs (view f) (S f w).len t
  call_runs (keep name) h t =
      by_answer f w (keep_tests (view f).layouts name) (omega arith) (λ b. runs_of_of (view (cond b (pack (kept_under (view f) name)) f)) t ≡ runs_of_of (view f) t)
      (λ T. ap (λ (x : Model). runs_of_of x t) (view_packed (kept_under (view f) name) (keep_keeps (view f) (S f w) name T).well)) refl
  call_runs (forget name) h t =
      by_answer f w (name_held_tests (view f).layouts name) (omega arith) (λ b. runs_of_of (view (cond b (pack (forgotten (view f) name)) f)) t ≡ runs_of_of (view f) t)
      (λ T. ap (λ (x : Model). runs_of_of x t) (view_packed (forgotten (view f) name) (forget_keeps (view f) (S f w) name).well)) refl
  call_runs (recall name) h t =
      let set = set_of (view f).layouts name in
      by_answer f w (name_held_tests (view f).layouts name) (omega arith)
      (λ b. runs_of_of (view (cond b (pack (recalled (view f) set)) f)) t ≡ cond (b && (ltb t (total f.settings) && cond (bit set t) (not (runs_of_of (view f) t)) (runs_of_of (view f) t))) (bit set t) (runs_of_of (view f) t))
      (λ T. ap (λ (x : Model). runs_of_of x t) (view_packed (recalled (view f) set) (recall_keeps (view f) (S f w) name T).well) ∙ recall_runs (view f) (S f w) set t) refl
  call_runs (list l) h t = through_list (λ g. runs_of_of (view g) t ≡ runs_of_of (view f) t) (λ g k u c n e. booking_runs g k u c n t ∙ e) f w l h refl

  -- a refused call gives the floor back
  refused : (tests : List (Bool × ℕ)) (n : Model) → refusal_of f tests ≢ 0 → cond (eqb (refusal_of f tests) 0) (pack n) f ≡ f
  refused tests n h = rw (ne_eqb (refusal_of f tests) 0 h)

  pub call_refused : (c : Call) → is_round c ≡ false → (outcome f c).refusal ≢ 0 → (outcome f c).floor ≡ f
  unfolding outcome book_answer anywhere_answer stop_answer repair_answer keep_answer forget_answer recall_answer answer
  call_refused (book t c) r h = refused (book_tests (view f) t c) (booked (view f) t c) h
  call_refused (anywhere t number) r h = refused (anywhere_tests (view f) t number) (booked (view f) t (placed_at (view f) t number)) h
  call_refused (stop t) r h = refused (stop_tests (view f) t) (with_tile (view f) t (stopped (tile_of (view f) t))) h
  call_refused (repair t) r h = refused (repair_tests (view f) t) (with_tile (view f) t (repaired (tile_of (view f) t))) h
  call_refused round r h = absurd (true≢false r)
  call_refused (keep name) r h = refused (keep_tests (view f).layouts name) (kept_under (view f) name) h
  call_refused (forget name) r h = refused (name_held_tests (view f).layouts name) (forgotten (view f) name) h
  call_refused (recall name) r h = refused (name_held_tests (view f).layouts name) (recalled (view f) (set_of (view f).layouts name)) h
  call_refused (list l) r h = go (by_test (too_long_of (length l)))
    where
      go : (too_long_of (length l) ≡ true) ⊎ (too_long_of (length l) ≡ false) → (outcome f (list l)).floor ≡ f
      go (inl e) = (list_refused f l e).1
      go (inr e) = absurd (h (list_made f l e).0)

  -- ---- calls that change the layouts at most
  abbrev pub Relaid : Call → Type 0
  Relaid c = (l : List Layout) × (view (outcome f c).floor ≡ with_layouts (view f) l)

  relaid_refused : (c : Call) → is_round c ≡ false → (outcome f c).refusal ≢ 0 → Relaid c
  relaid_refused c r h = ((view f).layouts, ap view (call_refused c r h))

  pub relaid_keep : (name : ℕ) → Relaid (keep name)
  unfolding outcome keep_answer answer keep_tests kept_under
  relaid_keep name = by_answer f w (keep_tests (view f).layouts name) (omega arith) (λ b. (l : List Layout) × (view (cond b (pack (kept_under (view f) name)) f) ≡ with_layouts (view f) l))
      (λ T. ((kept_under (view f) name).layouts, view_packed (kept_under (view f) name) (keep_keeps (view f) (S f w) name T).well)) ((view f).layouts, refl)

  pub relaid_forget : (name : ℕ) → Relaid (forget name)
  unfolding outcome forget_answer answer name_held_tests forgotten
  relaid_forget name = by_answer f w (name_held_tests (view f).layouts name) (omega arith) (λ b. (l : List Layout) × (view (cond b (pack (forgotten (view f) name)) f) ≡ with_layouts (view f) l))
      (λ T. ((forgotten (view f) name).layouts, view_packed (forgotten (view f) name) (forget_keeps (view f) (S f w) name).well)) ((view f).layouts, refl)

  not_made : (name t : ℕ) → ltb t (total f.settings) ≡ true → recall_makes f name t ≡ false → cond (bit (set_of (view f).layouts name) t) (not (runs_of_of (view f) t)) (runs_of_of (view f) t) ≡ false
  unfolding recall_makes recall_set
  not_made name t l h = rw l at h

  -- a recall that makes no stop and no repair
  pub relaid_recall : (name : ℕ) → changes_running f (recall name) ≡ false → Relaid (recall name)
  unfolding changes_running outcome recall_answer answer name_held_tests view
  relaid_recall name q = go (eqb (refusal_of f (name_held_tests (view f).layouts name)) 0) refl
    where
      set : ℕ
      set = set_of (view f).layouts name

      idle : Bool
      idle = all_below (λ t. not (recall_makes f name t)) (total f.settings)

      go : (b : Bool) → eqb (refusal_of f (name_held_tests (view f).layouts name)) 0 ≡ b → (l : List Layout) × (view (cond b (pack (recalled (view f) set)) f) ≡ with_layouts (view f) l)
      go false e = ((view f).layouts, refl)
      go true e =
          let T = passed f w (name_held_tests (view f).layouts name) (omega arith) e in
          let all : idle ≡ true = not-false idle (rw e at q) in (
            (view f).layouts,
            view_packed (recalled (view f) set) (recall_keeps (view f) (S f w) name T).well
                ∙ recall_none (view f) (S f w) set (λ t h. not_made name t (lt-ltb t (total f.settings) h) (not-true (recall_makes f name t) (below_at (λ t. not (recall_makes f name t)) (total f.settings) all t h))),
          )

  -- a list call without an accepted entry
  quiet_list : (l : List Booking) → disturbs f (list l) ≡ false → (outcome f (list l)).floor ≡ f
  unfolding disturbs
  quiet_list l q = go (by_test (too_long_of (length l)))
    where
      go : (too_long_of (length l) ≡ true) ⊎ (too_long_of (length l) ≡ false) → (outcome f (list l)).floor ≡ f
      go (inl e) = (list_refused f l e).1
      go (inr e) = let k = list_made f l e in k.1 ∙ none_accepted f l (ap (λ (b : List ℕ). ltb 0 (length b)) (sym k.2) ∙ q)

  -- a call that is neither a round nor an accepted booking, stop or repair
  quiet_call : (c : Call) → is_round c ≡ false → disturbs f c ≡ false → Relaid c
  unfolding disturbs changes_running
  quiet_call (book t c) r q = relaid_refused (book t c) r (eqb-false (outcome f (book t c)).refusal 0 q)
  quiet_call (anywhere t number) r q = relaid_refused (anywhere t number) r (eqb-false (outcome f (anywhere t number)).refusal 0 q)
  quiet_call (stop t) r q = relaid_refused (stop t) r (eqb-false (outcome f (stop t)).refusal 0 q)
  quiet_call (repair t) r q = relaid_refused (repair t) r (eqb-false (outcome f (repair t)).refusal 0 q)
  quiet_call round r q = absurd (true≢false r)
  quiet_call (keep name) r q = relaid_keep name
  quiet_call (forget name) r q = relaid_forget name
  quiet_call (recall name) r q = relaid_recall name q
  quiet_call (list l) r q = ((view f).layouts, ap view (quiet_list l q))

-- ---- lists
pub list_keeps : (f : Floor) → well_formed f ≡ true → (cs : List Call) → All InRange cs → KeepsWell f (floor_after f cs) (booked_in f cs) (reported_in f cs)
unfolding floor_after booked_in reported_in
list_keeps f w [] h = unchanged f w
list_keeps f w (c ∷ cs) h =
    let g = (outcome f c).floor in
    let K = call_keeps f w c h.0 in
    let J = list_keeps g K.0 cs h.1 in
    (J.0, keeps_join (view f) (view g) (view (floor_after g cs)) (outcome f c).booked (outcome f c).reported (booked_in g cs) (reported_in g cs) K.1 J.1)

-- the history of a tile tells how it runs now
pub list_runs : (f : Floor) → well_formed f ≡ true → (cs : List Call) → All InRange cs → (t : ℕ) → latest f cs t (runs_of_of (view f) t) ≡ runs_of_of (view (floor_after f cs)) t
unfolding latest floor_after
list_runs f w [] h t = refl
list_runs f w (c ∷ cs) h t =
    ap (latest (outcome f c).floor cs t) (sym (call_runs f w c h.0 t)) ∙ list_runs (outcome f c).floor (call_keeps f w c h.0).0 cs h.1 t

-- ---- what runs after a further list
latest_both : (f : Floor) (cs ds : List Call) (t : ℕ) (r : Bool) → latest f (cs ++ ds) t r ≡ latest (floor_after f cs) ds t (latest f cs t r)
unfolding latest floor_after
latest_both f [] ds t r = refl
latest_both f (c ∷ cs) ds t r = latest_both (outcome f c).floor cs ds t (runs_by f c t r)

makes_beyond : (f : Floor) (name t : ℕ) → total f.settings ≤ t → recall_makes f name t ≡ false
unfolding recall_makes
makes_beyond f name t h = rw (le-ltb t (total f.settings) h)

-- a call that is no accepted stop or repair changes nothing that runs
runs_by_none : (f : Floor) (c : Call) → disturbs f c ≡ false → (t : ℕ) (r : Bool) → runs_by f c t r ≡ r
unfolding disturbs changes_running runs_by
runs_by_none f (book u c) q t r = refl
runs_by_none f (anywhere u number) q t r = refl
runs_by_none f (stop u) q t r = rw q
runs_by_none f (repair u) q t r = rw q
runs_by_none f round q t r = refl
runs_by_none f (keep name) q t r = refl
runs_by_none f (forget name) q t r = refl
runs_by_none f (recall name) q t r = go (eqb (outcome f (recall name)).refusal 0) q
  where
    idle : Bool
    idle = all_below (λ t. not (recall_makes f name t)) (total f.settings)

    makes_none : idle ≡ true → recall_makes f name t ≡ false
    makes_none h = pick (dec_le (suc t) (total f.settings))
      where
        pick : Dec (t < total f.settings) → recall_makes f name t ≡ false
        pick (yes k) = not-true (recall_makes f name t) (below_at (λ t. not (recall_makes f name t)) (total f.settings) h t k)
        pick (no k) = makes_beyond f name t (omega arith)

    go : (x : Bool) → (x && not idle) ≡ false → cond (x && recall_makes f name t) (bit (recall_set f name) t) r ≡ r
    go true h = rw (makes_none (not-false idle h))
    go false h = refl
runs_by_none f (list l) q t r = refl

quiet_latest : (f : Floor) (ds : List Call) → Quiet f ds → (t : ℕ) (r : Bool) → latest f ds t r ≡ r
unfolding latest
quiet_latest f [] q t r = refl
quiet_latest f (c ∷ ds) q t r = ap (latest (outcome f c).floor ds t) (runs_by_none f c q.0 t r) ∙ quiet_latest (outcome f c).floor ds q.1 t r

pub quiet_runs : (f : Floor) (cs ds : List Call) → Quiet (floor_after f cs) ds → (t : ℕ) → runs_after_of f (cs ++ ds) t ≡ runs_after_of f cs t
unfolding runs_after_of
quiet_runs f cs ds q t = latest_both f cs ds t (runs_of_of (view f) t) ∙ quiet_latest (floor_after f cs) ds q t (latest f cs t (runs_of_of (view f) t))

-- rounds don't look at layouts
round_relaid : (m : Model) (l : List Layout) → after_round (with_layouts m l) ≡ with_layouts (after_round m) l
unfolding after_round route signal move move_tile arrivals delivered_by signal_of shown_of
round_relaid m l = refl

rounds_relaid : (n : ℕ) (m : Model) (l : List Layout) → rounds n (with_layouts m l) ≡ with_layouts (rounds n m) l
unfolding rounds
rounds_relaid zero m l = refl
rounds_relaid (suc n) m l = ap (rounds n) (round_relaid m l) ∙ rounds_relaid n (after_round m) l

-- a quiet list is its rounds, but for the layouts
pub quiet_rounds : (f : Floor) → well_formed f ≡ true → (cs : List Call) → All InRange cs → Quiet f cs → (l : List Layout) × (view (floor_after f cs) ≡ with_layouts (rounds (rounds_in cs) (view f)) l)
unfolding floor_after rounds
quiet_rounds f w [] h q = ((view f).layouts, refl)
quiet_rounds f w (c ∷ cs) h q =
    let R = quiet_rounds (outcome f c).floor (call_keeps f w c h.0).0 cs h.1 q.1 in
    here (is_round c) refl R.0 R.1
  where
    n : ℕ
    n = rounds_in cs

    g : Floor
    g = floor_after (outcome f c).floor cs

    here : (b : Bool) → is_round c ≡ b → (l : List Layout) → view g ≡ with_layouts (rounds n (view (outcome f c).floor)) l → (l : List Layout) × (view g ≡ with_layouts (rounds (cond b 1 0 + n) (view f)) l)
    here true e l p =
        let k : suc n ≡ 1 + n = omega arith in
        (l, p ∙ ap (λ (x : Model). with_layouts (rounds n x) l) (view_round f w c e) ∙ ap (λ (x : ℕ). with_layouts (rounds x (view f)) l) k)
    here false e l p =
        let k : n ≡ 0 + n = omega arith in
        let Q = quiet_call f w c e q.0 in
        (l, p ∙ ap (λ (x : Model). with_layouts (rounds n x) l) Q.1 ∙ ap (λ (x : Model). with_layouts x l) (rounds_relaid n (view f) Q.0) ∙ ap (λ (x : ℕ). with_layouts (rounds x (view f)) l) k)
