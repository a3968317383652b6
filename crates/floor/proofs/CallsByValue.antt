-- What a well-formed floor answers is computed on its value alone: no memory is laid out or checked between the calls. The tables of Trials, Samples and Instances speak of floors in memory, and are computed so.
use mathlib.Core.Path.{◌≡◌, refl, sym, ap, ◌∙◌}
use mathlib.Core.Logic.{◌⊎◌, inl, inr}
use mathlib.Core.Bool.{Bool, true, false, cond, not, ◌&&◌}
use mathlib.Core.List.{List, [], ◌∷◌}
use Prim.Native.Nat.{ℕ, ◌^◌, ◌<◌}
use native.Mathlib.Omega.{arith}
use lib.Dec.{eqb}
use lib.ListN.{length, get_or, replicate}
use Rattle.laws.specs.Define.{tab, refusal}
use Rattle.laws.specs.Every.{All}
use Rattle.laws.proofs.Tests.{by_test, and_left}
use Rattle.floor.specs.declared.Canister.{Canister}
use Rattle.floor.specs.declared.Booking.{Booking}
use Rattle.floor.specs.declared.Layout.{Layout}
use Rattle.floor.specs.declared.Floor.{Floor}
use Rattle.floor.specs.declared.Reading.{Reading}
use Rattle.floor.specs.Layouts.{layouts_sound, set_of}
use Rattle.floor.specs.Model.{Model, tile_of, with_tile, numbers_on}
use Rattle.floor.specs.Memory.{zero_tile, zero_canister, state_of, used_layouts, view, head, pack, state_fits, layouts_fit, relaid}
use Rattle.floor.specs.Well.{state_sound, state_well, layouts_well, well_formed}
use Rattle.floor.specs.Calls.{refusal_of, answer, book_tests, booked, book_answer, stop_tests, stopped, stop_answer, repair_tests, repaired, repair_answer, keep_tests, kept_under, keep_answer, name_held_tests, forgotten, forget_answer, recalled, recall_answer, after_round, report_of, round_answer, read_tests, read_answer}
use Rattle.floor.specs.Anywhere.{anywhere_tests, placed_at, anywhere_answer}
use Rattle.floor.specs.Bookings.{answered, single, floor_singly, entries_singly, too_long_of, list_answer, list_after}
use Rattle.floor.specs.Demand3.{Call, book, anywhere, stop, repair, round, keep, forget, recall, list, InRange, outcome}
use Rattle.floor.specs.CommutingCalls.{place_to, list_to}
use Rattle.floor.proofs.Sound.{Sound}
use Rattle.floor.proofs.Pack.{well_sound, well_parts}
use Rattle.floor.proofs.Capacity.{view_packed}
use Rattle.floor.proofs.Calls.{Accepted, book_keeps, anywhere_keeps, stop_keeps, repair_keeps}
use Rattle.floor.proofs.SoundLayouts.{keep_keeps, forget_keeps}
use Rattle.floor.proofs.Stages.{recall_keeps}
use Rattle.floor.proofs.Lists.{list_refused, list_made, passed, round_accepted, round_report, view_round, call_keeps}

-- f is well formed and its value is m
pub record Shows (f : Floor) (m : Model) : Type 0 where
  pub well : well_formed f ≡ true
  pub value : view f ≡ m

-- ---- bookings on a value: what one makes of it, accepted or refused; what a list makes of it, and its entries with their answers
unfoldable pub value_booked_lem : Model → Booking → Model
value_booked_lem m b = cond (eqb (refusal (book_tests m b.tile b.canister)) 0) (booked m b.tile b.canister) m

unfoldable pub value_singly_lem : Model → List Booking → Model
value_singly_lem m [] = m
value_singly_lem m (b ∷ l) = value_singly_lem (value_booked_lem m b) l

unfoldable pub answers_singly : Model → List Booking → List Booking
answers_singly m [] = []
answers_singly m (b ∷ l) = answered b (refusal (book_tests m b.tile b.canister)) ∷ answers_singly (value_booked_lem m b) l

-- ---- a call on a value: its tests but the first, 30, and what it makes of the value
unfoldable pub tests_of : Model → Call → List (Bool × ℕ)
tests_of m (book t c) = book_tests m t c
tests_of m (anywhere t number) = anywhere_tests m t number
tests_of m (stop t) = stop_tests m t
tests_of m (repair t) = repair_tests m t
tests_of m round = []
tests_of m (keep name) = keep_tests m.layouts name
tests_of m (forget name) = name_held_tests m.layouts name
tests_of m (recall name) = name_held_tests m.layouts name
tests_of m (list l) = (too_long_of (length l), 42) ∷ []

unfoldable pub changed : Model → Call → Model
changed m (book t c) = booked m t c
changed m (anywhere t number) = booked m t (placed_at m t number)
changed m (stop t) = with_tile m t (stopped (tile_of m t))
changed m (repair t) = with_tile m t (repaired (tile_of m t))
changed m round = after_round m
changed m (keep name) = kept_under m name
changed m (forget name) = forgotten m name
changed m (recall name) = recalled m (set_of m.layouts name)
changed m (list l) = value_singly_lem m l

unfoldable pub refusal_by : Model → Call → ℕ
refusal_by m c = refusal (tests_of m c)

-- the place that is told, n being the refusal number
abbrev found_as : ℕ → Canister → ℕ × ℕ
found_as n c = (cond (eqb n 0) c.a 0, cond (eqb n 0) c.b 0)

unfoldable pub place_by : Model → Call → ℕ × ℕ
place_by m (book t c) = (0, 0)
place_by m (anywhere t number) = found_as (refusal_by m (anywhere t number)) (placed_at m t number)
place_by m (stop t) = (0, 0)
place_by m (repair t) = (0, 0)
place_by m round = (0, 0)
place_by m (keep name) = (0, 0)
place_by m (forget name) = (0, 0)
place_by m (recall name) = (0, 0)
place_by m (list l) = (0, 0)

unfoldable pub list_by : Model → Call → List Booking
list_by m (book t c) = []
list_by m (anywhere t number) = []
list_by m (stop t) = []
list_by m (repair t) = []
list_by m round = []
list_by m (keep name) = []
list_by m (forget name) = []
list_by m (recall name) = []
list_by m (list l) = cond (too_long_of (length l)) l (answers_singly m l)

unfoldable pub value_by : Model → Call → Model
value_by m c = cond (eqb (refusal_by m c) 0) (changed m c) m

unfoldable pub read_by : Model → ℕ → Reading
read_by m t =
    let n = refusal (read_tests m t) in
    let x = tile_of m t in
    record { refusal = n; tile = cond (eqb n 0) (head x) zero_tile; members = cond (eqb n 0) (tab 16 (λ k. get_or x.members k zero_canister)) (replicate 16 zero_canister) }

module _ (f : Floor) (w : well_formed f ≡ true) where
  S : Sound (view f)
  S = well_sound f w

  plain : (tests : List (Bool × ℕ)) → refusal_of f tests ≡ refusal tests
  unfolding refusal_of refusal
  plain tests = rw w

  after : (tests : List (Bool × ℕ)) → All (λ x. 0 < x.1) tests → (n : Model) → (Accepted tests → Sound n)
      → view (cond (eqb (refusal_of f tests) 0) (pack n) f) ≡ cond (eqb (refusal tests) 0) n (view f)
  after tests pos n sn = go (eqb (refusal_of f tests) 0) refl ∙ ap (λ (k : ℕ). cond (eqb k 0) n (view f)) (plain tests)
    where
      go : (b : Bool) → eqb (refusal_of f tests) 0 ≡ b → view (cond b (pack n) f) ≡ cond b n (view f)
      go true e = view_packed n (sn (passed f w tests pos e))
      go false e = refl

  refusal_here : (c : Call) → (outcome f c).refusal ≡ refusal_by (view f) c
  unfolding outcome book_answer anywhere_answer stop_answer repair_answer round_answer keep_answer forget_answer recall_answer list_answer answer refusal_by tests_of refusal
  refusal_here (book t c) = plain (book_tests (view f) t c)
  refusal_here (anywhere t number) = plain (anywhere_tests (view f) t number)
  refusal_here (stop t) = plain (stop_tests (view f) t)
  refusal_here (repair t) = plain (repair_tests (view f) t)
  refusal_here round = plain []
  refusal_here (keep name) = plain (keep_tests (view f).layouts name)
  refusal_here (forget name) = plain (name_held_tests (view f).layouts name)
  refusal_here (recall name) = plain (name_held_tests (view f).layouts name)
  refusal_here (list l) = refl

  value_booked : (t : ℕ) (c : Canister) → c.number < 2 ^ 32 → view (book_answer f t c).floor ≡ cond (eqb (refusal (book_tests (view f) t c)) 0) (booked (view f) t c) (view f)
  unfolding book_answer answer book_tests
  value_booked t c h = after (book_tests (view f) t c) (omega arith) (booked (view f) t c) (λ T. (book_keeps (view f) S t c T h).well)

  refusal_booked : (t : ℕ) (c : Canister) → (book_answer f t c).refusal ≡ refusal (book_tests (view f) t c)
  unfolding book_answer answer
  refusal_booked t c = plain (book_tests (view f) t c)

-- a list of bookings
step_singly : (f : Floor) → well_formed f ≡ true → (b : Booking) → b.canister.number < 2 ^ 32 → (well_formed (single f b).floor ≡ true) × (view (single f b).floor ≡ value_booked_lem (view f) b)
unfolding outcome value_booked_lem
step_singly f w b h = ((call_keeps f w (book b.tile b.canister) h).0, value_booked f w b.tile b.canister h)

value_singly : (f : Floor) → well_formed f ≡ true → (l : List Booking) → InRange (list l) → view (floor_singly f l) ≡ value_singly_lem (view f) l
unfolding floor_singly value_singly_lem
value_singly f w [] h = refl
value_singly f w (b ∷ l) h =
    let n = step_singly f w b h.0 in
    value_singly (single f b).floor n.0 l h.1 ∙ ap (λ (m : Model). value_singly_lem m l) n.1

entries_singly_lem : (f : Floor) → well_formed f ≡ true → (l : List Booking) → InRange (list l) → entries_singly f l ≡ answers_singly (view f) l
unfolding entries_singly answers_singly
entries_singly_lem f w [] h = refl
entries_singly_lem f w (b ∷ l) h =
    let n = step_singly f w b h.0 in
    (λ i. answered b (refusal_booked f w b.tile b.canister i) ∷ entries_singly_lem (single f b).floor n.0 l h.1 i) ∙ ap (λ (m : Model). answered b (refusal (book_tests (view f) b.tile b.canister)) ∷ answers_singly m l) n.1

module _ (f : Floor) (w : well_formed f ≡ true) where
  value_list : (l : List Booking) → InRange (list l) → view (outcome f (list l)).floor ≡ value_by (view f) (list l)
  unfolding value_by refusal_by tests_of changed refusal
  value_list l h = go (by_test (too_long_of (length l)))
    where
      go : (too_long_of (length l) ≡ true) ⊎ (too_long_of (length l) ≡ false) → view (outcome f (list l)).floor ≡ cond (eqb (cond (too_long_of (length l)) 42 0) 0) (value_singly_lem (view f) l) (view f)
      go (inl e) = rw ((list_refused f l e).1, e)
      go (inr e) = rw ((list_made f l e).1, e) (value_singly f w l h)

  value_here : (c : Call) → InRange c → view (outcome f c).floor ≡ value_by (view f) c
  unfolding outcome anywhere_answer stop_answer repair_answer keep_answer forget_answer recall_answer answer anywhere_tests stop_tests repair_tests keep_tests name_held_tests value_by refusal_by tests_of changed refusal
  value_here (book t c) h = value_booked f w t c h
  value_here (anywhere t number) h =
      after f w (anywhere_tests (view f) t number) (omega arith) (booked (view f) t (placed_at (view f) t number)) (λ T. (anywhere_keeps (view f) (S f w) t number T h).well)
  value_here (stop t) h = after f w (stop_tests (view f) t) (omega arith) (with_tile (view f) t (stopped (tile_of (view f) t))) (λ T. (stop_keeps (view f) (S f w) t T).well)
  value_here (repair t) h = after f w (repair_tests (view f) t) (omega arith) (with_tile (view f) t (repaired (tile_of (view f) t))) (λ T. (repair_keeps (view f) (S f w) t T).well)
  value_here round h = view_round f w round refl
  value_here (keep name) h = after f w (keep_tests (view f).layouts name) (omega arith) (kept_under (view f) name) (λ T. (keep_keeps (view f) (S f w) name T).well)
  value_here (forget name) h = after f w (name_held_tests (view f).layouts name) (omega arith) (forgotten (view f) name) (λ _. (forget_keeps (view f) (S f w) name).well)
  value_here (recall name) h = after f w (name_held_tests (view f).layouts name) (omega arith) (recalled (view f) (set_of (view f).layouts name)) (λ T. (recall_keeps (view f) (S f w) name T).well)
  value_here (list l) h = value_list l h

  read_here : (t : ℕ) → read_answer f t ≡ read_by (view f) t
  unfolding read_answer read_by
  read_here t = rw (plain f w (read_tests (view f) t))

module _ (f : Floor) (m : Model) (s : Shows f m) where
  pub shows_refusal : (c : Call) → (outcome f c).refusal ≡ refusal_by m c
  shows_refusal c = refusal_here f s.well c ∙ ap (λ (x : Model). refusal_by x c) s.value

  pub shows_call : (c : Call) → InRange c → Shows (outcome f c).floor (value_by m c)
  shows_call c h = record { well = (call_keeps f s.well c h).0; value = value_here f s.well c h ∙ ap (λ (x : Model). value_by x c) s.value }

  pub shows_read : (t : ℕ) → read_answer f t ≡ read_by m t
  shows_read t = read_here f s.well t ∙ ap (λ (x : Model). read_by x t) s.value

  -- with other layouts: 30 where they are not well formed in memory
  well_relaid : (ls : List Layout) → well_formed (relaid f ls) ≡ (layouts_sound f.settings (used_layouts ls) && layouts_fit ls)
  unfolding state_well state_sound state_fits numbers_on view state_of layouts_well
  well_relaid ls = well_parts (relaid f ls) ∙ ap (λ (b : Bool). b && layouts_well (relaid f ls)) (and_left (state_well f) (layouts_well f) (sym (well_parts f) ∙ s.well))

  pub shows_relaid : (ls : List Layout) → (read_answer (relaid f ls) 0).refusal ≡ refusal ((not (layouts_sound m.settings (used_layouts ls) && layouts_fit ls), 30) ∷ read_tests m 0)
  unfolding read_answer refusal_of read_tests view layouts_well
  shows_relaid ls = rw (well_relaid ls) (ap (λ (x : Model). refusal ((not (layouts_sound x.settings (used_layouts ls) && layouts_fit ls), 30) ∷ read_tests x 0)) s.value)

  pub shows_place : (c : Call) → place_to f c ≡ place_by m c
  unfolding place_to anywhere_answer answer place_by refusal_by tests_of
  shows_place (anywhere t number) =
      ap (λ (n : ℕ). found_as n (placed_at (view f) t number)) (plain f s.well (anywhere_tests (view f) t number))
      ∙ ap (λ (x : Model). found_as (refusal (anywhere_tests x t number)) (placed_at x t number)) s.value
  shows_place (book t c) = refl
  shows_place (stop t) = refl
  shows_place (repair t) = refl
  shows_place round = refl
  shows_place (keep name) = refl
  shows_place (forget name) = refl
  shows_place (recall name) = refl
  shows_place (list l) = refl

  -- an entry booked singly; the entries of a list, each with its answer
  pub shows_booking : (b : Booking) → (single f b).refusal ≡ refusal (book_tests m b.tile b.canister)
  shows_booking b = refusal_booked f s.well b.tile b.canister ∙ ap (λ (x : Model). refusal (book_tests x b.tile b.canister)) s.value

  pub shows_entries : (l : List Booking) → InRange (list l) → entries_singly f l ≡ answers_singly m l
  shows_entries l h = entries_singly_lem f s.well l h ∙ ap (λ (x : Model). answers_singly x l) s.value

  pub shows_list_after : (c : Call) → InRange c → list_to f c ≡ list_by m c
  unfolding list_to list_by list_after
  shows_list_after (list l) h = ap (λ (k : List Booking). cond (too_long_of (length l)) l k) (shows_entries l h)
  shows_list_after (book t c) h = refl
  shows_list_after (anywhere t number) h = refl
  shows_list_after (stop t) h = refl
  shows_list_after (repair t) h = refl
  shows_list_after round h = refl
  shows_list_after (keep name) h = refl
  shows_list_after (forget name) h = refl
  shows_list_after (recall name) h = refl

  pub shows_round : (round_answer f).refusal ≡ 0
  unfolding round_answer
  shows_round = round_accepted f s.well

  pub shows_report : (round_answer f).report ≡ report_of m
  shows_report = round_report f s.well ∙ ap report_of s.value
