-- Bookings of either sort, stops, repairs, and what names a layout, in one form: tests and a change, both of the floor as a value. What holds of any two such calls that do not touch each other.
use mathlib.Core.Path.{◌≡◌, refl, sym, ap, ◌∙◌, subst}
use mathlib.Core.Bool.{Bool, true, false, cond, not}
use mathlib.Core.List.{List}
use Prim.Native.Nat.{ℕ, ◌^◌, ◌<◌}
use native.Mathlib.Omega.{arith}
use lib.Dec.{eqb}
use borrow.Author.Tests.{not-false}
use Rattle.laws.specs.Define.{refusal}
use Rattle.laws.specs.Every.{All}
use Rattle.laws.proofs.Tests.{refusal_none, refusal_all_false, test_none}
use Rattle.floor.specs.declared.Canister.{Canister}
use Rattle.floor.specs.declared.Floor.{Floor}
use Rattle.floor.specs.Layouts.{set_of}
use Rattle.floor.specs.Model.{TileState, Model, tile_of, with_tile}
use Rattle.floor.specs.Memory.{view, pack}
use Rattle.floor.specs.Well.{well_formed}
use Rattle.floor.specs.Calls.{refusal_of, answer, book_tests, booked, book_answer, stop_tests, stopped, stop_answer, repair_tests, repaired, repair_answer, keep_tests, kept_under, keep_answer, name_held_tests, forgotten, forget_answer, recalled, recall_answer}
use Rattle.floor.specs.Anywhere.{anywhere_tests, placed_at, anywhere_answer}
use Rattle.floor.specs.Demand3.{Call, keep, forget, recall, InRange, outcome}
use Rattle.floor.specs.CommutingCalls.{RunningChange, stops, repairs, Books, placed, unplaced}
use Rattle.floor.proofs.Sound.{Sound}
use Rattle.floor.proofs.Pack.{well_sound}
use Rattle.floor.proofs.Capacity.{sound_well, view_packed}
use Rattle.floor.proofs.Calls.{Accepted, book_keeps, anywhere_accepts, stop_keeps, repair_keeps}
use Rattle.floor.proofs.SoundLayouts.{keep_keeps, forget_keeps}
use Rattle.floor.proofs.Stages.{recall_keeps}
use Rattle.floor.proofs.Lists.{passed}

pub record Form : Type 0 where
  pub tests : Model → List (Bool × ℕ)
  pub change : Model → Model
  pub pos : (m : Model) → All (λ x. 0 < x.1) (tests m)
  pub sound : (m : Model) → Sound m → Accepted (tests m) → Sound (change m)

abbrev pub number_by : Form → Floor → ℕ
number_by F f = refusal_of f (F.tests (view f))

abbrev pub floor_by : Form → Floor → Floor
floor_by F f = cond (eqb (number_by F f) 0) (pack (F.change (view f))) f

-- the call c answers by the form F
pub record Answers (c : Call) (F : Form) : Type 0 where
  pub number : (f : Floor) → (outcome f c).refusal ≡ number_by F f
  pub floor : (f : Floor) → (outcome f c).floor ≡ floor_by F f

-- on a malformed floor the number is 30, and nothing changes
pub number_bad : (F : Form) (f : Floor) → well_formed f ≡ false → number_by F f ≡ 30
unfolding refusal_of refusal
number_bad F f w = rw w

pub floor_bad : (F : Form) (f : Floor) → well_formed f ≡ false → floor_by F f ≡ f
floor_bad F f w = rw (number_bad F f w)

pub number_well : (tests : List (Bool × ℕ)) (f : Floor) → well_formed f ≡ true → refusal_of f tests ≡ refusal tests
unfolding refusal_of refusal
number_well tests f w = rw w

-- number 0: the floor was well formed, and none of the tests was met
pub accepted : (f : Floor) (tests : List (Bool × ℕ)) → All (λ x. 0 < x.1) tests → refusal_of f tests ≡ 0 → (well_formed f ≡ true) × Accepted tests
unfolding refusal_of
accepted f tests pos e = let a = test_none (not (well_formed f)) 30 tests (omega arith) e in (not-false (well_formed f) a.0, refusal_none tests pos a.1)

-- ---- one call
module _ (F : Form) where
  -- what holds of the floor as it is, if refused, and of the new one, if accepted
  pub by_form : (f : Floor) → well_formed f ≡ true → (P : Bool → Type 0) → (Accepted (F.tests (view f)) → P true) → P false → P (eqb (number_by F f) 0)
  by_form f w P yes' no' = go (eqb (number_by F f) 0) refl
    where
      go : (b : Bool) → eqb (number_by F f) 0 ≡ b → P b
      go true e = yes' (passed f w (F.tests (view f)) (F.pos (view f)) e)
      go false e = no'

  -- accepted, from a floor that shows m
  pub record Applied (f : Floor) (m : Model) : Type 0 where
    pub number : number_by F f ≡ 0
    pub well : well_formed (floor_by F f) ≡ true
    pub is : floor_by F f ≡ pack (F.change m)
    pub sees : view (floor_by F f) ≡ F.change m

  pub applied : (f : Floor) (m : Model) → well_formed f ≡ true → view f ≡ m → Accepted (F.tests m) → Applied f m
  applied f m w v A =
      let S : Sound (F.change m) = F.sound m (subst Sound v (well_sound f w)) A in
      let n : number_by F f ≡ 0 = number_well (F.tests (view f)) f w ∙ ap (λ (x : Model). refusal (F.tests x)) v ∙ refusal_all_false (F.tests m) A in
      let is : floor_by F f ≡ pack (F.change m) = rw n (ap (λ (x : Model). pack (F.change x)) v) in
      record { number = n; well = subst (λ (g : Floor). well_formed g ≡ true) (sym is) (sound_well (F.change m) S); is = is; sees = ap view is ∙ view_packed (F.change m) S }

  pub new_view : (f : Floor) → well_formed f ≡ true → Accepted (F.tests (view f)) → view (pack (F.change (view f))) ≡ F.change (view f)
  new_view f w A = view_packed (F.change (view f)) (F.sound (view f) (well_sound f w) A)

-- ---- two calls
-- the call F answers alike after the call G, which does not change what F tests
number_same : (F G : Form) → ((m : Model) → F.tests (G.change m) ≡ F.tests m) → (f : Floor) → number_by F (floor_by G f) ≡ number_by F f
number_same F G same f = go (well_formed f) refl
  where
    go : (b : Bool) → well_formed f ≡ b → number_by F (floor_by G f) ≡ number_by F f
    go false w = ap (number_by F) (floor_bad G f w)
    go true w =
        by_form G f w (λ b. number_by F (cond b (pack (G.change (view f))) f) ≡ number_by F f)
        (λ A.
        number_well (F.tests (view (pack (G.change (view f))))) (pack (G.change (view f))) (sound_well (G.change (view f)) (G.sound (view f) (well_sound f w) A))
        ∙ ap (λ (m : Model). refusal (F.tests m)) (new_view G f w A)
        ∙ ap refusal (same (view f))
        ∙ sym (number_well (F.tests (view f)) f w))
        refl

-- neither changes what the other tests, and their changes may change places
pub record Beside (F G : Form) : Type 0 where
  pub tests_first : (m : Model) → F.tests (G.change m) ≡ F.tests m
  pub tests_second : (m : Model) → G.tests (F.change m) ≡ G.tests m
  pub changes : (m : Model) → F.change (G.change m) ≡ G.change (F.change m)

module _ (F G : Form) (B : Beside F G) (f : Floor) where
  pub number_first : number_by F (floor_by G f) ≡ number_by F f
  number_first = number_same F G B.tests_first f

  pub number_second : number_by G (floor_by F f) ≡ number_by G f
  number_second = number_same G F B.tests_second f

  pub floor_same : floor_by G (floor_by F f) ≡ floor_by F (floor_by G f)
  floor_same =
      ap (λ n. cond (eqb n 0) (pack (G.change (view (floor_by F f)))) (floor_by F f)) number_second
      ∙ go (well_formed f) refl
      ∙ sym (ap (λ n. cond (eqb n 0) (pack (F.change (view (floor_by G f)))) (floor_by G f)) number_first)
    where
      -- first accepted or not, second accepted or not
      both : Bool → Bool → Type 0
      both b c = cond c (pack (G.change (view (cond b (pack (F.change (view f))) f)))) (cond b (pack (F.change (view f))) f)
          ≡ cond b (pack (F.change (view (cond c (pack (G.change (view f))) f)))) (cond c (pack (G.change (view f))) f)

      go : (b : Bool) → well_formed f ≡ b → both (eqb (number_by F f) 0) (eqb (number_by G f) 0)
      go false w = rw (number_bad F f w, number_bad G f w)
      go true w =
          by_form F f w (λ b. both b (eqb (number_by G f) 0))
          (λ A. by_form G f w (both true)
          (λ A'. ap (λ (m : Model). pack (G.change m)) (new_view F f w A) ∙ ap pack (sym (B.changes (view f))) ∙ ap (λ (m : Model). pack (F.change m)) (sym (new_view G f w A')))
          refl)
          (by_form G f w (both false) (λ A'. refl) refl)

-- ---- the calls in that form
-- a stop's or a repair's tests, and what it makes of its tile
abbrev pub running_tests_lem : {t : ℕ} {c : Call} → RunningChange t c → Model → List (Bool × ℕ)
running_tests_lem {t} stops m = stop_tests m t
running_tests_lem {t} repairs m = repair_tests m t

abbrev pub running_tile_lem : {t : ℕ} {c : Call} → RunningChange t c → TileState → TileState
running_tile_lem stops x = stopped x
running_tile_lem repairs x = repaired x

abbrev pub running_changed : {t : ℕ} {c : Call} → RunningChange t c → Model → Model
running_changed {t} p m = with_tile m t (running_tile_lem p (tile_of m t))

pub running_pos : {t : ℕ} {c : Call} (p : RunningChange t c) (m : Model) → All (λ x. 0 < x.1) (running_tests_lem p m)
unfolding stop_tests repair_tests
running_pos stops m = omega arith
running_pos repairs m = omega arith

pub running_sound_lem : {t : ℕ} {c : Call} (p : RunningChange t c) (m : Model) → Sound m → Accepted (running_tests_lem p m) → Sound (running_changed p m)
running_sound_lem {t} stops m S A = (stop_keeps m S t A).well
running_sound_lem {t} repairs m S A = (repair_keeps m S t A).well

abbrev pub running_form : {t : ℕ} {c : Call} → RunningChange t c → Form
running_form p = record { tests = running_tests_lem p; change = running_changed p; pos = running_pos p; sound = running_sound_lem p }

pub running_answers : {t : ℕ} {c : Call} (p : RunningChange t c) → Answers c (running_form p)
unfolding outcome stop_answer repair_answer answer
running_answers stops = record { number = λ f. refl; floor = λ f. refl }
running_answers repairs = record { number = λ f. refl; floor = λ f. refl }

-- a booking's tests, and the canister that it adds
abbrev pub book_tests_of : {t : ℕ} {c : Call} → Books t c → Model → List (Bool × ℕ)
book_tests_of {t} (placed b) m = book_tests m t b
book_tests_of {t} (unplaced number) m = anywhere_tests m t number

abbrev pub canister_of : {t : ℕ} {c : Call} → Books t c → Model → Canister
canister_of (placed b) m = b
canister_of {t} (unplaced number) m = placed_at m t number

pub booking_pos : {t : ℕ} {c : Call} (p : Books t c) (m : Model) → All (λ x. 0 < x.1) (book_tests_of p m)
unfolding book_tests anywhere_tests
booking_pos (placed b) m = omega arith
booking_pos (unplaced number) m = omega arith

pub booking_accepts : {t : ℕ} {c : Call} (p : Books t c) (m : Model) → Accepted (book_tests_of p m) → Accepted (book_tests m t (canister_of p m))
booking_accepts (placed b) m A = A
booking_accepts {t} (unplaced number) m A = anywhere_accepts m t number A

pub booking_fits : {t : ℕ} {c : Call} (p : Books t c) → InRange c → (m : Model) → (canister_of p m).number < 2 ^ 32
unfolding placed_at
booking_fits (placed b) h m = h
booking_fits (unplaced number) h m = h

abbrev pub book_form : {t : ℕ} {c : Call} → Books t c → InRange c → Form
book_form {t} p h = record { tests = book_tests_of p; change = λ m. booked m t (canister_of p m); pos = booking_pos p; sound = λ m S A. (book_keeps m S t (canister_of p m) (booking_accepts p m A) (booking_fits p h m)).well }

pub book_answers : {t : ℕ} {c : Call} (p : Books t c) (h : InRange c) → Answers c (book_form p h)
unfolding outcome book_answer anywhere_answer answer
book_answers (placed b) h = record { number = λ f. refl; floor = λ f. refl }
book_answers (unplaced number) h = record { number = λ f. refl; floor = λ f. refl }

-- keeping, forgetting, recalling
pub keep_pos : (name : ℕ) (m : Model) → All (λ x. 0 < x.1) (keep_tests m.layouts name)
unfolding keep_tests
keep_pos name m = omega arith

pub name_held_pos : (name : ℕ) (m : Model) → All (λ x. 0 < x.1) (name_held_tests m.layouts name)
unfolding name_held_tests
name_held_pos name m = omega arith

abbrev pub keep_form : ℕ → Form
keep_form name = record { tests = λ m. keep_tests m.layouts name; change = λ m. kept_under m name; pos = keep_pos name; sound = λ m S A. (keep_keeps m S name A).well }

abbrev pub forget_form : ℕ → Form
forget_form name = record { tests = λ m. name_held_tests m.layouts name; change = λ m. forgotten m name; pos = name_held_pos name; sound = λ m S A. (forget_keeps m S name).well }

abbrev pub recall_form : ℕ → Form
recall_form name = record { tests = λ m. name_held_tests m.layouts name; change = λ m. recalled m (set_of m.layouts name); pos = name_held_pos name; sound = λ m S A. (recall_keeps m S name A).well }

pub keep_answers : (name : ℕ) → Answers (keep name) (keep_form name)
unfolding outcome keep_answer answer
keep_answers name = record { number = λ f. refl; floor = λ f. refl }

pub forget_answers : (name : ℕ) → Answers (forget name) (forget_form name)
unfolding outcome forget_answer answer
forget_answers name = record { number = λ f. refl; floor = λ f. refl }

pub recall_answers : (name : ℕ) → Answers (recall name) (recall_form name)
unfolding outcome recall_answer answer
recall_answers name = record { number = λ f. refl; floor = λ f. refl }
