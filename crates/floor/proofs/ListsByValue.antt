-- Lists of calls from a floor that shows a value: their answers, what they book, report and grant, and the floor after them, by the value alone.
use mathlib.Core.Path.{◌≡◌, refl, ap, ◌∙◌, fun_ext}
use mathlib.Core.Logic.{◌⊎◌, inl, inr}
use mathlib.Core.Bool.{Bool, true, false, cond, not, ◌&&◌, ◌||◌}
use mathlib.Core.List.{List, [], ◌∷◌, ◌++◌}
use Prim.Native.Nat.{ℕ, suc, ◌^◌, ◌<◌}
use native.Mathlib.Omega.{arith}
use lib.Dec.{ltb, eqb}
use lib.ListN.{length, get_or}
use borrow.Author.Tests.{ltb-true, lt-ltb, not-true}
use Rattle.laws.specs.Define.{all_of, any_of, all_below, bit, refusal}
use Rattle.laws.specs.Every.{All}
use Rattle.laws.proofs.Tests.{by_test, and_left, and_right}
use Rattle.laws.proofs.Lists.{all_imp, all_true}
use Rattle.floor.specs.declared.Booking.{Booking}
use Rattle.floor.specs.declared.Floor.{Floor}
use Rattle.floor.specs.declared.Report.{Report}
use Rattle.floor.specs.Settings.{total}
use Rattle.floor.specs.Layouts.{set_of}
use Rattle.floor.specs.Model.{Model, runs_of_of}
use Rattle.floor.specs.Memory.{view}
use Rattle.floor.specs.Calls.{book_tests, zero_report, report_of}
use Rattle.floor.specs.Bookings.{single, entries_singly, too_long_of, accepted_in}
use Rattle.floor.specs.Reports.{listed_at}
use Rattle.floor.specs.Demand3.{Call, book, anywhere, stop, repair, round, keep, forget, recall, list, InRange, outcome, floor_after, booked_in, reported_in, recall_set, recall_makes, runs_after_of, is_round, changes_running, disturbs, Quiet}
use Rattle.floor.specs.CommutingCalls.{report_to, Reply, answers_in, replies_in}
use Rattle.floor.specs.BoundedBypass.{wants, Waiting, granted, grants_in}
use Rattle.floor.specs.Arrows.{RunningUnchanged}
use Rattle.floor.proofs.Lists.{list_refused, list_made, single_refused, list_runs}
use Rattle.floor.proofs.CallsByValue.{Shows, answers_singly, refusal_by, place_by, list_by, value_by, shows_refusal, shows_place, shows_booking, shows_entries, shows_list_after, shows_call, shows_report}

-- all that is asked of a call: a booking's number has 32 bits
unfoldable pub is_narrow : Booking → Bool
is_narrow b = ltb b.canister.number (2 ^ 32)

unfoldable pub is_in_range : Call → Bool
unfolding is_narrow
is_in_range (book t c) = ltb c.number (2 ^ 32)
is_in_range (anywhere t number) = ltb number (2 ^ 32)
is_in_range (stop t) = true
is_in_range (repair t) = true
is_in_range round = true
is_in_range (keep name) = true
is_in_range (forget name) = true
is_in_range (recall name) = true
is_in_range (list l) = all_of is_narrow l

pub in_range : (c : Call) → is_in_range c ≡ true → InRange c
unfolding is_narrow is_in_range
in_range (book t c) h = ltb-true c.number (2 ^ 32) h
in_range (anywhere t number) h = ltb-true number (2 ^ 32) h
in_range (stop t) h = tt
in_range (repair t) h = tt
in_range round h = tt
in_range (keep name) h = tt
in_range (forget name) h = tt
in_range (recall name) h = tt
in_range (list l) h = all_imp (λ b. is_narrow b ≡ true) (λ b. b.canister.number < 2 ^ 32) l (λ b e. ltb-true b.canister.number (2 ^ 32) e) (all_true is_narrow l h)

pub all_in_range : (cs : List Call) → all_of is_in_range cs ≡ true → All InRange cs
unfolding all_of
all_in_range [] h = tt
all_in_range (c ∷ cs) h = (in_range c (and_left (is_in_range c) _ h), all_in_range cs (and_right (is_in_range c) _ h))

-- ---- by the value
unfoldable pub value_after_of : Model → List Call → Model
value_after_of m [] = m
value_after_of m (c ∷ cs) = value_after_of (value_by m c) cs

unfoldable pub answers_by : Model → List Call → List ℕ
answers_by m [] = []
answers_by m (c ∷ cs) = refusal_by m c ∷ answers_by (value_by m c) cs

-- n: the call's refusal number
unfoldable pub booked_of : Model → ℕ → Call → List ℕ
booked_of m n (book t c) = cond (eqb n 0) (c.number ∷ []) []
booked_of m n (anywhere t number) = cond (eqb n 0) (number ∷ []) []
booked_of m n (stop t) = []
booked_of m n (repair t) = []
booked_of m n round = []
booked_of m n (keep name) = []
booked_of m n (forget name) = []
booked_of m n (recall name) = []
booked_of m n (list l) = cond (eqb n 0) (accepted_in (answers_singly m l)) []

unfoldable pub booked_by : Model → List Call → List ℕ
booked_by m [] = []
booked_by m (c ∷ cs) = booked_of m (refusal_by m c) c ++ booked_by (value_by m c) cs

unfoldable pub report_by : Model → Call → Report
report_by m (book t c) = zero_report
report_by m (anywhere t number) = zero_report
report_by m (stop t) = zero_report
report_by m (repair t) = zero_report
report_by m round = report_of m
report_by m (keep name) = zero_report
report_by m (forget name) = zero_report
report_by m (recall name) = zero_report
report_by m (list l) = zero_report

unfoldable pub replies_by : Model → List Call → List Reply
replies_by m [] = []
replies_by m (c ∷ cs) = (refusal_by m c, place_by m c, report_by m c, list_by m c) ∷ replies_by (value_by m c) cs

unfoldable pub reported_of : Model → Call → ℕ → List ℕ
reported_of m (book t c) k = []
reported_of m (anywhere t number) k = []
reported_of m (stop t) k = []
reported_of m (repair t) k = []
reported_of m round k = listed_at (report_of m) k
reported_of m (keep name) k = []
reported_of m (forget name) k = []
reported_of m (recall name) k = []
reported_of m (list l) k = []

unfoldable pub reported_by : Model → List Call → ℕ → List ℕ
reported_by m [] k = []
reported_by m (c ∷ cs) k = reported_of m c k ++ reported_by (value_by m c) cs k

unfoldable pub grants_by_lem : Model → List Call → ℕ → List ℕ
grants_by_lem m [] t = []
grants_by_lem m (c ∷ cs) t = cond (is_round c) (get_or (report_of m).grants t 0 ∷ []) [] ++ grants_by_lem (value_by m c) cs t

-- whether an accepted recall stops or repairs tile t
unfoldable pub makes_by : Model → ℕ → ℕ → Bool
makes_by m name t = ltb t (total m.settings) && cond (bit (set_of m.layouts name) t) (not (runs_of_of m t)) (runs_of_of m t)

unfoldable pub changes_by : Model → Call → Bool
unfolding makes_by
changes_by m (book t c) = false
changes_by m (anywhere t number) = false
changes_by m (stop t) = eqb (refusal_by m (stop t)) 0
changes_by m (repair t) = eqb (refusal_by m (repair t)) 0
changes_by m round = false
changes_by m (keep name) = false
changes_by m (forget name) = false
changes_by m (recall name) = eqb (refusal_by m (recall name)) 0 && not (all_below (λ t. not (makes_by m name t)) (total m.settings))
changes_by m (list l) = false

-- whether an entry is accepted: the first that is finds the value as it was
unfoldable pub takes_one : Model → List Booking → Bool
takes_one m l = any_of (λ b. eqb (refusal (book_tests m b.tile b.canister)) 0) l

unfoldable pub disturbs_by : Model → Call → Bool
unfolding changes_by takes_one
disturbs_by m (book t c) = eqb (refusal_by m (book t c)) 0
disturbs_by m (anywhere t number) = eqb (refusal_by m (anywhere t number)) 0
disturbs_by m (stop t) = changes_by m (stop t)
disturbs_by m (repair t) = changes_by m (repair t)
disturbs_by m round = false
disturbs_by m (keep name) = false
disturbs_by m (forget name) = false
disturbs_by m (recall name) = changes_by m (recall name)
disturbs_by m (list l) = not (too_long_of (length l)) && takes_one m l

unfoldable pub quiet_by_lem : Model → List Call → Bool
unfolding disturbs_by
quiet_by_lem m [] = true
quiet_by_lem m (c ∷ cs) = not (disturbs_by m c) && quiet_by_lem (value_by m c) cs

unfoldable pub running_unchanged_by : Model → List Call → Bool
unfolding changes_by
running_unchanged_by m [] = true
running_unchanged_by m (c ∷ cs) = not (changes_by m c) && running_unchanged_by (value_by m c) cs

unfoldable pub waiting_by : Model → List Call → ℕ → ℕ → Bool
waiting_by m [] t k = true
waiting_by m (c ∷ cs) t k = (not (is_round c) || wants m t k) && waiting_by (value_by m c) cs t k

-- ---- that is what the floor gives
one_accepted : (f : Floor) (l : List Booking) → ltb 0 (length (accepted_in (entries_singly f l))) ≡ any_of (λ b. eqb (single f b).refusal 0) l
unfolding entries_singly any_of
one_accepted f [] = refl
one_accepted f (b ∷ l) = go (eqb (single f b).refusal 0) refl (one_accepted (single f b).floor l)
  where
    rest : List ℕ
    rest = accepted_in (entries_singly (single f b).floor l)

    some : Floor → Bool
    some g = any_of (λ b. eqb (single g b).refusal 0) l

    go : (x : Bool) → eqb (single f b).refusal 0 ≡ x → ltb 0 (length rest) ≡ some (single f b).floor → ltb 0 (length (cond x (b.canister.number ∷ []) [] ++ rest)) ≡ (x || some f)
    go true e ih = lt-ltb 0 (suc (length rest)) (omega arith)
    go false e ih = ih ∙ ap some (single_refused f b e)

module _ (f : Floor) (m : Model) (s : Shows f m) where
  list_booked : (l : List Booking) → InRange (list l) → (outcome f (list l)).booked ≡ booked_of m (outcome f (list l)).refusal (list l)
  unfolding booked_of
  list_booked l h = go (by_test (too_long_of (length l)))
    where
      go : (too_long_of (length l) ≡ true) ⊎ (too_long_of (length l) ≡ false) → (outcome f (list l)).booked ≡ cond (eqb (outcome f (list l)).refusal 0) (accepted_in (answers_singly m l)) []
      go (inl e) = let k = list_refused f l e in rw (k.2, k.0)
      go (inr e) = let k = list_made f l e in rw (k.2, k.0) (ap accepted_in (shows_entries f m s l h))

  call_booked : (c : Call) → InRange c → (outcome f c).booked ≡ booked_of m (outcome f c).refusal c
  unfolding outcome booked_of
  call_booked (book t c) h = refl
  call_booked (anywhere t number) h = refl
  call_booked (stop t) h = refl
  call_booked (repair t) h = refl
  call_booked round h = refl
  call_booked (keep name) h = refl
  call_booked (forget name) h = refl
  call_booked (recall name) h = refl
  call_booked (list l) h = list_booked l h

  call_report : (c : Call) → report_to f c ≡ report_by m c
  unfolding report_to report_by
  call_report (book t c) = refl
  call_report (anywhere t number) = refl
  call_report (stop t) = refl
  call_report (repair t) = refl
  call_report round = shows_report f m s
  call_report (keep name) = refl
  call_report (forget name) = refl
  call_report (recall name) = refl
  call_report (list l) = refl

  call_reported : (c : Call) (k : ℕ) → (outcome f c).reported k ≡ reported_of m c k
  unfolding outcome reported_of
  call_reported (book t c) k = refl
  call_reported (anywhere t number) k = refl
  call_reported (stop t) k = refl
  call_reported (repair t) k = refl
  call_reported round k = ap (λ (r : Report). listed_at r k) (shows_report f m s)
  call_reported (keep name) k = refl
  call_reported (forget name) k = refl
  call_reported (recall name) k = refl
  call_reported (list l) k = refl

  pub call_granted : (t : ℕ) → granted f t ≡ get_or (report_of m).grants t 0
  unfolding granted
  call_granted t = ap (λ (r : Report). get_or r.grants t 0) (shows_report f m s)

  pub call_changes : (c : Call) → changes_running f c ≡ changes_by m c
  unfolding changes_running recall_makes recall_set changes_by makes_by view
  call_changes (book t c) = refl
  call_changes (anywhere t number) = refl
  call_changes (stop t) = ap (λ (n : ℕ). eqb n 0) (shows_refusal f m s (stop t))
  call_changes (repair t) = ap (λ (n : ℕ). eqb n 0) (shows_refusal f m s (repair t))
  call_changes round = refl
  call_changes (keep name) = refl
  call_changes (forget name) = refl
  call_changes (recall name) =
      let idle : Model → Bool = λ x. all_below (λ t. not (makes_by x name t)) (total x.settings) in
      ap (λ (n : ℕ). eqb n 0 && not (idle (view f))) (shows_refusal f m s (recall name)) ∙ ap (λ (x : Model). eqb (refusal_by m (recall name)) 0 && not (idle x)) s.value
  call_changes (list l) = refl

  takes_same : (l : List Booking) → any_of (λ b. eqb (single f b).refusal 0) l ≡ takes_one m l
  unfolding takes_one
  takes_same l = ap (λ (p : Booking → Bool). any_of p l) (fun_ext (λ b. ap (λ (n : ℕ). eqb n 0) (shows_booking f m s b)))

  pub call_disturbs : (c : Call) → disturbs f c ≡ disturbs_by m c
  unfolding disturbs disturbs_by
  call_disturbs (book t c) = ap (λ (n : ℕ). eqb n 0) (shows_refusal f m s (book t c))
  call_disturbs (anywhere t number) = ap (λ (n : ℕ). eqb n 0) (shows_refusal f m s (anywhere t number))
  call_disturbs (stop t) = call_changes (stop t)
  call_disturbs (repair t) = call_changes (repair t)
  call_disturbs round = refl
  call_disturbs (keep name) = refl
  call_disturbs (forget name) = refl
  call_disturbs (recall name) = call_changes (recall name)
  call_disturbs (list l) = go (by_test (too_long_of (length l)))
    where
      go : (too_long_of (length l) ≡ true) ⊎ (too_long_of (length l) ≡ false) → ltb 0 (length (outcome f (list l)).booked) ≡ (not (too_long_of (length l)) && takes_one m l)
      go (inl e) = rw ((list_refused f l e).2, e)
      go (inr e) = rw ((list_made f l e).2, e) (one_accepted f l ∙ takes_same l)

pub shows_list : (f : Floor) (m : Model) → Shows f m → (cs : List Call) → All InRange cs → Shows (floor_after f cs) (value_after_of m cs)
unfolding floor_after value_after_of
shows_list f m s [] h = s
shows_list f m s (c ∷ cs) h = shows_list (outcome f c).floor (value_by m c) (shows_call f m s c h.0) cs h.1

pub answers_same : (f : Floor) (m : Model) → Shows f m → (cs : List Call) → All InRange cs → answers_in f cs ≡ answers_by m cs
unfolding answers_in answers_by
answers_same f m s [] h = refl
answers_same f m s (c ∷ cs) h = rw (shows_refusal f m s c, answers_same (outcome f c).floor (value_by m c) (shows_call f m s c h.0) cs h.1)

pub booked_same : (f : Floor) (m : Model) → Shows f m → (cs : List Call) → All InRange cs → booked_in f cs ≡ booked_by m cs
unfolding booked_in booked_by
booked_same f m s [] h = refl
booked_same f m s (c ∷ cs) h = rw (call_booked f m s c h.0, shows_refusal f m s c, booked_same (outcome f c).floor (value_by m c) (shows_call f m s c h.0) cs h.1)

pub replies_same : (f : Floor) (m : Model) → Shows f m → (cs : List Call) → All InRange cs → replies_in f cs ≡ replies_by m cs
unfolding replies_in replies_by
replies_same f m s [] h = refl
replies_same f m s (c ∷ cs) h = rw (shows_refusal f m s c, shows_place f m s c, call_report f m s c, shows_list_after f m s c h.0, replies_same (outcome f c).floor (value_by m c) (shows_call f m s c h.0) cs h.1)

pub reported_same : (f : Floor) (m : Model) → Shows f m → (cs : List Call) → All InRange cs → (k : ℕ) → reported_in f cs k ≡ reported_by m cs k
unfolding reported_in reported_by
reported_same f m s [] h k = refl
reported_same f m s (c ∷ cs) h k = rw (call_reported f m s c k, reported_same (outcome f c).floor (value_by m c) (shows_call f m s c h.0) cs h.1 k)

pub grants_same : (f : Floor) (m : Model) → Shows f m → (cs : List Call) → All InRange cs → (t : ℕ) → grants_in f cs t ≡ grants_by_lem m cs t
unfolding grants_in grants_by_lem
grants_same f m s [] h t = refl
grants_same f m s (c ∷ cs) h t = rw (call_granted f m s t, grants_same (outcome f c).floor (value_by m c) (shows_call f m s c h.0) cs h.1 t)

-- the history tells what runs on the value after it
pub runs_same : (f : Floor) (m : Model) → Shows f m → (cs : List Call) → All InRange cs → (t : ℕ) → runs_after_of f cs t ≡ runs_of_of (value_after_of m cs) t
unfolding runs_after_of
runs_same f m s cs h t = list_runs f s.well cs h t ∙ ap (λ (x : Model). runs_of_of x t) (shows_list f m s cs h).value

pub quiet : (f : Floor) (m : Model) → Shows f m → (cs : List Call) → All InRange cs → quiet_by_lem m cs ≡ true → Quiet f cs
unfolding quiet_by_lem
quiet f m s [] h q = tt
quiet f m s (c ∷ cs) h q =
    let p = not (disturbs_by m c) in
    (call_disturbs f m s c ∙ not-true (disturbs_by m c) (and_left p _ q), quiet (outcome f c).floor (value_by m c) (shows_call f m s c h.0) cs h.1 (and_right p _ q))

pub running_unchanged : (f : Floor) (m : Model) → Shows f m → (cs : List Call) → All InRange cs → running_unchanged_by m cs ≡ true → RunningUnchanged f cs
unfolding running_unchanged_by
running_unchanged f m s [] h q = tt
running_unchanged f m s (c ∷ cs) h q =
    let p = not (changes_by m c) in
    (call_changes f m s c ∙ not-true (changes_by m c) (and_left p _ q), running_unchanged (outcome f c).floor (value_by m c) (shows_call f m s c h.0) cs h.1 (and_right p _ q))

pub waiting : (f : Floor) (m : Model) → Shows f m → (cs : List Call) → All InRange cs → (t k : ℕ) → waiting_by m cs t k ≡ true → Waiting f cs t k
unfolding waiting_by
waiting f m s [] h t k q = tt
waiting f m s (c ∷ cs) h t k q =
    let p = not (is_round c) || wants m t k in
    (λ e. here e (and_left p _ q), waiting (outcome f c).floor (value_by m c) (shows_call f m s c h.0) cs h.1 t k (and_right p _ q))
  where
    here : is_round c ≡ true → (not (is_round c) || wants m t k) ≡ true → wants (view f) t k ≡ true
    here e k' = ap (λ (x : Model). wants x t k) s.value ∙ rw e at k'
