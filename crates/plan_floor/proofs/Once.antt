-- Each label is booked at most once, under one number: `once`; the numbers rise: `rising`. The statements are specs/Promises.
use mathlib.Core.Path.{◌≡◌, refl, sym, ap, ◌∙◌, subst}
use mathlib.Core.Logic.{◌⊎◌, inl, inr, ◌≢◌}
use mathlib.Core.Bool.{Bool, true, false, cond}
use mathlib.Core.List.{List, [], ◌∷◌}
use Prim.Native.Nat.{ℕ, ◌≤◌, ◌<◌}
use native.Mathlib.Omega.{arith}
use lib.Dec.{eqb}
use borrow.Author.Tests.{eqb-true, eqb-false}
use Rattle.laws.specs.Define.{all_of, refusal}
use Rattle.laws.specs.Every.{All, Pairs}
use Rattle.laws.proofs.Tests.{by_test, not_both, and_left}
use Rattle.laws.proofs.Lists.{all_mem, all_of_lem, all_imp, all_map, all_append, pairs_append}
use Rattle.floor.specs.declared.Floor.{Floor}
use Rattle.floor.specs.Well.{well_formed}
use Rattle.plan.specs.declared.Entry.{Entry}
use Rattle.plan.specs.declared.Plan.{Plan}
use Rattle.plan.specs.Entries.{is_waiting, waits, used, predecessors, done, ready, changed, released, reported}
use Rattle.plan.specs.Plans.{number_after, release_answer, numbers_in, report_tests, report_answer}
use Rattle.plan_floor.specs.Steps.{PlanCall, plan_offer, plan_release, plan_report, plan_given, plan_after, bookings_of, bookings_in, Step, call, offer, release, report, State, stepped, plan_calls_in, step_bookings, StepInRange, booked_of}
use Rattle.plan_floor.specs.Promises.{OncePromise, RisingPromise}
use Rattle.plan.proofs.Stages.{booked_stage, reported_same, released_label, reported_label, released_there, other_label, used_changed, changed_all}
use Rattle.plan_floor.proofs.History.{accepted, ready_entry}
use Rattle.plan_floor.proofs.AsPlan.{bookings_at, bookings_next}
use Rattle.plan_floor.proofs.Keeping.{reported_waits}
use Rattle.plan_floor.proofs.AsCalls.{step_keeps}

-- label k is past waiting under n
abbrev pub IsUnder : ℕ → ℕ → Entry → Type 0
IsUnder k n e = e.label ≡ k → (e.number ≡ n) × (waits e ≡ false)

abbrev pub Under : Plan → ℕ → ℕ → Type 0
Under p k n = All (IsUnder k n) (used p)

abbrev pub Accepted : Plan → Floor → ℕ → Type 0
Accepted p f j = eqb (release_answer p f j).refusal 0 ≡ true

-- such a label is not released
pub not_again : (p : Plan) (f : Floor) (k n j : ℕ) → Under p k n → Accepted p f j → k ≢ j
unfolding ready
not_again p f k n j U e q =
    let A = accepted p f j (eqb-true (release_answer p f j).refusal 0 e) in
    let w = ready_entry p A.fits j A.is_ready in
    not_both (and_left (waits w.0) (all_of (done (used p)) (predecessors w.0)) w.3) (all_mem (IsUnder k n) w.1 U (w.2 ∙ sym q)).1

-- nothing changes that
call_under : (p : Plan) (c : PlanCall) (k n : ℕ) → Under p k n → Under (plan_given p c) k n
unfolding plan_given release_answer report_answer
call_under p plan_offer k n U = U
call_under p (plan_release f j) k n U = go (eqb (release_answer p f j).refusal 0) refl
  where
    go : (b : Bool) → eqb (release_answer p f j).refusal 0 ≡ b → Under (cond b (changed p (released j (number_after f))) p) k n
    go true e = changed_all (IsUnder k n) (IsUnder k n) p (released j (number_after f)) (other_label (λ e. (e.number ≡ n) × (waits e ≡ false)) k j (number_after f) (not_again p f k n j U e)) U
    go false e = U
call_under p (plan_report r) k n U = go (eqb (refusal (report_tests p r)) 0)
  where
    l : List ℕ
    l = numbers_in r

    go : (b : Bool) → Under (cond b (changed p (reported l)) p) k n
    go true = changed_all (IsUnder k n) (IsUnder k n) p (reported l) (λ e u q. let v = u (sym (reported_label l e) ∙ q) in (reported_same (λ e. e.number) l (λ e. refl) e ∙ v.0, reported_waits l e ∙ v.1)) U
    go false = U

pub step_under : (s : State) (c : Step) (k n : ℕ) → Under s.plan k n → Under (stepped s c).plan k n
unfolding stepped plan_given
step_under s (call c) k n U = U
step_under s offer k n U = U
step_under s (release j) k n U = call_under s.plan (plan_release s.floor j) k n U
step_under s (report r) k n U = call_under s.plan (plan_report r) k n U

list_under : (p : Plan) (cs : List PlanCall) (k n : ℕ) → Under p k n → Under (plan_after p cs) k n
unfolding plan_after
list_under p [] k n U = U
list_under p (c ∷ cs) k n U = list_under (plan_given p c) cs k n (call_under p c k n U)

-- and it is not booked again
call_away : (p : Plan) (c : PlanCall) (k n : ℕ) → Under p k n → All (λ y. k ≢ y.0) (bookings_of p c)
unfolding bookings_of
call_away p plan_offer k n U = tt
call_away p (plan_release f j) k n U = go (eqb (release_answer p f j).refusal 0) refl
  where
    go : (b : Bool) → eqb (release_answer p f j).refusal 0 ≡ b → All (λ (y : ℕ × ℕ). k ≢ y.0) (cond b ((j, (release_answer p f j).number) ∷ []) [])
    go true e = (not_again p f k n j U e, tt)
    go false e = tt
call_away p (plan_report r) k n U = tt

list_away : (p : Plan) (cs : List PlanCall) (k n : ℕ) → Under p k n → All (λ y. k ≢ y.0) (bookings_in p cs)
unfolding bookings_in
list_away p [] k n U = tt
list_away p (c ∷ cs) k n U = all_append (λ y. k ≢ y.0) (bookings_of p c) (bookings_in (plan_given p c) cs) (call_away p c k n U) (list_away (plan_given p c) cs k n (call_under p c k n U))

-- a release puts its label under its number
pub booked_under : (p : Plan) (k n : ℕ) → Under (changed p (released k n)) k n
booked_under p k n = subst (All (IsUnder k n)) (sym (used_changed p (released k n))) (all_map (IsUnder k n) (released k n) (used p) (all_of_lem (λ e. IsUnder k n (released k n e)) (used p) (λ e m. here e (by_test (eqb e.label k)))))
  where
    here : (e : Entry) → (eqb e.label k ≡ true) ⊎ (eqb e.label k ≡ false) → IsUnder k n (released k n e)
    here e (inl q) = subst (IsUnder k n) (sym (released_there k n e (eqb-true e.label k q))) (λ l. (refl, ap is_waiting (booked_stage n e)))
    here e (inr q) = λ l. absurd (eqb-false e.label k q (sym (released_label k n e) ∙ l))

call_booked : (p : Plan) (c : PlanCall) → All (λ x. Under (plan_given p c) x.0 x.1) (bookings_of p c)
unfolding bookings_of plan_given release_answer
call_booked p plan_offer = tt
call_booked p (plan_release f k) = go (eqb (release_answer p f k).refusal 0)
  where
    n : ℕ
    n = number_after f

    go : (b : Bool) → All (λ (x : ℕ × ℕ). Under (cond b (changed p (released k n)) p) x.0 x.1) (cond b ((k, cond b n 0) ∷ []) [])
    go true = (booked_under p k n, tt)
    go false = tt
call_booked p (plan_report r) = tt

-- at most one of them in a call
call_pairs : (R : ℕ × ℕ → ℕ × ℕ → Type 0) (p : Plan) (c : PlanCall) → Pairs R (bookings_of p c)
unfolding bookings_of
call_pairs R p plan_offer = tt
call_pairs R p (plan_release f k) = go (eqb (release_answer p f k).refusal 0)
  where
    go : (b : Bool) → Pairs R (cond b ((k, (release_answer p f k).number) ∷ []) [])
    go true = (tt, tt)
    go false = tt
call_pairs R p (plan_report r) = tt

labels : (p : Plan) (cs : List PlanCall) → Pairs (λ x y. x.0 ≢ y.0) (bookings_in p cs)
unfolding bookings_in
labels p [] = tt
labels p (c ∷ cs) =
    pairs_append (λ x y. x.0 ≢ y.0) (bookings_of p c) (bookings_in (plan_given p c) cs) (call_pairs (λ x y. x.0 ≢ y.0) p c) (labels (plan_given p c) cs)
    (all_imp (λ x. Under (plan_given p c) x.0 x.1) (λ x. All (λ y. x.0 ≢ y.0) (bookings_in (plan_given p c) cs)) (bookings_of p c) (λ x U. list_away (plan_given p c) cs x.0 x.1 U) (call_booked p c))

kept : (p : Plan) (cs : List PlanCall) → All (λ x. Under (plan_after p cs) x.0 x.1) (bookings_in p cs)
unfolding bookings_in plan_after
kept p [] = tt
kept p (c ∷ cs) =
    all_append (λ x. Under (plan_after (plan_given p c) cs) x.0 x.1) (bookings_of p c) (bookings_in (plan_given p c) cs)
    (all_imp (λ x. Under (plan_given p c) x.0 x.1) (λ x. Under (plan_after (plan_given p c) cs) x.0 x.1) (bookings_of p c) (λ x U. list_under (plan_given p c) cs x.0 x.1 U) (call_booked p c))
    (kept (plan_given p c) cs)

pub once : OncePromise
once p cs = record { labels = labels p cs; kept = kept p cs }

-- ---- the numbers
step_pairs : (R : ℕ × ℕ → ℕ × ℕ → Type 0) (s : State) (c : Step) → Pairs R (bookings_at s c)
unfolding bookings_at
step_pairs R s (call c) = tt
step_pairs R s offer = tt
step_pairs R s (release k) = call_pairs R s.plan (plan_release s.floor k)
step_pairs R s (report r) = tt

pub step_numbers : (P : ℕ → Type 0) (s : State) (c : Step) → All P (booked_of s c) → All (λ x. P x.1) (bookings_at s c)
unfolding bookings_at bookings_of booked_of
step_numbers P s (call c) h = tt
step_numbers P s offer h = tt
step_numbers P s (release k) h = go (eqb (release_answer s.plan s.floor k).refusal 0) h
  where
    n : ℕ
    n = (release_answer s.plan s.floor k).number

    go : (b : Bool) → All P (cond b (n ∷ []) []) → All (λ (x : ℕ × ℕ). P x.1) (cond b ((k, n) ∷ []) [])
    go true h = h
    go false h = h
step_numbers P s (report r) h = tt

list_above : (s : State) (cs : List Step) (m : ℕ) → m ≤ s.floor.counters.last → well_formed s.floor ≡ true → All StepInRange cs → All (λ y. m < y.1) (step_bookings s cs)
unfolding bookings_in plan_calls_in
list_above s [] m l w t = tt
list_above s (c ∷ cs) m l w t =
    let K = step_keeps s c w t.0 in
    subst (All (λ y. m < y.1)) (sym (bookings_next s c cs)) (all_append (λ y. m < y.1) (bookings_at s c) (step_bookings (stepped s c) cs)
    (step_numbers (λ n. m < n) s c (all_imp (λ n. s.floor.counters.last < n) (λ n. m < n) (booked_of s c) (λ n h. omega arith) K.above))
    (list_above (stepped s c) cs m (omega (arith, K.rises)) K.well t.1))

pub rising : RisingPromise
unfolding bookings_in plan_calls_in
rising s w [] t = tt
rising s w (c ∷ cs) t =
    let K = step_keeps s c w t.0 in
    subst (Pairs (λ x y. x.1 < y.1)) (sym (bookings_next s c cs)) (pairs_append (λ x y. x.1 < y.1) (bookings_at s c) (step_bookings (stepped s c) cs) (step_pairs (λ x y. x.1 < y.1) s c) (rising (stepped s c) K.well cs t.1)
    (all_imp (λ x. x.1 ≤ (stepped s c).floor.counters.last) (λ x. All (λ y. x.1 < y.1) (step_bookings (stepped s c) cs)) (bookings_at s c)
    (λ x h. list_above (stepped s c) cs x.1 h K.well t.1) (step_numbers (λ n. n ≤ (stepped s c).floor.counters.last) s c K.upto)))
