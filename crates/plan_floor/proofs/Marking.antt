-- A list without accepted bookings and releases, in which each round's report is handed to the plan: what it leaves of the plan, and that a number which a round reported is marked.
use mathlib.Core.Path.{◌≡◌, refl, sym, ap, ◌∙◌, subst}
use mathlib.Core.Logic.{◌⊎◌, inl, inr}
use mathlib.Core.Bool.{Bool, true, false, cond, true≢false}
use mathlib.Core.List.Memᴰ
use mathlib.Core.List.{List, [], ◌∷◌, ◌++◌, map, Memᴰ}
use Prim.Native.Nat.{ℕ, zero, suc, ◌≤◌, ◌<◌}
use native.Mathlib.Omega.{arith}
use lib.Dec.{eqb}
use lib.ListN.{length, get_or}
use borrow.Author.Tests.{eq-eqb}
use Rattle.laws.specs.Define.{join, filter, refusal}
use Rattle.laws.specs.Every.{All}
use Rattle.laws.proofs.Lists.{all_mem}
use Rattle.laws.proofs.Search.{any_mem}
use Rattle.floor.specs.declared.Delivery.{Delivery}
use Rattle.floor.specs.declared.Floor.{Floor}
use Rattle.floor.specs.declared.Report.{Report}
use Rattle.floor.specs.Well.{well_formed}
use Rattle.floor.specs.Calls.{no_delivery, round_answer}
use Rattle.floor.specs.Reports.{listed, listed_at}
use Rattle.floor.specs.Demand3.{Call, book, anywhere, stop, repair, round, keep as keeping, forget, recall, list, outcome, floor_after, disturbs, Quiet}
use Rattle.floor.proofs.Reports.{reports}
use Rattle.plan.specs.declared.Entry.{Entry}
use Rattle.plan.specs.declared.Plan.{Plan}
use Rattle.plan.specs.Entries.{Stage, waiting, booked, delivered, stage_of, is_waiting, is_delivered, waits, was_delivered, used, plan_fits, changed, released, reported}
use Rattle.plan.specs.Plans.{release_tests, number_after, tile_for, release_booking, release_answer, numbers_in, report_tests, report_answer}
use Rattle.plan_floor.specs.Steps.{Step, call, offer, release, report, State, stepped, state_after, StepInRange, report_of_call, reports_of, calls_of, calls_in, reported_of, reported_by}
use Rattle.plan_floor.specs.Ending.{HandedIn, waiting_in}
use Rattle.plan.proofs.Stages.{marked, booked_number_lem, reported_stage, reported_label, other_label, used_changed, changed_all}
use Rattle.plan_floor.proofs.Keeping.{reported_waits, reported_delivered}
use Rattle.plan_floor.proofs.AsCalls.{same_step}
use Rattle.plan_floor.proofs.Soundness.{good_sound, Fine, step_fine, reports_by}
use Rattle.plan_floor.proofs.Once.{IsUnder, Under, not_again, step_under}
use Rattle.plan_floor.proofs.Rounds.{four_lists}

-- every entry of label k is delivered
abbrev IsDone : ℕ → Entry → Type 0
IsDone k e = e.label ≡ k → was_delivered e ≡ true

abbrev pub Arrived : Plan → ℕ → Type 0
Arrived p k = All (IsDone k) (used p)

step_arrived : (s : State) (c : Step) (k n : ℕ) → Under s.plan k n → Arrived s.plan k → Arrived (stepped s c).plan k
unfolding stepped release_answer report_answer
step_arrived s (call c) k n U D = D
step_arrived s offer k n U D = D
step_arrived s (release j) k n U D = go (eqb (release_answer s.plan s.floor j).refusal 0) refl
  where
    go : (b : Bool) → eqb (release_answer s.plan s.floor j).refusal 0 ≡ b → Arrived (cond b (changed s.plan (released j (number_after s.floor))) s.plan) k
    go true e = changed_all (IsDone k) (IsDone k) s.plan (released j (number_after s.floor)) (other_label (λ e. was_delivered e ≡ true) k j (number_after s.floor) (not_again s.plan s.floor k n j U e)) D
    go false e = D
step_arrived s (report r) k n U D = go (eqb (refusal (report_tests s.plan r)) 0)
  where
    l : List ℕ
    l = numbers_in r

    go : (b : Bool) → Arrived (cond b (changed s.plan (reported l)) s.plan) k
    go true = changed_all (IsDone k) (IsDone k) s.plan (reported l) (λ e u q. reported_delivered l e (u (sym (reported_label l e) ∙ q))) D
    go false = D

list_arrived : (s : State) (cs : List Step) (k n : ℕ) → Under s.plan k n → Arrived s.plan k → Arrived (state_after s cs).plan k
unfolding state_after
list_arrived s [] k n U D = D
list_arrived s (c ∷ cs) k n U D = list_arrived (stepped s c) cs k n (step_under s c k n U) (step_arrived s c k n U D)

-- ---- a report that lists the number
abbrev Few : Report → Type 0
Few r = All (λ d. d.count ≤ 4) r.deliveries

marks : (l : List ℕ) (k n : ℕ) → Memᴰ n l → (e : Entry) → IsUnder k n e → IsDone k (reported l e)
marks l k n m e u q = ap is_delivered (reported_stage l e) ∙ go (stage_of e) refl (u (sym (reported_label l e) ∙ q))
  where
    go : (s : Stage) → stage_of e ≡ s → (e.number ≡ n) × (is_waiting s ≡ false) → is_delivered (marked l s) ≡ true
    go waiting h v = absurd (true≢false v.1)
    go delivered h v = refl
    go (booked i) h v = ap (λ (b : Bool). is_delivered (cond b delivered (booked i))) (any_mem (eqb i) m (eq-eqb i n (sym (booked_number_lem e i h) ∙ v.0)))

report_marks : (s : State) (r : Report) (k n : ℕ) → Fine s → plan_fits s.plan ≡ true → Few r → Memᴰ n (numbers_in r) → Under s.plan k n → Arrived (stepped s (report r)).plan k
unfolding stepped report_answer
report_marks s r k n F fits few m U =
    let last = s.floor.counters.last in
    let ok : refusal (report_tests s.plan r) ≡ 0 = reports_by s.plan (good_sound last s.plan F.1) r few ∙ ap (λ (b : Bool). cond b 0 47) fits in
    rw ok (changed_all (IsUnder k n) (IsDone k) s.plan (reported (numbers_in r)) (marks (numbers_in r) k n m) U)

-- handed in somewhere in the list
handed_marks : (s : State) (cs : List Step) (r : Report) (k n : ℕ) → All StepInRange cs → Fine s → plan_fits s.plan ≡ true → Few r → Memᴰ n (numbers_in r) → Under s.plan k n → Memᴰ (report r) cs
    → Arrived (state_after s cs).plan k
unfolding state_after
handed_marks s [] r k n T F fits few m U h = absurd (Memᴰ.not-nil h)
handed_marks s (c ∷ cs) r k n T F fits few m U (Memᴰ.head q) =
    list_arrived (stepped s c) cs k n (step_under s c k n U) (subst (λ (c : Step). Arrived (stepped s c).plan k) q (report_marks s r k n F fits few m U))
handed_marks s (c ∷ cs) r k n T F fits few m U (Memᴰ.tail h) =
    let N = step_fine s c T.0 F in
    handed_marks (stepped s c) cs r k n T.1 N.0 (N.1 ∙ fits) few m (step_under s c k n U) h

-- ---- a round that reports the number
join_mem : (ds : List Delivery) (j n : ℕ) → j < length ds → Memᴰ n (listed (get_or ds j no_delivery)) → Memᴰ n (join (map listed ds))
unfolding join
join_mem [] j n h m = absurd (omega arith)
join_mem (d ∷ ds) zero n h m = Memᴰ.append_left (join (map listed ds)) m
join_mem (d ∷ ds) (suc j) n h m = Memᴰ.append_right (listed d) (join_mem ds j n (omega arith) m)

all_at : {A : Type 0} (P : A → Type 0) (l : List A) (z : A) → ((k : ℕ) → P (get_or l k z)) → All P l
all_at P [] z h = tt
all_at P (x ∷ l) z h = (h 0, all_at P l z (λ k. h (suc k)))

round_few : (f : Floor) → well_formed f ≡ true → Few (round_answer f).report
round_few f w = all_at (λ d. d.count ≤ 4) (round_answer f).report.deliveries no_delivery (λ k. ((reports f w).each k).few)

-- the report of a round on a well-formed floor
Lists : List Report → ℕ → Type 0
Lists rs n = (r : Report) × Memᴰ r rs × Few r × Memᴰ n (numbers_in r)

call_lists : (f : Floor) (c : Call) (j n : ℕ) → well_formed f ≡ true → j < 4 → Memᴰ n ((outcome f c).reported j) → Lists (report_of_call f c) n
unfolding outcome listed_at report_of_call numbers_in round_answer Lists
call_lists f (book t c) j n w h m = absurd (Memᴰ.not-nil m)
call_lists f (anywhere t number) j n w h m = absurd (Memᴰ.not-nil m)
call_lists f (stop t) j n w h m = absurd (Memᴰ.not-nil m)
call_lists f (repair t) j n w h m = absurd (Memᴰ.not-nil m)
call_lists f round j n w h m =
    let r = (round_answer f).report in
    (r, Memᴰ.head refl, round_few f w, join_mem r.deliveries j n (omega (arith, four_lists f)) m)
call_lists f (keeping name) j n w h m = absurd (Memᴰ.not-nil m)
call_lists f (forget name) j n w h m = absurd (Memᴰ.not-nil m)
call_lists f (recall name) j n w h m = absurd (Memᴰ.not-nil m)
call_lists f (list l) j n w h m = absurd (Memᴰ.not-nil m)

step_lists : (s : State) (c : Step) (j n : ℕ) → well_formed s.floor ≡ true → j < 4 → Memᴰ n (reported_of s c j) → Lists (reports_of s c) n
unfolding reported_of reports_of
step_lists s (call c) j n w h m = call_lists s.floor c j n w h m
step_lists s offer j n w h m = absurd (Memᴰ.not-nil m)
step_lists s (release k) j n w h m = absurd (Memᴰ.not-nil m)
step_lists s (report r) j n w h m = absurd (Memᴰ.not-nil m)

-- a number that a round of the list reports is marked
pub round_marks : (s : State) (cs : List Step) (j k n : ℕ) → All StepInRange cs → Fine s → plan_fits s.plan ≡ true → Under s.plan k n → HandedIn s cs → j < 4 → Memᴰ n (reported_by s cs j) → Arrived (state_after s cs).plan k
unfolding state_after reported_by Lists
round_marks s [] j k n T F fits U H h m = absurd (Memᴰ.not-nil m)
round_marks s (c ∷ cs) j k n T F fits U H h m =
    let N = step_fine s c T.0 F in
    let Y = step_under s c k n U in
    go (Memᴰ.append_cases (reported_of s c j) m) N.0 (N.1 ∙ fits) Y (λ q. round_marks (stepped s c) cs j k n T.1 N.0 (N.1 ∙ fits) Y H.1 h q)
  where
    go : Memᴰ n (reported_of s c j) ⊎ Memᴰ n (reported_by (stepped s c) cs j) → Fine (stepped s c) → plan_fits (stepped s c).plan ≡ true → Under (stepped s c).plan k n
        → (Memᴰ n (reported_by (stepped s c) cs j) → Arrived (state_after (stepped s c) cs).plan k) → Arrived (state_after (stepped s c) cs).plan k
    go (inl q) G fit Y ih =
        let L = step_lists s c j n F.0 h q in
        handed_marks (stepped s c) cs L.0 k n T.1 G fit L.2 L.3 Y (all_mem (λ r. Memᴰ (report r) cs) L.1 H.0)
    go (inr q) G fit Y ih = ih q

-- ---- a quiet list
quiet_both : (f : Floor) (cs ds : List Call) → Quiet f (cs ++ ds) → Quiet f cs × Quiet (floor_after f cs) ds
unfolding floor_after
quiet_both f [] ds q = (tt, q)
quiet_both f (c ∷ cs) ds q = let r = quiet_both (outcome f c).floor cs ds q.1 in ((q.0, r.0), r.1)

quiet_split : (s : State) (c : Step) (cs : List Step) → Quiet s.floor (calls_in s (c ∷ cs)) → Quiet s.floor (calls_of s c) × Quiet (stepped s c).floor (calls_in (stepped s c) cs)
unfolding calls_in
quiet_split s c cs q =
    let r = quiet_both s.floor (calls_of s c) (calls_in (stepped s c) cs) q in
    (r.0, subst (λ (f : Floor). Quiet f (calls_in (stepped s c) cs)) (same_step s c).floor r.1)

-- no release in it is accepted
quiet_refused : (s : State) (k : ℕ) → Quiet s.floor (calls_of s (release k)) → eqb (release_answer s.plan s.floor k).refusal 0 ≡ false
unfolding calls_of release_answer release_booking disturbs outcome
quiet_refused s k q = go (eqb (refusal (release_tests s.plan s.floor k)) 0) refl q
  where
    own : ℕ
    own = refusal (release_tests s.plan s.floor k)

    go : (b : Bool) → eqb own 0 ≡ b → Quiet s.floor (cond b (anywhere (tile_for (used s.plan) k) (number_after s.floor) ∷ []) []) → eqb (cond b (release_booking s.plan s.floor k).refusal own) 0 ≡ false
    go true e q = q.0
    go false e q = e

-- what a report leaves stays
module _ (P : Entry → Type 0) (still : (l : List ℕ) (e : Entry) → P e → P (reported l e)) where
  quiet_step : (s : State) (c : Step) → Quiet s.floor (calls_of s c) → All P (used s.plan) → All P (used (stepped s c).plan)
  unfolding stepped release_answer report_answer
  quiet_step s (call c) q h = h
  quiet_step s offer q h = h
  quiet_step s (release k) q h = rw (quiet_refused s k q) h
  quiet_step s (report r) q h = go (eqb (refusal (report_tests s.plan r)) 0)
    where
      go : (b : Bool) → All P (used (cond b (changed s.plan (reported (numbers_in r))) s.plan))
      go true = changed_all P P s.plan (reported (numbers_in r)) (still (numbers_in r)) h
      go false = h

  pub quiet_list : (s : State) (cs : List Step) → Quiet s.floor (calls_in s cs) → All P (used s.plan) → All P (used (state_after s cs).plan)
  unfolding state_after
  quiet_list s [] q h = h
  quiet_list s (c ∷ cs) q h = let r = quiet_split s c cs q in quiet_list (stepped s c) cs r.1 (quiet_step s c r.0 h)

-- nobody begins or stops waiting
same_waiting : (l : List ℕ) (es : List Entry) → length (filter waits (map (reported l) es)) ≡ length (filter waits es)
unfolding filter
same_waiting l [] = refl
same_waiting l (e ∷ es) = ap (λ (b : Bool). length (cond b (reported l e ∷ filter waits (map (reported l) es)) (filter waits (map (reported l) es)))) (reported_waits l e) ∙ go (waits e) (same_waiting l es)
  where
    go : (b : Bool) → length (filter waits (map (reported l) es)) ≡ length (filter waits es) → length (cond b (reported l e ∷ filter waits (map (reported l) es)) (filter waits (map (reported l) es))) ≡ length (cond b (e ∷ filter waits es) (filter waits es))
    go true ih = ap suc ih
    go false ih = ih

step_waiting : (s : State) (c : Step) → Quiet s.floor (calls_of s c) → waiting_in (stepped s c).plan ≡ waiting_in s.plan
unfolding stepped release_answer report_answer waiting_in
step_waiting s (call c) q = refl
step_waiting s offer q = refl
step_waiting s (release k) q = rw (quiet_refused s k q)
step_waiting s (report r) q = go (eqb (refusal (report_tests s.plan r)) 0)
  where
    go : (b : Bool) → length (filter waits (used (cond b (changed s.plan (reported (numbers_in r))) s.plan))) ≡ length (filter waits (used s.plan))
    go true = ap (λ (es : List Entry). length (filter waits es)) (used_changed s.plan (reported (numbers_in r))) ∙ same_waiting (numbers_in r) (used s.plan)
    go false = refl

pub quiet_waiting : (s : State) (cs : List Step) → Quiet s.floor (calls_in s cs) → waiting_in (state_after s cs).plan ≡ waiting_in s.plan
unfolding state_after
quiet_waiting s [] q = refl
quiet_waiting s (c ∷ cs) q = let r = quiet_split s c cs q in quiet_waiting (stepped s c) cs r.1 ∙ step_waiting s c r.0
