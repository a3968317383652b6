-- No planned canister is booked before its predecessors were reported: `history`. The statement is specs/Promises.
use mathlib.Core.Path.{◌≡◌, refl, sym, ap, ◌∙◌, subst}
use mathlib.Core.Logic.{◌≢◌}
use mathlib.Core.Bool.{Bool, true, false, cond, not, ◌&&◌, ◌||◌, false≢true}
use mathlib.Core.List.Memᴰ
use mathlib.Core.List.{List, [], ◌∷◌, ◌++◌, map, append_assoc, append-nil, Memᴰ}
use Prim.Native.Nat.{ℕ}
use native.Mathlib.Omega.{arith}
use lib.Dec.{leb, ltb, eqb}
use borrow.Author.Tests.{eqb-true, eq-eqb, not-true, not-false}
use Rattle.laws.specs.Define.{all_of, any_of, pairs_of, refusal}
use Rattle.laws.specs.Every.{All}
use Rattle.laws.proofs.Tests.{not_both, and_left, and_right, test_none}
use Rattle.laws.proofs.Lists.{all_mem, all_imp, all_true, all_append, all_both, mem_map}
use Rattle.laws.proofs.Search.{any_find}
use Rattle.floor.specs.declared.Floor.{Floor}
use Rattle.floor.specs.Well.{well_formed}
use Rattle.plan.specs.declared.Entry.{Entry}
use Rattle.plan.specs.declared.Plan.{Plan}
use Rattle.plan.specs.Entries.{Stage, waiting, booked, delivered, stage_of, is_waiting, is_delivered, waits, was_delivered, used, predecessors, done, present, plan_sound, numbers_upto, entry_fits, plan_fits, ready, ready_label, changed, booked_as, released, reported}
use Rattle.plan.specs.Plans.{number_after, release_tests, release_booking, release_answer, numbers_in, report_tests, report_answer}
use Rattle.plan_floor.specs.Steps.{PlanCall, plan_offer, plan_release, plan_report, plan_given, plan_after, all_waiting, Event, booking, listing, events_of, events_in, BookedThenListed, here, later, predecessors_of}
use Rattle.plan_floor.specs.Promises.{HistoryPromise}
use Rattle.plan.proofs.Stages.{marked, booked_stage, reported_stage, reported_label, changed_all}
use Rattle.plan_floor.proofs.Written.{list_predecessors}

-- ---- what a stage says of the past
abbrev StageRecorded : ℕ → Stage → List Event → Type 0
StageRecorded k waiting past = Unit {0}
StageRecorded k (booked n) past = Memᴰ (booking k n) past
StageRecorded k delivered past = (n : ℕ) × BookedThenListed k n past

abbrev Recorded : List Event → Entry → Type 0
Recorded past e = StageRecorded e.label (stage_of e) past

-- more events take nothing back
still_reported : {k n : ℕ} {past : List Event} (new : List Event) → BookedThenListed k n past → BookedThenListed k n (past ++ new)
still_reported new (here m) = here (Memᴰ.append_left new m)
still_reported new (later r) = later (still_reported new r)

more : (k : ℕ) (s : Stage) (past new : List Event) → StageRecorded k s past → StageRecorded k s (past ++ new)
more k waiting past new h = tt
more k (booked n) past new h = Memᴰ.append_left new h
more k delivered past new h = (h.0, still_reported new h.1)

-- a number that is listed after its label was booked under it
listed_after : {k n : ℕ} {past : List Event} (new : List Event) → Memᴰ (booking k n) past → Memᴰ (listing n) new → BookedThenListed k n (past ++ new)
listed_after {k} {n} {past = e ∷ past} new (Memᴰ.head q) m = subst (λ (x : Event). BookedThenListed k n (x ∷ (past ++ new))) q (here (Memᴰ.append_right past m))
listed_after new (Memᴰ.tail b) m = later (listed_after new b m)

any_listed : (n : ℕ) (l : List ℕ) → any_of (eqb n) l ≡ true → Memᴰ (listing n) (map listing l)
any_listed n l h = let r = any_find (eqb n) l h in subst (λ (x : ℕ). Memᴰ (listing x) (map listing l)) (sym (eqb-true n r.0 r.2)) (mem_map listing r.1)

marked_recorded : (k : ℕ) (s : Stage) (l : List ℕ) (past : List Event) → StageRecorded k s past → StageRecorded k (marked l s) (past ++ map listing l)
marked_recorded k waiting l past h = tt
marked_recorded k (booked n) l past h = go (any_of (eqb n) l) refl
  where
    go : (b : Bool) → any_of (eqb n) l ≡ b → StageRecorded k (cond b delivered (booked n)) (past ++ map listing l)
    go true e = (n, listed_after (map listing l) h (any_listed n l e))
    go false e = Memᴰ.append_left (map listing l) h
marked_recorded k delivered l past h = more k delivered past (map listing l) h

-- ---- one entry
booked_recorded : (k n : ℕ) (e : Entry) (past : List Event) → Recorded past e → Recorded (past ++ (booking k n ∷ [])) (released k n e)
unfolding released
booked_recorded k n e past h = go (eqb e.label k) refl
  where
    go : (b : Bool) → eqb e.label k ≡ b → Recorded (past ++ (booking k n ∷ [])) (cond b (booked_as n e) e)
    go true q = subst (λ (s : Stage). StageRecorded e.label s (past ++ (booking k n ∷ []))) (sym (booked_stage n e)) (Memᴰ.append_right past (Memᴰ.head (ap (λ (x : ℕ). booking x n) (eqb-true e.label k q))))
    go false q = more e.label (stage_of e) past (booking k n ∷ []) h

marks_recorded : (l : List ℕ) (e : Entry) (past : List Event) → Recorded past e → Recorded (past ++ map listing l) (reported l e)
marks_recorded l e past h = rw (reported_stage l e, reported_label l e) (marked_recorded e.label (stage_of e) l past h)

-- ---- the invariant: every used entry is as the past says
abbrev Inv : Plan → List Event → Type 0
Inv p past = All (Recorded past) (used p)

none_new : (p : Plan) (past : List Event) → Inv p past → Inv p (past ++ [])
none_new p past h = rw (append-nil past) h

call_inv : (p : Plan) (c : PlanCall) (past : List Event) → Inv p past → Inv (plan_given p c) (past ++ events_of p c)
unfolding plan_given events_of release_answer report_answer
call_inv p plan_offer past h = none_new p past h
call_inv p (plan_release f k) past h = go (eqb (release_answer p f k).refusal 0)
  where
    n : ℕ
    n = number_after f

    go : (b : Bool) → Inv (cond b (changed p (released k n)) p) (past ++ cond b (booking k (cond b n 0) ∷ []) [])
    go true = changed_all (Recorded past) (Recorded (past ++ (booking k n ∷ []))) p (released k n) (λ e r. booked_recorded k n e past r) h
    go false = none_new p past h
call_inv p (plan_report r) past h = go (eqb (refusal (report_tests p r)) 0)
  where
    go : (b : Bool) → Inv (cond b (changed p (reported (numbers_in r))) p) (past ++ cond b (map listing (numbers_in r)) [])
    go true = changed_all (Recorded past) (Recorded (past ++ map listing (numbers_in r))) p (reported (numbers_in r)) (λ e q. marks_recorded (numbers_in r) e past q) h
    go false = none_new p past h

list_inv : (p : Plan) (cs : List PlanCall) (past : List Event) → Inv p past → Inv (plan_after p cs) (past ++ events_in p cs)
unfolding plan_after events_in
list_inv p [] past h = none_new p past h
list_inv p (c ∷ cs) past h =
    subst (λ (l : List Event). Inv (plan_after (plan_given p c) cs) l) (append_assoc past (events_of p c) (events_in (plan_given p c) cs))
    (list_inv (plan_given p c) cs (past ++ events_of p c) (call_inv p c past h))

-- ---- an accepted release
-- a choice that is 0
first : (n m : ℕ) → cond (eqb n 0) m n ≡ 0 → n ≡ 0
first n m h = go (eqb n 0) refl
  where
    go : (b : Bool) → eqb n 0 ≡ b → n ≡ 0
    go true e = eqb-true n 0 e
    go false e = rw e at h

-- what its tests found
pub record Passed (p : Plan) (f : Floor) (k : ℕ) : Type 0 where
  pub sound : plan_sound p ≡ true
  pub well : well_formed f ≡ true
  pub upto : numbers_upto f.counters.last p ≡ true
  pub fits : plan_fits p ≡ true
  pub is_ready : ready_label (used p) k ≡ true

pub tests_passed : (p : Plan) (f : Floor) (k : ℕ) → refusal (release_tests p f k) ≡ 0 → Passed p f k
unfolding release_tests
tests_passed p f k h =
    let a = test_none (not (plan_sound p)) 30 _ (omega arith) h in
    let b = test_none (not (well_formed f)) 30 _ (omega arith) a.1 in
    let c = test_none (not (numbers_upto f.counters.last p)) 30 _ (omega arith) b.1 in
    let d = test_none (not (plan_fits p)) 47 _ (omega arith) c.1 in
    let e = test_none (not (ready_label (used p) k)) 48 [] (omega arith) d.1 in
    record {
      sound = not-false (plan_sound p) a.0;
      well = not-false (well_formed f) b.0;
      upto = not-false (numbers_upto f.counters.last p) c.0;
      fits = not-false (plan_fits p) d.0;
      is_ready = not-false (ready_label (used p) k) e.0;
    }

pub own_passed : (p : Plan) (f : Floor) (k : ℕ) → (release_answer p f k).refusal ≡ 0 → refusal (release_tests p f k) ≡ 0
unfolding release_answer
own_passed p f k h = first (refusal (release_tests p f k)) (release_booking p f k).refusal h

pub accepted : (p : Plan) (f : Floor) (k : ℕ) → (release_answer p f k).refusal ≡ 0 → Passed p f k
accepted p f k h = tests_passed p f k (own_passed p f k h)

-- the entries of one label are one entry
pub DistinctLabels : List Entry → Type 0
DistinctLabels es = (x y : Entry) → Memᴰ x es → Memᴰ y es → x.label ≡ y.label → x ≡ y

pub distinct_labels : (es : List Entry) → pairs_of (λ x y. not (eqb x.label y.label)) es ≡ true → DistinctLabels es
unfolding DistinctLabels pairs_of
distinct_labels [] h x y a b e = absurd (Memᴰ.not-nil a)
distinct_labels (z ∷ es) h x y a b e = go a b (distinct_labels es (and_right (all_of (λ y. not (eqb z.label y.label)) es) (pairs_of (λ x y. not (eqb x.label y.label)) es) h))
  where
    away : (y : Entry) → Memᴰ y es → z.label ≢ y.label
    away y m q = not_both (eq-eqb z.label y.label q) (not-true (eqb z.label y.label) (all_mem (λ y. not (eqb z.label y.label) ≡ true) m (all_true (λ y. not (eqb z.label y.label)) es (and_left (all_of (λ y. not (eqb z.label y.label)) es) (pairs_of (λ x y. not (eqb x.label y.label)) es) h))))

    go : Memᴰ x (z ∷ es) → Memᴰ y (z ∷ es) → DistinctLabels es → x ≡ y
    go (Memᴰ.head p) (Memᴰ.head q) ih = p ∙ sym q
    go (Memᴰ.head p) (Memᴰ.tail q) ih = absurd (away y q (sym (ap (λ (w : Entry). w.label) p) ∙ e))
    go (Memᴰ.tail p) (Memᴰ.head q) ih = absurd (away x p (sym (ap (λ (w : Entry). w.label) q) ∙ sym e))
    go (Memᴰ.tail p) (Memᴰ.tail q) ih = ih x y p q e

-- what holds of the predecessors of each entry of label k
before_all : (P : ℕ → Type 0) (k : ℕ) (es : List Entry) → ((e : Entry) → Memᴰ e es → e.label ≡ k → All P (predecessors e)) → All P (predecessors_of es k)
unfolding predecessors_of
before_all P k [] f = tt
before_all P k (e ∷ es) f = all_append P (cond (eqb e.label k) (predecessors e) []) (predecessors_of es k) (go (eqb e.label k) refl) (before_all P k es (λ x m. f x (Memᴰ.tail m)))
  where
    go : (b : Bool) → eqb e.label k ≡ b → All P (cond b (predecessors e) [])
    go true q = f e (Memᴰ.head refl) (eqb-true e.label k q)
    go false q = tt

module _ (p : Plan) (fits : plan_fits p ≡ true) where
  abbrev es : List Entry
  es = used p

  pub fits_entry : (e : Entry) → Memᴰ e es → entry_fits es e ≡ true
  unfolding plan_fits
  fits_entry e m = all_mem (λ e. entry_fits es e ≡ true) m (all_true (entry_fits es) es (and_left (all_of (entry_fits es) es) _ fits))

  -- a predecessor is lower, and some entry has its label
  pub fits_predecessors : (e : Entry) → Memᴰ e es → All (λ j. (ltb j e.label && present es j) ≡ true) (predecessors e)
  unfolding entry_fits
  fits_predecessors e m = all_true (λ j. ltb j e.label && present es j) (predecessors e) (and_right (leb 1 e.label && leb e.label 64) _ (fits_entry e m))

  pub fits_distinct : DistinctLabels es
  unfolding plan_fits
  fits_distinct = distinct_labels es (and_right (all_of (entry_fits es) es) _ fits)

  -- the entry that is ready under label k
  pub ready_entry : (k : ℕ) → ready_label es k ≡ true → (e : Entry) × Memᴰ e es × (e.label ≡ k) × (ready es e ≡ true)
  unfolding ready_label
  ready_entry k r =
      let w = any_find (λ e. eqb e.label k && ready es e) es r in
      let e = w.0 in
      (e, w.1, eqb-true e.label k (and_left (eqb e.label k) (ready es e) w.2), and_right (eqb e.label k) (ready es e) w.2)

  -- every entry of that label is ready
  pub all_ready : (k : ℕ) → ready_label es k ≡ true → (x : Entry) → Memᴰ x es → x.label ≡ k → ready es x ≡ true
  unfolding DistinctLabels
  all_ready k r x m q = let w = ready_entry k r in subst (λ (z : Entry). ready es z ≡ true) (fits_distinct w.0 x w.1 m (w.2 ∙ sym q)) w.3

  module _ (past : List Event) (inv : Inv p past) where
    abbrev Was : ℕ → Type 0
    Was j = (n : ℕ) × BookedThenListed j n past

    -- a label that is done was reported
    done_reported : (j : ℕ) → present es j ≡ true → done es j ≡ true → Was j
    unfolding present done
    done_reported j there d =
        let r = any_find (λ x. eqb x.label j) es there in
        let x = r.0 in
        let q = all_mem (λ x. (not (eqb x.label j) || was_delivered x) ≡ true) r.1 (all_true (λ x. not (eqb x.label j) || was_delivered x) es d) in
        subst Was (eqb-true x.label j r.2) (was_listed (stage_of x) (subst (λ (b : Bool). (not b || was_delivered x) ≡ true) r.2 q) (all_mem (Recorded past) r.1 inv))
      where
        was_listed : {i : ℕ} (s : Stage) → is_delivered s ≡ true → StageRecorded i s past → Was i
        was_listed waiting h t = absurd (false≢true h)
        was_listed (booked n) h t = absurd (false≢true h)
        was_listed delivered h t = t

    ready_reported : (e : Entry) → Memᴰ e es → ready es e ≡ true → All Was (predecessors e)
    unfolding ready
    ready_reported e m r =
        let d = all_true (done es) (predecessors e) (and_right (waits e) (all_of (done es) (predecessors e)) r) in
        all_imp (λ j. ((ltb j e.label && present es j) ≡ true) × (done es j ≡ true)) Was (predecessors e)
        (λ j h. done_reported j (and_right (ltb j e.label) (present es j) h.0) h.1)
        (all_both (λ j. (ltb j e.label && present es j) ≡ true) (λ j. done es j ≡ true) (predecessors e) (fits_predecessors e m) d)

    release_reported : (k : ℕ) → ready_label es k ≡ true → All Was (predecessors_of es k)
    release_reported k r = before_all Was k es (λ x m q. ready_reported x m (all_ready k r x m q))

-- "all began waiting"
waiting_inv : (p : Plan) → all_waiting p ≡ true → Inv p []
unfolding all_waiting
waiting_inv p h = all_imp (λ e. waits e ≡ true) (Recorded []) (used p) (λ e w. go e.label (stage_of e) w) (all_true waits (used p) h)
  where
    go : (k : ℕ) (s : Stage) → is_waiting s ≡ true → StageRecorded k s []
    go k waiting w = tt
    go k (booked n) w = absurd (false≢true w)
    go k delivered w = absurd (false≢true w)

pub history : HistoryPromise
history p h cs f k e =
    let now = plan_after p cs in
    let P = accepted now f k e in
    subst (All (λ j. (n : ℕ) × BookedThenListed j n (events_in p cs))) (list_predecessors p cs k)
    (release_reported now P.fits (events_in p cs) (list_inv p cs [] (waiting_inv p h)) k P.is_ready)
