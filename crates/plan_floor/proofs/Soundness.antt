-- A sound plan is never refused by 30 for itself, and by 47 only if it was so at first: `stays_sound`; all waiting is sound: `waiting_sound`; whatever floors its releases were on: `plan_stays`. The statements are specs/Promises.
use mathlib.Core.Path.{◌≡◌, refl, sym, ap, ◌∙◌, subst}
use mathlib.Core.Logic.{◌≢◌}
use mathlib.Core.Bool.{Bool, true, false, cond, not, ◌&&◌}
use mathlib.Core.List.{List, [], ◌∷◌, map}
use Prim.Native.Nat.{ℕ, ◌≤◌, ◌<◌}
use native.Mathlib.Omega.{arith}
use lib.Dec.{leb, ltb, eqb}
use borrow.Author.Tests.{eqb-true, le-leb, leb-true, le-ltb}
use Rattle.laws.specs.Define.{all_of, pairs_of, refusal}
use Rattle.laws.specs.Every.{All, Pairs}
use Rattle.laws.proofs.Tests.{and_left, and_right, and_true, or_left, r_ne, r_le, r_lt, r_and, r_all, r_pairs}
use Rattle.laws.proofs.Lists.{all_of_lem, all_imp, all_true, true_all}
use Rattle.laws.proofs.Search.{none_any}
use Rattle.floor.specs.declared.Floor.{Floor}
use Rattle.floor.specs.declared.Report.{Report}
use Rattle.floor.specs.Memory.{view}
use Rattle.floor.specs.Well.{well_formed}
use Rattle.floor.specs.Calls.{refusal_of, answer}
use Rattle.floor.specs.Anywhere.{anywhere_tests, anywhere_answer}
use Rattle.plan.specs.declared.Entry.{Entry}
use Rattle.plan.specs.declared.Plan.{Plan}
use Rattle.plan.specs.Entries.{waits, booked_number, used, predecessors, done, booked_numbers, after_predecessors, plan_sound, numbers_upto, entry_fits, plan_fits, ready, ready_label, changed, released, reported}
use Rattle.plan.specs.Plans.{offer_tests, offer_answer, release_tests, number_after, tile_for, release_booking, release_answer, numbers_in, report_tests, report_answer}
use Rattle.plan_floor.specs.Steps.{PlanCall, plan_offer, plan_release, plan_report, plan_given, plan_after, all_waiting, Step, call, offer, release, report, State, stepped, state_after, StepInRange, booked_of}
use Rattle.plan_floor.specs.Promises.{PlanStays, SoundPromise, WaitingPromise, PlanSoundPromise}
use Rattle.plan.proofs.Stages.{used_changed, waiting_booked_number, none_booked_number}
use Rattle.plan_floor.proofs.History.{accepted, all_ready}
use Rattle.plan_floor.proofs.AsCalls.{StepKeeps, step_keeps}
use Rattle.plan_floor.proofs.Written.{released_plain, reported_plain}
use Rattle.plan_floor.proofs.Keeping.{Ordered, same_fits, released_ordered, released_all, released_differ, reported_ordered, reported_all_lem, reported_differ}

-- ---- what the tests of a plan say
pub record Good (last : ℕ) (n : ℕ) (es : List Entry) : Type 0 where
  pub few : n ≤ 64
  pub ordered : Ordered es
  pub differ : Pairs (λ x y. x ≢ y) (booked_numbers es)
  pub upto : All (λ n. (0 < n) × (n ≤ last)) (booked_numbers es)

pub good_sound : (last : ℕ) (p : Plan) → Good last p.count (used p) → plan_sound p ≡ true
unfolding plan_sound
good_sound last p G =
    and_true (le-leb p.count 64 G.few)
    (and_true (true_all (after_predecessors (used p)) (used p) G.ordered) ((r_pairs (λ x y. not (eqb x y)) (λ x y. x ≢ y) r_ne (booked_numbers (used p))).1 G.differ))

pub good_upto : (last : ℕ) (p : Plan) → Good last p.count (used p) → numbers_upto last p ≡ true
unfolding numbers_upto
good_upto last p G = (r_all (λ n. ltb 0 n && leb n last) (λ n. (0 < n) × (n ≤ last)) (λ n. r_and (r_lt 0 n) (r_le n last)) (booked_numbers (used p))).1 G.upto

pub sound_good : (last : ℕ) (p : Plan) → plan_sound p ≡ true → numbers_upto last p ≡ true → Good last p.count (used p)
unfolding plan_sound numbers_upto
sound_good last p S U =
    let r = and_right (leb p.count 64) _ S in
    record {
      few = leb-true p.count 64 (and_left (leb p.count 64) _ S);
      ordered = all_true (after_predecessors (used p)) (used p) (and_left (all_of (after_predecessors (used p)) (used p)) _ r);
      differ = (r_pairs (λ x y. not (eqb x y)) (λ x y. x ≢ y) r_ne (booked_numbers (used p))).0 (and_right (all_of (after_predecessors (used p)) (used p)) _ r);
      upto = (r_all (λ n. ltb 0 n && leb n last) (λ n. (0 < n) × (n ≤ last)) (λ n. r_and (r_lt 0 n) (r_le n last)) (booked_numbers (used p))).0 U;
    }

pub labels_differ : (p : Plan) → plan_fits p ≡ true → Pairs (λ x y. x.label ≢ y.label) (used p)
unfolding plan_fits
labels_differ p fits =
    (r_pairs (λ x y. not (eqb x.label y.label)) (λ x y. x.label ≢ y.label) (λ x y. r_ne x.label y.label) (used p)).0 (and_right (all_of (entry_fits (used p)) (used p)) _ fits)

-- ---- one step
module _ (s : State) where
  abbrev p : Plan
  p = s.plan

  abbrev f : Floor
  f = s.floor

  abbrev last : ℕ
  last = f.counters.last

  later_last : (n : ℕ) (es : List Entry) (last' : ℕ) → last ≤ last' → Good last n es → Good last' n es
  later_last n es last' h G = record { few = G.few; ordered = G.ordered; differ = G.differ; upto = all_imp (λ n. (0 < n) × (n ≤ last)) (λ n. (0 < n) × (n ≤ last')) (booked_numbers es) (λ n q. (q.0, omega (arith, q.1))) G.upto }

  release_good : (k n last' : ℕ) → plan_fits p ≡ true → ready_label (used p) k ≡ true → last < n → n ≤ last' → Good last p.count (used p) → Good last' p.count (map (released k n) (used p))
  unfolding ready
  release_good k n last' fits r lo hi G =
      let W = all_of_lem (λ x. x.label ≡ k → booked_number x ≡ []) (used p) (λ x m q. waiting_booked_number x (and_left (waits x) (all_of (done (used p)) (predecessors x)) (all_ready p fits k r x m q))) in
      let N = all_imp (λ m. (0 < m) × (m ≤ last)) (λ m. n ≢ m) (booked_numbers (used p)) (λ m q e. omega (arith, q.1)) G.upto in
      record {
        few = G.few;
        ordered = released_ordered p fits k n r G.ordered;
        differ = released_differ k n (used p) (labels_differ p fits) W G.differ N;
        upto = released_all (λ m. (0 < m) × (m ≤ last')) k n (used p) (omega arith, hi) (all_imp (λ m. (0 < m) × (m ≤ last)) (λ m. (0 < m) × (m ≤ last')) (booked_numbers (used p)) (λ m q. (q.0, omega (arith, q.1))) G.upto);
      }

  report_good : (l : List ℕ) → Good last p.count (used p) → Good last p.count (map (reported l) (used p))
  report_good l G = record {
    few = G.few;
    ordered = reported_ordered l (used p) G.ordered;
    differ = reported_differ l (used p) G.differ;
    upto = reported_all_lem (λ m. (0 < m) × (m ≤ last)) l (used p) G.upto;
  }

abbrev pub Fine : State → Type 0
Fine s = (well_formed s.floor ≡ true) × Good s.floor.counters.last s.plan.count (used s.plan)

-- the release's plan and last number, by whether it was accepted
release_fine : (s : State) (k : ℕ) → Fine s → StepKeeps s (release k) → Fine (stepped s (release k)) × (plan_fits (stepped s (release k)).plan ≡ plan_fits s.plan)
unfolding stepped release_answer booked_of
release_fine s k F K = go (eqb (release_answer s.plan s.floor k).refusal 0) refl K.well K.rises K.above K.upto
  where
    n : ℕ
    n = number_after s.floor

    g : Bool → Floor
    g b = cond b (release_booking s.plan s.floor k).floor s.floor

    q : Bool → Plan
    q b = cond b (changed s.plan (released k n)) s.plan

    go : (b : Bool) → eqb (release_answer s.plan s.floor k).refusal 0 ≡ b → well_formed (g b) ≡ true → s.floor.counters.last ≤ (g b).counters.last
        → All (λ m. s.floor.counters.last < m) (cond b (cond b n 0 ∷ []) []) → All (λ m. m ≤ (g b).counters.last) (cond b (cond b n 0 ∷ []) [])
        → ((well_formed (g b) ≡ true) × Good (g b).counters.last (q b).count (used (q b))) × (plan_fits (q b) ≡ plan_fits s.plan)
    go true e w rises lo hi =
        let A = accepted s.plan s.floor k (eqb-true _ 0 e) in (
          (w, subst (Good (g true).counters.last s.plan.count) (sym (used_changed s.plan (released k n))) (release_good s k n (g true).counters.last A.fits A.is_ready lo.0 hi.0 F.1)),
          same_fits (released k n) (released_plain k n) s.plan,
        )
    go false e w rises lo hi = ((w, F.1), refl)

report_fine : (s : State) (r : Report) → Fine s → Fine (stepped s (report r)) × (plan_fits (stepped s (report r)).plan ≡ plan_fits s.plan)
unfolding stepped report_answer
report_fine s r F = go (eqb (refusal (report_tests s.plan r)) 0)
  where
    l : List ℕ
    l = numbers_in r

    go : (b : Bool) → ((well_formed s.floor ≡ true) × Good s.floor.counters.last (cond b (changed s.plan (reported l)) s.plan).count (used (cond b (changed s.plan (reported l)) s.plan)))
        × (plan_fits (cond b (changed s.plan (reported l)) s.plan) ≡ plan_fits s.plan)
    go true = ((F.0, subst (Good s.floor.counters.last s.plan.count) (sym (used_changed s.plan (reported l))) (report_good s l F.1)), same_fits (reported l) (reported_plain l) s.plan)
    go false = (F, refl)

pub step_fine : (s : State) (c : Step) → StepInRange c → Fine s → Fine (stepped s c) × (plan_fits (stepped s c).plan ≡ plan_fits s.plan)
unfolding stepped
step_fine s (call c) t F = let K = step_keeps s (call c) F.0 t in ((K.well, later_last s s.plan.count (used s.plan) (stepped s (call c)).floor.counters.last K.rises F.1), refl)
step_fine s offer t F = (F, refl)
step_fine s (release k) t F = release_fine s k F (step_keeps s (release k) F.0 t)
step_fine s (report r) t F = report_fine s r F

pub list_fine : (s : State) (cs : List Step) → All StepInRange cs → Fine s → Fine (state_after s cs) × (plan_fits (state_after s cs).plan ≡ plan_fits s.plan)
unfolding state_after
list_fine s [] t F = (F, refl)
list_fine s (c ∷ cs) t F = let A = step_fine s c t.0 F in let B = list_fine (stepped s c) cs t.1 A.0 in (B.0, B.1 ∙ A.1)

-- ---- at first
waiting_good : (last : ℕ) (p : Plan) → all_waiting p ≡ true → p.count ≤ 64 → Good last p.count (used p)
unfolding all_waiting after_predecessors
waiting_good last p h n =
    let W = all_true waits (used p) h in
    let e = none_booked_number (used p) (all_imp (λ e. waits e ≡ true) (λ e. booked_number e ≡ []) (used p) waiting_booked_number W) in
    record {
      few = n;
      ordered = all_imp (λ e. waits e ≡ true) (λ e. after_predecessors (used p) e ≡ true) (used p) (λ e w. or_left (waits e) (all_of (done (used p)) (predecessors e)) w) W;
      differ = subst (Pairs (λ x y. x ≢ y)) (sym e) tt;
      upto = subst (All (λ n. (0 < n) × (n ≤ last))) (sym e) tt;
    }

pub waiting_sound : WaitingPromise
waiting_sound p h n last = let G = waiting_good last p h n in (good_sound last p G, good_upto last p G)

-- ---- the answers
refusal_not : (m : ℕ) (l : List (Bool × ℕ)) → m ≢ 0 → All (λ x. x.1 ≢ m) l → refusal l ≢ m
unfolding refusal
refusal_not m [] z h = λ e. z (sym e)
refusal_not m (x ∷ l) z h = go x.0 (refusal_not m l z h.1)
  where
    go : (b : Bool) → refusal l ≢ m → cond b x.1 (refusal l) ≢ m
    go true ih = h.0
    go false ih = ih

-- a booking on a well-formed floor
booking_not : (f : Floor) (t n m : ℕ) → well_formed f ≡ true → m ≢ 0 → All (λ k. k ≢ m) (4 ∷ 5 ∷ 6 ∷ 31 ∷ 33 ∷ 40 ∷ []) → (anywhere_answer f t n).refusal ≢ m
unfolding anywhere_answer answer refusal_of anywhere_tests refusal
booking_not f t n m w z h = rw w (refusal_not m (anywhere_tests (view f) t n) z h)

either_not : (own r m : ℕ) → own ≢ m → r ≢ m → cond (eqb own 0) r own ≢ m
either_not own r m a b = go (eqb own 0)
  where
    go : (c : Bool) → cond c r own ≢ m
    go true = b
    go false = a

-- a label that is ready is not refused by 48
pub never_48 : (p : Plan) (f : Floor) (k : ℕ) → ready_label (used p) k ≡ true → (release_answer p f k).refusal ≢ 48
unfolding release_answer release_tests refusal release_booking anywhere_answer answer refusal_of anywhere_tests
never_48 p f k r =
    either_not (refusal (release_tests p f k)) (release_booking p f k).refusal 48
    (rw r (refusal_not 48 ((not (plan_sound p), 30) ∷ (not (well_formed f), 30) ∷ (not (numbers_upto f.counters.last p), 30) ∷ (not (plan_fits p), 47) ∷ []) (λ e. omega arith) (omega arith)))
    (refusal_not 48 ((not (well_formed f), 30) ∷ anywhere_tests (view f) (tile_for (used p) k) (number_after f)) (λ e. omega arith) (omega arith))

module _ (p : Plan) (f : Floor) (k : ℕ) (S : plan_sound p ≡ true) (W : well_formed f ≡ true) (U : numbers_upto f.counters.last p ≡ true) where
  never_30 : (release_answer p f k).refusal ≢ 30
  unfolding release_answer release_tests refusal release_booking
  never_30 =
      either_not (refusal (release_tests p f k)) (release_booking p f k).refusal 30
      (rw (S, W, U) (refusal_not 30 ((not (plan_fits p), 47) ∷ (not (ready_label (used p) k), 48) ∷ []) (λ e. omega arith) (omega arith)))
      (booking_not f (tile_for (used p) k) (number_after f) 30 W (λ e. omega arith) (omega arith))

  never_47 : plan_fits p ≡ true → (release_answer p f k).refusal ≢ 47
  unfolding release_answer release_tests refusal release_booking
  never_47 F =
      either_not (refusal (release_tests p f k)) (release_booking p f k).refusal 47
      (rw (S, W, U, F) (refusal_not 47 ((not (ready_label (used p) k), 48) ∷ []) (λ e. omega arith) (omega arith)))
      (booking_not f (tile_for (used p) k) (number_after f) 47 W (λ e. omega arith) (omega arith))

not_or : (b : Bool) → ◌≡◌ {A = ℕ} (cond (not b) 47 0) (cond b 0 47)
not_or true = refl
not_or false = refl

module _ (p : Plan) (S : plan_sound p ≡ true) where
  pub offers_by : (offer_answer p).refusal ≡ cond (plan_fits p) 0 47
  unfolding offer_answer offer_tests refusal
  offers_by = rw S (not_or (plan_fits p))

  pub reports_by : (r : Report) → All (λ d. d.count ≤ 4) r.deliveries → (report_answer p r).refusal ≡ cond (plan_fits p) 0 47
  unfolding report_answer report_tests refusal
  reports_by r h = rw (S, none_any (λ d. ltb 4 d.count) r.deliveries (all_imp (λ d. d.count ≤ 4) (λ d. ltb 4 d.count ≡ false) r.deliveries (λ d l. le-ltb 4 d.count l) h)) (not_or (plan_fits p))

stays : (p q : Plan) → plan_sound q ≡ true → plan_fits q ≡ plan_fits p → PlanStays p q
stays p q S e = record {
  sound = S;
  same_fits = e;
  offer_refusal = offers_by q S ∙ ap (λ (b : Bool). cond b 0 47) e;
  report_refusal = λ r l. reports_by q S r l ∙ ap (λ (b : Bool). cond b 0 47) e;
}

pub stays_sound : SoundPromise
stays_sound s S U w cs t =
    let now = state_after s cs in
    let R = list_fine s cs t (w, sound_good s.floor.counters.last s.plan S U) in
    let F = R.0 in
    let S' = good_sound now.floor.counters.last now.plan F.1 in
    let U' = good_upto now.floor.counters.last now.plan F.1 in
    record {
      plan = stays s.plan now.plan S' R.1;
      upto = U';
      well = F.0;
      release_sound = λ k. never_30 now.plan now.floor k S' F.0 U';
      release_fits = λ fits k. never_47 now.plan now.floor k S' F.0 U' (R.1 ∙ fits);
    }

-- ---- whatever floors the releases were on
release_sound : (p : Plan) (f : Floor) (k : ℕ) → plan_sound p ≡ true → (plan_sound (plan_given p (plan_release f k)) ≡ true) × (plan_fits (plan_given p (plan_release f k)) ≡ plan_fits p)
unfolding plan_given stepped release_answer
release_sound p f k S = go (eqb (release_answer p f k).refusal 0) refl
  where
    s : State
    s = record { plan = p; floor = f }

    g : Floor
    g = (stepped s (release k)).floor

    go : (b : Bool) → eqb (release_answer p f k).refusal 0 ≡ b → let q = cond b (changed p (released k (number_after f))) p in (plan_sound q ≡ true) × (plan_fits q ≡ plan_fits p)
    go true e =
        let A = accepted p f k (eqb-true _ 0 e) in
        let R = step_fine s (release k) tt (A.well, sound_good f.counters.last p S A.upto) in
        let q : (stepped s (release k)).plan ≡ changed p (released k (number_after f)) = rw e in
        (subst (λ (x : Plan). plan_sound x ≡ true) q (good_sound g.counters.last (stepped s (release k)).plan R.0.1), subst (λ (x : Plan). plan_fits x ≡ plan_fits p) q R.1)
    go false e = (S, refl)

report_sound : (p : Plan) (r : Report) → plan_sound p ≡ true → (plan_sound (plan_given p (plan_report r)) ≡ true) × (plan_fits (plan_given p (plan_report r)) ≡ plan_fits p)
unfolding plan_given report_answer plan_sound
report_sound p r S = go (eqb (refusal (report_tests p r)) 0)
  where
    l : List ℕ
    l = numbers_in r

    Right : List Entry → Type 0
    Right es = (all_of (after_predecessors es) es && pairs_of (λ x y. not (eqb x y)) (booked_numbers es)) ≡ true

    there : Right (used p)
    there = and_right (leb p.count 64) _ S

    marked : Right (map (reported l) (used p))
    marked =
        let es = map (reported l) (used p) in
        and_true
        (true_all (after_predecessors es) es (reported_ordered l (used p) (all_true (after_predecessors (used p)) (used p) (and_left (all_of (after_predecessors (used p)) (used p)) _ there))))
        ((r_pairs (λ x y. not (eqb x y)) (λ x y. x ≢ y) r_ne (booked_numbers es)).1 (reported_differ l (used p) ((r_pairs (λ x y. not (eqb x y)) (λ x y. x ≢ y) r_ne (booked_numbers (used p))).0 (and_right (all_of (after_predecessors (used p)) (used p)) _ there))))

    go : (b : Bool) → let q = cond b (changed p (reported l)) p in (plan_sound q ≡ true) × (plan_fits q ≡ plan_fits p)
    go true = (and_true (and_left (leb p.count 64) _ S) (subst Right (sym (used_changed p (reported l))) marked), same_fits (reported l) (reported_plain l) p)
    go false = (S, refl)

call_sound : (p : Plan) (c : PlanCall) → plan_sound p ≡ true → (plan_sound (plan_given p c) ≡ true) × (plan_fits (plan_given p c) ≡ plan_fits p)
unfolding plan_given
call_sound p plan_offer S = (S, refl)
call_sound p (plan_release f k) S = release_sound p f k S
call_sound p (plan_report r) S = report_sound p r S

list_sound : (p : Plan) (cs : List PlanCall) → plan_sound p ≡ true → (plan_sound (plan_after p cs) ≡ true) × (plan_fits (plan_after p cs) ≡ plan_fits p)
unfolding plan_after
list_sound p [] S = (S, refl)
list_sound p (c ∷ cs) S = let A = call_sound p c S in let B = list_sound (plan_given p c) cs A.0 in (B.0, B.1 ∙ A.1)

pub plan_stays : PlanSoundPromise
plan_stays p S cs = let R = list_sound p cs S in stays p (plan_after p cs) R.0 R.1
