-- Document 02's [12]: what is promised of plans. The theorem is `plans` of proofs/Promises.
use Rattle.std.specs.Prelude.{◌≡◌, ◌⊎◌, ◌↔◌, ◌≢◌, true, false, cond, ℕ, ◌≤◌, ◌<◌, drop}
use mathlib.Core.List.{List, [], ◌∷◌, map, Memᴰ}
use Rattle.laws.specs.Define.{any_of}
use Rattle.laws.specs.Every.{All, Pairs}
use Rattle.floor.specs.declared.Floor.{Floor}
use Rattle.floor.specs.declared.Report.{Report}
use Rattle.floor.specs.Model.{numbers_on}
use Rattle.floor.specs.Memory.{view}
use Rattle.floor.specs.Well.{well_formed}
use Rattle.floor.specs.Demand3.{floor_after, booked_in, reported_in, reported_all, Promises}
use Rattle.plan.specs.declared.Entry.{Entry}
use Rattle.plan.specs.declared.Plan.{Plan}
use Rattle.plan.specs.Entries.{waits, was_delivered, booked_number, used, plan_sound, numbers_upto, plan_fits, ready, ready_label, released, reported}
use Rattle.plan.specs.Plans.{offer_answer, release_answer, report_answer}
use Rattle.plan_floor.specs.Steps.{PlanCall, plan_after, all_waiting, events_in, BookedThenListed, predecessors_of, bookings_in, Step, State, state_after, plan_calls_in, step_events, step_bookings, StepInRange, FromRounds, calls_in, booked_by, reported_by}
use Rattle.plan_floor.specs.Ending.{EndsPromise, SchedulePromise}

-- ---- an offer, of a plan that is not refused
pub record Offers (p : Plan) (k : ℕ) : Type 0 where
  -- "The plan offers the lowest waiting label whose predecessors are all delivered"
  pub can_go : k ≢ 0 → ready_label (used p) k ≡ true
  -- so its release is not refused by 48, whatever the floor
  pub not_48 : k ≢ 0 → (f : Floor) → (release_answer p f k).refusal ≢ 48
  pub lowest : (e : Entry) → Memᴰ e (used p) → ready (used p) e ≡ true → k ≤ e.label
  -- "and none exactly when there is no such label"
  pub none : k ≡ 0 ↔ ((e : Entry) → Memᴰ e (used p) → ready (used p) e ≡ false)
  -- "While a label waits and no booked one is undelivered, one is offered."
  pub goes_on : any_of waits (used p) ≡ true → All (λ e. booked_number e ≡ []) (used p) → k ≢ 0

abbrev pub OfferPromise : Type 0
OfferPromise = (p : Plan) → (offer_answer p).refusal ≡ 0 → Offers p (offer_answer p).label

-- ---- an entry
-- what the crew wrote of an entry; the rest is its stage and its number
unfoldable pub as_written : Entry → List ℕ
as_written e = e.label ∷ e.tile ∷ e.first ∷ e.second ∷ []

-- a release "books a waiting label", k, under n: that label's entry alone changes
pub record BooksEntry (k n : ℕ) (e x : Entry) : Type 0 where
  pub booked : e.label ≡ k → booked_number x ≡ n ∷ []
  pub others_same : e.label ≢ k → x ≡ e
  pub same_written : as_written x ≡ as_written e

abbrev pub BookPromise : Type 0
BookPromise = (k n : ℕ) (e : Entry) → BooksEntry k n e (released k n e)

-- a report "marks delivered exactly the booked labels whose numbers it lists", l; nothing else of an entry changes
pub record Marks (l : List ℕ) (e x : Entry) : Type 0 where
  pub exactly : was_delivered x ≡ true ↔ ((was_delivered e ≡ true) ⊎ ((n : ℕ) × Memᴰ n (booked_number e) × Memᴰ n l))
  pub else_same : was_delivered x ≡ false → x ≡ e
  pub same_waiting : waits x ≡ waits e
  pub same_rest : x.tile ∷ x.number ∷ x.label ∷ x.first ∷ x.second ∷ [] ≡ e.tile ∷ e.number ∷ e.label ∷ e.first ∷ e.second ∷ []

abbrev pub MarkPromise : Type 0
MarkPromise = (l : List ℕ) (e : Entry) → Marks l e (reported l e)

-- ---- a refusal gives back what it was handed
pub record Refused (p : Plan) (f : Floor) : Type 0 where
  pub offer : (offer_answer p).refusal ≢ 0 → (offer_answer p).label ≡ 0
  pub release : (k : ℕ) → (release_answer p f k).refusal ≢ 0 → release_answer p f k ≡ record { floor = f; plan = p; number = 0; a = 0; b = 0; refusal = (release_answer p f k).refusal }
  pub report : (r : Report) → (report_answer p r).refusal ≢ 0 → (report_answer p r).plan ≡ p

abbrev pub RefusedPromise : Type 0
RefusedPromise = (p : Plan) (f : Floor) → Refused p f

-- ---- lists of a plan's calls, each release on any floor
-- from p to q only stages and numbers of used entries change
pub record SameWritten (p q : Plan) : Type 0 where
  pub same_count : q.count ≡ p.count
  pub same_used : map as_written (used q) ≡ map as_written (used p)
  pub same_past : drop q.count q.entries ≡ drop p.count p.entries

abbrev pub WrittenPromise : Type 0
WrittenPromise = (p : Plan) (cs : List PlanCall) → SameWritten p (plan_after p cs)

-- "If all began waiting and each call gets the plan the last one gave, no planned canister is booked before its predecessors were reported.": only the plan is handed on; whatever floors the releases were on and whatever reports were handed in, at a release that is accepted after the list each predecessor, by the plan at first, was booked under a number that a report accepted afterwards lists
abbrev pub HistoryPromise : Type 0
HistoryPromise = (p : Plan) → all_waiting p ≡ true → (cs : List PlanCall) (f : Floor) (k : ℕ) → (release_answer (plan_after p cs) f k).refusal ≡ 0
    → All (λ j. (n : ℕ) × BookedThenListed j n (events_in p cs)) (predecessors_of (used p) k)

-- each label is booked at most once, under one number; the plan keeps the number, and the label never waits again
pub record Once (p : Plan) (cs : List PlanCall) : Type 0 where
  pub labels : Pairs (λ x y. x.0 ≢ y.0) (bookings_in p cs)
  pub kept : All (λ x. All (λ e. e.label ≡ x.0 → (e.number ≡ x.1) × (waits e ≡ false)) (used (plan_after p cs))) (bookings_in p cs)

abbrev pub OncePromise : Type 0
OncePromise = (p : Plan) (cs : List PlanCall) → Once p cs

-- a sound plan stays sound, whatever floors its releases were on: p the plan at first, q now. So an offer, and a report with at most four deliveries for a hopper, never answer 30, and 47 only if the plan was so at first; a release may answer 30, where its floor's last number is below a booked one (`stays_sound`)
pub record PlanStays (p q : Plan) : Type 0 where
  pub sound : plan_sound q ≡ true
  pub same_fits : plan_fits q ≡ plan_fits p
  pub offer_refusal : (offer_answer q).refusal ≡ cond (plan_fits p) 0 47
  pub report_refusal : (r : Report) → All (λ d. d.count ≤ 4) r.deliveries → (report_answer q r).refusal ≡ cond (plan_fits p) 0 47

abbrev pub PlanSoundPromise : Type 0
PlanSoundPromise = (p : Plan) → plan_sound p ≡ true → (cs : List PlanCall) → PlanStays p (plan_after p cs)

-- ---- lists of calls on a plan and a floor
-- the plan after such a list is the one after the plan's calls in it, of which the above holds
abbrev pub PlanCallsPromise : Type 0
PlanCallsPromise = (s : State) (cs : List Step) → plan_after s.plan (plan_calls_in s cs) ≡ (state_after s cs).plan

-- where each report is that of an earlier round of the list, the rounds reported that number; on a well-formed floor after its booking, since no number is reported or aboard twice (`as_calls`: once-now, of the list up to the booking)
abbrev pub RoundsPromise : Type 0
RoundsPromise = (s : State) → all_waiting s.plan ≡ true → (cs : List Step) → FromRounds s [] cs → (k : ℕ) → (release_answer (state_after s cs).plan (state_after s cs).floor k).refusal ≡ 0
    → All (λ j. (n : ℕ) × BookedThenListed j n (step_events s cs) × Memᴰ n (reported_all s.floor (calls_in s cs))) (predecessors_of (used s.plan) k)

-- with the floor handed on a release is not 30 either, of a half-delivered plan too: p the plan at first, s the state now
pub record StaysSound (p : Plan) (s : State) : Type 0 where
  pub plan : PlanStays p s.plan
  pub upto : numbers_upto s.floor.counters.last s.plan ≡ true
  pub well : well_formed s.floor ≡ true
  pub release_sound : (k : ℕ) → (release_answer s.plan s.floor k).refusal ≢ 30
  pub release_fits : plan_fits p ≡ true → (k : ℕ) → (release_answer s.plan s.floor k).refusal ≢ 47

abbrev pub SoundPromise : Type 0
SoundPromise = (s : State) → plan_sound s.plan ≡ true → numbers_upto s.floor.counters.last s.plan ≡ true → well_formed s.floor ≡ true → (cs : List Step) → All StepInRange cs → StaysSound s.plan (state_after s cs)

-- a plan of up to 64 entries that all wait is such a one
abbrev pub WaitingPromise : Type 0
WaitingPromise = (p : Plan) → all_waiting p ≡ true → p.count ≤ 64 → (last : ℕ) → (plan_sound p ≡ true) × (numbers_upto last p ≡ true)

-- an accepted release is [1]'s booking in demand 3's lists, so that demand 3 covers plans: for every floor and plan
pub record AsCalls (s : State) (cs : List Step) : Type 0 where
  pub same_floor : floor_after s.floor (calls_in s cs) ≡ (state_after s cs).floor
  pub same_booked : booked_in s.floor (calls_in s cs) ≡ booked_by s cs
  pub same_reported : (k : ℕ) → reported_in s.floor (calls_in s cs) k ≡ reported_by s cs k
  pub promises : well_formed s.floor ≡ true → All StepInRange cs → Promises s.floor (calls_in s cs)

abbrev pub CallsPromise : Type 0
CallsPromise = (s : State) (cs : List Step) → AsCalls s cs

-- the labels' numbers rise
abbrev pub RisingPromise : Type 0
RisingPromise = (s : State) → well_formed s.floor ≡ true → (cs : List Step) → All StepInRange cs → Pairs (λ x y. x.1 < y.1) (step_bookings s cs)

-- the canister of a booked label, number n, is on the floor until a round reports it
pub record OnFloorUntilReported (s : State) (cs : List Step) (n : ℕ) : Type 0 where
  pub either : Memᴰ n (numbers_on (view (state_after s cs).floor)) ⊎ Memᴰ n (reported_all s.floor (calls_in s cs))
  pub not_both : Memᴰ n (numbers_on (view (state_after s cs).floor)) → ¬ (Memᴰ n (reported_all s.floor (calls_in s cs)))

abbrev pub CanisterPromise : Type 0
CanisterPromise = (s : State) → well_formed s.floor ≡ true → (cs : List Step) → All StepInRange cs → All (λ x. OnFloorUntilReported s cs x.1) (step_bookings s cs)

pub record PlanPromises : Type 0 where
  pub offers : OfferPromise
  pub books : BookPromise
  pub marks : MarkPromise
  pub refused : RefusedPromise
  pub same_written : WrittenPromise
  pub history : HistoryPromise
  pub once : OncePromise
  pub plan_stays : PlanSoundPromise
  pub as_plan_calls : PlanCallsPromise
  pub by_rounds : RoundsPromise
  pub stays_sound : SoundPromise
  pub waiting_sound : WaitingPromise
  pub as_calls : CallsPromise
  pub rising : RisingPromise
  pub canisters : CanisterPromise
  pub ends : EndsPromise
  pub scheduled : SchedulePromise
