-- Document 02's [12] with demand 3's bound: a plan ends. The theorems are `ends` and `scheduled` of proofs/Ending.
use Rattle.std.specs.Prelude.{◌≡◌, true, ℕ, zero, suc, ◌+◌, ◌^◌, ◌≤◌, ◌<◌, length, take}
use mathlib.Core.List.{List, [], ◌∷◌, Memᴰ}
use Rattle.laws.specs.Define.{bit, filter}
use Rattle.laws.specs.Every.{All}
use Rattle.floor.specs.declared.Floor.{Floor}
use Rattle.floor.specs.Settings.{total}
use Rattle.floor.specs.Model.{runs_of_of, numbers_on}
use Rattle.floor.specs.Memory.{view}
use Rattle.floor.specs.Well.{well_formed}
use Rattle.floor.specs.Calls.{round_answer}
use Rattle.floor.specs.Bound.{bound}
use Rattle.floor.specs.Live.{LivePath}
use Rattle.floor.specs.Demand3.{round, Quiet, rounds_in}
use Rattle.plan.specs.declared.Plan.{Plan}
use Rattle.plan.specs.Entries.{waits, was_delivered, booked_number, used}
use Rattle.plan.specs.Plans.{offer_answer, release_answer}
use Rattle.plan_floor.specs.Steps.{Step, call, release, report, State, stepped, state_after, StepInRange, reports_of, calls_in}

-- how many labels wait
unfoldable pub waiting_in : Plan → ℕ
waiting_in p = length (filter waits (used p))

-- a fill tile with a live path, so a running one
pub record Served (f : Floor) (t : ℕ) : Type 0 where
  pub on_floor : t < total f.settings
  pub fill_tile : bit f.settings.sources t ≡ true
  pub live : LivePath f.settings (runs_of_of (view f)) t

-- each round's report is handed to the plan afterwards
abbrev pub HandedIn : State → List Step → Type 0
HandedIn s [] = Unit {0}
HandedIn s (c ∷ cs) = All (λ r. Memᴰ (report r) cs) (reports_of s c) × HandedIn (stepped s c) cs

-- what follows a release: no accepted booking, release, stop or repair, and at least (C - 1) × (1 + M) rounds, demand 3's bound with K = 1. With other bookings in between K is larger, and demand 3's bound with that K holds of each cycle
pub record Cycle (s : State) (cs : List Step) : Type 0 where
  pub in_range : All StepInRange cs
  pub quiet : Quiet s.floor (calls_in s cs)
  pub handed : HandedIn s cs
  pub enough : bound s.floor.settings 1 ≤ rounds_in (calls_in s cs)

-- the offered label released; where none is offered that is label 0, which is refused
abbrev pub release_offered : State → State
release_offered s = stepped s (release (offer_answer s.plan).label)

-- cycles one after another, each beginning with the release of the offered label
abbrev pub Cycles : State → List (List Step) → Type 0
Cycles s [] = Unit {0}
Cycles s (cs ∷ rest) = Cycle (release_offered s) cs × Cycles (state_after (release_offered s) cs) rest

unfoldable pub after_cycles : State → List (List Step) → State
after_cycles s [] = s
after_cycles s (cs ∷ rest) = after_cycles (state_after (release_offered s) cs) rest

-- the refusal of each cycle's release
unfoldable pub refusals_in : State → List (List Step) → List ℕ
refusals_in s [] = []
refusals_in s (cs ∷ rest) = (release_answer s.plan s.floor (offer_answer s.plan).label).refusal ∷ refusals_in (state_after (release_offered s) cs) rest

-- s the state at first
pub record Begins (s : State) : Type 0 where
  pub not_refused : (offer_answer s.plan).refusal ≡ 0
  -- no label is booked: each waits or is delivered
  pub none_booked : All (λ e. booked_number e ≡ []) (used s.plan)
  pub well : well_formed s.floor ≡ true
  pub empty : numbers_on (view s.floor) ≡ []
  pub served : All (λ e. waits e ≡ true → Served s.floor e.tile) (used s.plan)
  pub numbers_left : s.floor.counters.last + waiting_in s.plan < 2 ^ 32

-- of the cycles, as many as labels waited book one each; at the end all are delivered, and the floor is empty
pub record Ended (s : State) (cycles : List (List Step)) : Type 0 where
  pub accepted : All (λ r. r ≡ 0) (take (waiting_in s.plan) (refusals_in s cycles))
  pub delivered : All (λ e. was_delivered e ≡ true) (used (after_cycles s cycles).plan)
  pub empty : numbers_on (view (after_cycles s cycles).floor) ≡ []

-- with more cycles than labels too
abbrev pub EndsPromise : Type 0
EndsPromise = (s : State) → Begins s → (cycles : List (List Step)) → waiting_in s.plan ≤ length cycles → Cycles s cycles → Ended s cycles

-- ---- such cycles for every state
-- n rounds, each report handed in at once
unfoldable pub handed_rounds : ℕ → State → List Step
handed_rounds zero s = []
handed_rounds (suc n) s = let r = (round_answer s.floor).report in call round ∷ report r ∷ handed_rounds n (stepped (stepped s (call round)) (report r))

-- n cycles: the offered label, then as many rounds as the bound says
unfoldable pub schedule : ℕ → State → List (List Step)
schedule zero s = []
schedule (suc n) s = let r = release_offered s in let cs = handed_rounds (bound r.floor.settings 1) r in cs ∷ schedule n (state_after r cs)

abbrev pub SchedulePromise : Type 0
SchedulePromise = (s : State) → Begins s → Ended s (schedule (waiting_in s.plan) s)
