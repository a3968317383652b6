-- Document 02's [12]: lists of a plan's calls, each given the plan that the last one gave; lists of calls on a plan and a floor, each given both; what such a list books and reports, and the calls of demand 3 that it stands for.
use Rattle.std.specs.Prelude.{Bool, cond, ℕ, eqb}
use mathlib.Core.List.{List, [], ◌∷◌, ◌++◌, map, Memᴰ}
use Rattle.laws.specs.Define.{all_of, refusal}
use Rattle.floor.specs.declared.Floor.{Floor}
use Rattle.floor.specs.declared.Report.{Report}
use Rattle.floor.specs.Calls.{round_answer}
use Rattle.floor.specs.Demand3.{Call, book, anywhere, stop, repair, round, keep, forget, recall, list, InRange, outcome}
use Rattle.plan.specs.declared.Entry.{Entry}
use Rattle.plan.specs.declared.Plan.{Plan}
use Rattle.plan.specs.Entries.{waits, used, predecessors}
use Rattle.plan.specs.Plans.{release_tests, number_after, tile_for, release_answer, numbers_in, report_answer}

-- ---- a plan's calls alone: an offer; the release of a label on a floor, which may be another each time; a report handed to the plan
pub data PlanCall : Type 0 where
  plan_offer : PlanCall
  plan_release : Floor → ℕ → PlanCall
  plan_report : Report → PlanCall

-- "each call gets the plan the last one gave"; a refused one gives it back and stays in the list
unfoldable pub plan_given : Plan → PlanCall → Plan
plan_given p plan_offer = p
plan_given p (plan_release f k) = (release_answer p f k).plan
plan_given p (plan_report r) = (report_answer p r).plan

unfoldable pub plan_after : Plan → List PlanCall → Plan
plan_after p [] = p
plan_after p (c ∷ cs) = plan_after (plan_given p c) cs

-- "all began waiting"
unfoldable pub all_waiting : Plan → Bool
all_waiting p = all_of waits (used p)

-- what happened: a label was booked under a number; a number was listed in a report that the plan accepted
pub data Event : Type 0 where
  booking : ℕ → ℕ → Event
  listing : ℕ → Event

unfoldable pub events_of : Plan → PlanCall → List Event
events_of p plan_offer = []
events_of p (plan_release f k) = let r = release_answer p f k in cond (eqb r.refusal 0) (booking k r.number ∷ []) []
events_of p (plan_report r) = cond (eqb (report_answer p r).refusal 0) (map listing (numbers_in r)) []

-- in their order
unfoldable pub events_in : Plan → List PlanCall → List Event
events_in p [] = []
events_in p (c ∷ cs) = events_of p c ++ events_in (plan_given p c) cs

-- label k was booked under n, and n was listed afterwards
pub data BookedThenListed (k n : ℕ) : List Event → Type 0 where
  here : {l : List Event} → Memᴰ (listing n) l → BookedThenListed k n (booking k n ∷ l)
  later : {e : Event} {l : List Event} → BookedThenListed k n l → BookedThenListed k n (e ∷ l)

-- the predecessors of label k
unfoldable pub predecessors_of : List Entry → ℕ → List ℕ
predecessors_of [] k = []
predecessors_of (e ∷ es) k = cond (eqb e.label k) (predecessors e) [] ++ predecessors_of es k

-- the labels that accepted releases booked, each with its number
unfoldable pub bookings_of : Plan → PlanCall → List (ℕ × ℕ)
bookings_of p plan_offer = []
bookings_of p (plan_release f k) = let r = release_answer p f k in cond (eqb r.refusal 0) ((k, r.number) ∷ []) []
bookings_of p (plan_report r) = []

unfoldable pub bookings_in : Plan → List PlanCall → List (ℕ × ℕ)
bookings_in p [] = []
bookings_in p (c ∷ cs) = bookings_of p c ++ bookings_in (plan_given p c) cs

-- ---- a plan and a floor
-- a call of demand 3's lists on the floor; an offer; a release of a label; a report handed to the plan
pub data Step : Type 0 where
  call : Call → Step
  offer : Step
  release : ℕ → Step
  report : Report → Step

pub record State : Type 0 where
  pub plan : Plan
  pub floor : Floor

-- each call gets the plan and the floor that the last one gave; a refused one gives both back and stays in the list
unfoldable pub stepped : State → Step → State
stepped s (call c) = record { plan = s.plan; floor = (outcome s.floor c).floor }
stepped s offer = s
stepped s (release k) = let r = release_answer s.plan s.floor k in record { plan = r.plan; floor = r.floor }
stepped s (report r) = record { plan = (report_answer s.plan r).plan; floor = s.floor }

unfoldable pub state_after : State → List Step → State
state_after s [] = s
state_after s (c ∷ cs) = state_after (stepped s c) cs

-- the plan's calls among them: each release is on the floor as it then is
unfoldable pub plan_calls_of : State → Step → List PlanCall
plan_calls_of s (call c) = []
plan_calls_of s offer = plan_offer ∷ []
plan_calls_of s (release k) = plan_release s.floor k ∷ []
plan_calls_of s (report r) = plan_report r ∷ []

unfoldable pub plan_calls_in : State → List Step → List PlanCall
plan_calls_in s [] = []
plan_calls_in s (c ∷ cs) = plan_calls_of s c ++ plan_calls_in (stepped s c) cs

-- what happened to the plan
abbrev pub step_events : State → List Step → List Event
step_events s cs = events_in s.plan (plan_calls_in s cs)

-- the labels booked; the numbers of all bookings, those of the floor's own calls too, are `booked_by`
abbrev pub step_bookings : State → List Step → List (ℕ × ℕ)
step_bookings s cs = bookings_in s.plan (plan_calls_in s cs)

-- the widths of the floor's calls, as in demand 3
abbrev pub StepInRange : Step → Type 0
StepInRange (call c) = InRange c
StepInRange offer = Unit {0}
StepInRange (release k) = Unit {0}
StepInRange (report r) = Unit {0}

-- ---- reports of rounds
-- the report of a round; of one that was refused it is all zeros and lists nothing
unfoldable pub report_of_call : Floor → Call → List Report
report_of_call f (book t c) = []
report_of_call f (anywhere t number) = []
report_of_call f (stop t) = []
report_of_call f (repair t) = []
report_of_call f round = (round_answer f).report ∷ []
report_of_call f (keep name) = []
report_of_call f (forget name) = []
report_of_call f (recall name) = []
report_of_call f (list l) = []

unfoldable pub reports_of : State → Step → List Report
reports_of s (call c) = report_of_call s.floor c
reports_of s offer = []
reports_of s (release k) = []
reports_of s (report r) = []

-- "A round's report": each report that is handed in is one of those that rounds gave before, rs
abbrev pub HandedFrom : List Report → Step → Type 0
HandedFrom rs (call c) = Unit {0}
HandedFrom rs offer = Unit {0}
HandedFrom rs (release k) = Unit {0}
HandedFrom rs (report r) = Memᴰ r rs

abbrev pub FromRounds : State → List Report → List Step → Type 0
FromRounds s rs [] = Unit {0}
FromRounds s rs (c ∷ cs) = HandedFrom rs c × FromRounds (stepped s c) (reports_of s c ++ rs) cs

-- ---- as a list of demand 3
-- "A release books a waiting label as in [1]": it stands for that booking; refused before the booking, for no call
unfoldable pub calls_of : State → Step → List Call
calls_of s (call c) = c ∷ []
calls_of s offer = []
calls_of s (release k) = cond (eqb (refusal (release_tests s.plan s.floor k)) 0) (anywhere (tile_for (used s.plan) k) (number_after s.floor) ∷ []) []
calls_of s (report r) = []

unfoldable pub calls_in : State → List Step → List Call
calls_in s [] = []
calls_in s (c ∷ cs) = calls_of s c ++ calls_in (stepped s c) cs

-- the numbers booked, by calls on the floor and by releases
unfoldable pub booked_of : State → Step → List ℕ
booked_of s (call c) = (outcome s.floor c).booked
booked_of s offer = []
booked_of s (release k) = let r = release_answer s.plan s.floor k in cond (eqb r.refusal 0) (r.number ∷ []) []
booked_of s (report r) = []

unfoldable pub booked_by : State → List Step → List ℕ
booked_by s [] = []
booked_by s (c ∷ cs) = booked_of s c ++ booked_by (stepped s c) cs

-- the numbers that the rounds reported delivered, to each hopper
unfoldable pub reported_of : State → Step → ℕ → List ℕ
reported_of s (call c) k = (outcome s.floor c).reported k
reported_of s offer k = []
reported_of s (release j) k = []
reported_of s (report r) k = []

unfoldable pub reported_by : State → List Step → ℕ → List ℕ
reported_by s [] k = []
reported_by s (c ∷ cs) k = reported_of s c k ++ reported_by (stepped s c) cs k
