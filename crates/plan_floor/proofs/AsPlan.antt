-- The plan after a list of calls on a plan and a floor is the one after the plan's calls among them: `as_plan_calls`. The statement is specs/Promises.
use mathlib.Core.Path.{◌≡◌, refl}
use mathlib.Core.List.{List, [], ◌∷◌, ◌++◌}
use Prim.Native.Nat.{ℕ}
use Rattle.plan_floor.specs.Steps.{plan_release, plan_report, plan_given, plan_after, Event, events_of, events_in, bookings_of, bookings_in, Step, call, offer, release, report, State, stepped, state_after, plan_calls_of, plan_calls_in, step_events, step_bookings}
use Rattle.plan_floor.specs.Promises.{PlanCallsPromise}

-- ---- one step
unfoldable pub events_at : State → Step → List Event
events_at s (call c) = []
events_at s offer = []
events_at s (release k) = events_of s.plan (plan_release s.floor k)
events_at s (report r) = events_of s.plan (plan_report r)

unfoldable pub bookings_at : State → Step → List (ℕ × ℕ)
bookings_at s (call c) = []
bookings_at s offer = []
bookings_at s (release k) = bookings_of s.plan (plan_release s.floor k)
bookings_at s (report r) = []

-- ---- and those after it
pub as_plan_calls : PlanCallsPromise
unfolding plan_after plan_calls_in state_after plan_calls_of stepped plan_given
as_plan_calls s [] = refl
as_plan_calls s (call c ∷ cs) = as_plan_calls (stepped s (call c)) cs
as_plan_calls s (offer ∷ cs) = as_plan_calls s cs
as_plan_calls s (release k ∷ cs) = as_plan_calls (stepped s (release k)) cs
as_plan_calls s (report r ∷ cs) = as_plan_calls (stepped s (report r)) cs

pub events_next : (s : State) (c : Step) (cs : List Step) → step_events s (c ∷ cs) ≡ events_at s c ++ step_events (stepped s c) cs
unfolding events_at events_in events_of plan_calls_in plan_calls_of stepped plan_given
events_next s (call c) cs = refl
events_next s offer cs = refl
events_next s (release k) cs = refl
events_next s (report r) cs = refl

pub bookings_next : (s : State) (c : Step) (cs : List Step) → step_bookings s (c ∷ cs) ≡ bookings_at s c ++ step_bookings (stepped s c) cs
unfolding bookings_at bookings_in bookings_of plan_calls_in plan_calls_of stepped plan_given
bookings_next s (call c) cs = refl
bookings_next s offer cs = refl
bookings_next s (release k) cs = refl
bookings_next s (report r) cs = refl
