-- [12]: lists of calls on a plan and a floor, computed: one table, one proof. A row is what they give, then what is due.
use mathlib.Core.Path.{◌≡◌, refl}
use mathlib.Core.Bool.{true}
use mathlib.Core.List.Memᴰ
use mathlib.Core.List.{List, [], ◌∷◌, ◌++◌}
use Prim.Native.Nat.{ℕ, zero, suc}
use lib.ListN.{length}
use Rattle.floor.specs.declared.Report.{Report}
use Rattle.floor.specs.Calls.{fresh_answer, round_answer}
use Rattle.floor.specs.Reports.{listed_at}
use Rattle.floor.specs.Demand3.{round, outcome, booked_in}
use Rattle.floor.proofs.Calling.{got, counted, Table, holds}
use Rattle.floor.proofs.AnywhereSamples.{small}
use Rattle.plan.specs.Entries.{stage_of, predecessors, done, present, booked_numbers, after_predecessors, plan_sound, numbers_upto, entry_fits, plan_fits, ready, ready_label, released, reported}
use Rattle.plan.specs.Plans.{offer_tests, offered, offer_answer, release_tests, number_after, tile_for, release_booking, release_answer, numbers_in, report_tests, report_answer}
use Rattle.plan.proofs.Samples.{entry, plan, two, entries, delivery, report}
use Rattle.plan_floor.specs.Steps.{PlanCall, plan_offer, plan_release, plan_report, plan_given, plan_after, Step, call, offer, release, report as handed, State, stepped, state_after, Event, booking, listing, events_of, events_in, bookings_of, bookings_in, plan_calls_of, plan_calls_in, step_events, step_bookings, report_of_call, reports_of, FromRounds, calls_of, calls_in, booked_of, booked_by, reported_of, reported_by}
use Rattle.plan_floor.specs.Ending.{release_offered, after_cycles, refusals_in, handed_rounds, schedule}

-- a booking by label and number, a listing by 0 and number
unfoldable shown : List Event → List ℕ
shown [] = []
shown (booking k n ∷ l) = k ∷ n ∷ shown l
shown (listing n ∷ l) = 0 ∷ n ∷ shown l

unfoldable paired : List (ℕ × ℕ) → List ℕ
paired [] = []
paired (x ∷ l) = x.0 ∷ x.1 ∷ paired l

unfoldable walking : Table
walking =
    let s : State = record { plan = two 0; floor = got (fresh_answer (small 3 1)) } in
    -- U 9, l 8, v 1: places 0 and 1, so M is 2 and the bound 3
    let wide : State = record { plan = two 0; floor = got (fresh_answer (small 8 0)) } in
    let one = report (delivery 1 (1 ∷ []) ∷ []) in
    -- 2 must wait until 1 was booked and reported; 1 is not booked again; a report that comes too early marks nothing
    let cs : List Step = offer ∷ handed one ∷ release 2 ∷ release 1 ∷ release 1 ∷ release 2 ∷ handed one ∷ handed (report (delivery 5 [] ∷ [])) ∷ release 2 ∷ release 9 ∷ [] in
    let apart : List PlanCall = plan_release s.floor 1 ∷ plan_offer ∷ plan_release wide.floor 2 ∷ plan_report one ∷ plan_release wide.floor 2 ∷ [] in
    let first = release_offered wide in
    let ended = after_cycles wide (schedule 2 wide) in
    (shown (step_events s cs), 0 ∷ 1 ∷ 1 ∷ 1 ∷ 0 ∷ 1 ∷ 2 ∷ 2 ∷ [])
    ∷ (paired (step_bookings s cs), 1 ∷ 1 ∷ 2 ∷ 2 ∷ [])
    -- the plan alone is handed on: 2 is released on another floor than 1, where its number is 1 too; on the first it would be 2
    ∷ (shown (events_in s.plan apart), 1 ∷ 1 ∷ 0 ∷ 1 ∷ 2 ∷ 1 ∷ [])
    ∷ (paired (bookings_in s.plan apart), 1 ∷ 1 ∷ 2 ∷ 1 ∷ [])
    ∷ (entries (plan_after s.plan apart), entries (plan (entry 2 0 1 0 1 1 ∷ entry 1 0 0 0 2 1 ∷ [])))
    ∷ (length (calls_in s cs) ∷ booked_in s.floor (calls_in s cs), 2 ∷ 1 ∷ 2 ∷ [])
    ∷ (booked_by s cs, 1 ∷ 2 ∷ [])
    ∷ (entries (state_after s cs).plan, entries (plan (entry 2 0 1 0 1 2 ∷ entry 1 0 0 0 2 1 ∷ [])))
    -- the second round reports the number
    ∷ (reported_by first (call round ∷ []) 0, [])
    ∷ (reported_by first (call round ∷ call round ∷ []) 0, 1 ∷ [])
    -- two cycles end the plan; the floor is empty, its counters tell both
    ∷ (entries ended.plan ++ counted ended.floor, entries (plan (entry 2 0 1 0 2 2 ∷ entry 1 0 0 0 2 1 ∷ [])) ++ (0 ∷ 2 ∷ 2 ∷ 2 ∷ 0 ∷ 0 ∷ 0 ∷ []))
    -- the release of a cycle, and of one that is not needed
    ∷ (refusals_in wide ([] ∷ []), 0 ∷ [])
    ∷ (refusals_in ended ([] ∷ []), 48 ∷ [])
    ∷ []

walking_holds : holds walking ≡ true
unfolding holds small entry plan two entries delivery report shown paired walking
    stage_of predecessors done present booked_numbers after_predecessors plan_sound numbers_upto entry_fits plan_fits ready ready_label released reported offer_tests offered offer_answer release_tests number_after tile_for release_booking release_answer numbers_in report_tests report_answer
    outcome booked_in stepped state_after plan_given plan_after plan_calls_of plan_calls_in events_of events_in bookings_of bookings_in calls_of calls_in booked_of booked_by listed_at reported_of reported_by after_cycles refusals_in handed_rounds schedule
walking_holds = refl

-- the reports of such cycles are those of their rounds; a report that no round gave is not
pub handed_from_rounds : (n : ℕ) (s : State) (rs : List Report) → FromRounds s rs (handed_rounds n s)
unfolding handed_rounds reports_of report_of_call
handed_from_rounds zero s rs = tt
handed_from_rounds (suc n) s rs = let r = (round_answer s.floor).report in (tt, (Memᴰ.head refl, handed_from_rounds n (stepped (stepped s (call round)) (handed r)) (r ∷ rs)))

not_from_rounds : (s : State) (r : Report) → ¬ (FromRounds s [] (handed r ∷ []))
not_from_rounds s r F = Memᴰ.not-nil F.0
