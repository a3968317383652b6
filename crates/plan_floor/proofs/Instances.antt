-- [12]: what is promised of plans, applied to concrete plans, floors and lists, field by field.
use mathlib.Core.Path.{◌≡◌, refl, ap, ◌∙◌, subst}
use mathlib.Core.Logic.{◌⊎◌, inl, inr, ◌≢◌}
use mathlib.Core.Bool.{Bool, true, false, cond}
use mathlib.Core.List.{List, [], ◌∷◌, ◌++◌, map, Memᴰ}
use Prim.Native.Nat.{ℕ, ◌+◌, ◌^◌, ◌≤◌, ◌<◌}
use native.Mathlib.Omega.{arith}
use lib.Dec.{ltb, eqb}
use lib.ListN.{take, drop}
use borrow.Author.Tests.{eqb-false, ltb-true}
use Rattle.laws.specs.Define.{any_of, bit}
use Rattle.laws.specs.Every.{All, Pairs}
use Rattle.laws.proofs.Lists.{all_mem, all_append}
use Rattle.floor.specs.declared.Floor.{Floor}
use Rattle.floor.specs.declared.Report.{Report}
use Rattle.floor.specs.Settings.{total}
use Rattle.floor.specs.Model.{runs_of_of, numbers_on}
use Rattle.floor.specs.Memory.{zero_floor, view}
use Rattle.floor.specs.Well.{well_formed}
use Rattle.floor.specs.Calls.{fresh_answer}
use Rattle.floor.specs.Bound.{bound}
use Rattle.floor.specs.Live.{connected}
use Rattle.floor.specs.Demand3.{stop, round, outcome, floor_after, booked_in, reported_in, reported_all, changes_running, disturbs, Promises}
use Rattle.floor.proofs.Calling.{got, holds}
use Rattle.floor.proofs.Calling as Calling
use Rattle.floor.proofs.AnywhereSamples.{small}
use Rattle.floor.proofs.Pack.{well_sound}
use Rattle.floor.proofs.Nearest.{routable}
use Rattle.floor.proofs.Paths.{live_iff}
use Rattle.plan.specs.declared.Entry.{Entry}
use Rattle.plan.specs.declared.Plan.{Plan}
use Rattle.plan.specs.Entries.{stage_of, waits, was_delivered, booked_number, used, predecessors, done, present, booked_numbers, after_predecessors, plan_sound, numbers_upto, entry_fits, plan_fits, ready, ready_label, released, reported}
use Rattle.plan.specs.Plans.{offer_tests, offered, offer_answer, release_tests, number_after, tile_for, release_booking, release_answer, numbers_in, report_tests, report_answer}
use Rattle.plan.proofs.Samples.{entry, plan, two, delivery, report as lists}
use Rattle.plan_floor.specs.Steps.{PlanCall, plan_offer, plan_release, plan_report, plan_given, plan_after, all_waiting, Event, booking, listing, events_of, events_in, BookedThenListed, predecessors_of, bookings_of, bookings_in, Step, call, offer, release, report, State, stepped, state_after, plan_calls_of, plan_calls_in, step_events, step_bookings, StepInRange, report_of_call, reports_of, FromRounds, calls_of, calls_in, booked_by, reported_by}
use Rattle.plan_floor.specs.Ending.{waiting_in, Served, Cycle, release_offered, after_cycles, refusals_in, Begins, Ended, handed_rounds, schedule}
use Rattle.plan_floor.specs.Promises.{Offers, as_written, SameWritten, PlanStays, StaysSound, AsCalls, OnFloorUntilReported}
use Rattle.plan_floor.proofs.Samples.{handed_from_rounds}
use Rattle.plan_floor.proofs.Ending.{handed_in_range, handed_quiet, handed_in, handed_rounds_lem, scheduled_cycles, scheduled_length}
use Rattle.plan_floor.proofs.Promises.{plans}

-- ---- floors and plans
-- W 2, hopper 1, U 9, v 1, fresh: canisters of 3 and of 8
unfoldable loose : Floor
loose = got (fresh_answer (small 3 1))

unfoldable tight : Floor
tight = got (fresh_answer (small 8 0))

-- 3 after 1 and 2; all wait
unfoldable trio : Plan
trio = plan (entry 3 0 1 2 0 0 ∷ entry 2 0 0 0 0 0 ∷ entry 1 0 0 0 0 0 ∷ [])

-- 2 after 1; 1 is delivered; both are; 1 is booked under 1
unfoldable half : Plan
half = plan (entry 2 0 1 0 0 0 ∷ entry 1 0 0 0 2 1 ∷ [])

unfoldable all : Plan
all = plan (entry 2 0 1 0 2 2 ∷ entry 1 0 0 0 2 1 ∷ [])

unfoldable out : Plan
out = plan (entry 2 0 1 0 0 0 ∷ entry 1 0 0 0 1 1 ∷ [])

-- label 7 after the absent 5: 47
unfoldable unfit : Plan
unfit = plan (entry 7 0 5 0 0 0 ∷ [])

-- 1 was delivered; five deliveries for a hopper
unfoldable one : Report
one = lists (delivery 1 (1 ∷ []) ∷ [])

unfoldable five : Report
five = lists (delivery 5 [] ∷ [])

-- the answers along a list; it opens all that is computed here
unfoldable refusals : Plan → List PlanCall → List ℕ
unfolding holds small entry plan two delivery lists loose tight trio half all out unfit one five
    stage_of predecessors done present booked_numbers after_predecessors plan_sound numbers_upto entry_fits plan_fits ready ready_label released reported offer_tests offered offer_answer release_tests number_after tile_for release_booking release_answer numbers_in report_tests report_answer
    outcome stepped state_after plan_given plan_after all_waiting predecessors_of plan_calls_of plan_calls_in events_of events_in bookings_of bookings_in calls_of calls_in waiting_in handed_rounds
refusals p [] = []
refusals p (plan_offer ∷ cs) = (offer_answer p).refusal ∷ refusals p cs
refusals p (plan_release f k ∷ cs) = (release_answer p f k).refusal ∷ refusals (release_answer p f k).plan cs
refusals p (plan_report r ∷ cs) = (report_answer p r).refusal ∷ refusals (report_answer p r).plan cs

-- ---- `offers`
-- labels 9, 4 and 6
unfoldable several : Plan
several = plan (entry 9 0 0 0 0 0 ∷ entry 4 0 0 0 0 0 ∷ entry 6 0 0 0 0 0 ∷ [])

offer_test : (((offer_answer several).refusal ≡ 0) × ((offer_answer several).label ≡ 4)) × ((((offer_answer all).refusal ≡ 0) × ((offer_answer all).label ≡ 0)) × ((offer_answer half).refusal ≡ 0))
unfolding refusals several
offer_test = ((refl, refl), ((refl, refl), refl))

several_offers : Offers several 4
several_offers = subst (Offers several) offer_test.0.1 (plans.offers several offer_test.0.0)

four_ready : ready_label (used several) 4 ≡ true
four_ready = several_offers.can_go (eqb-false 4 0 refl)

four_released : (f : Floor) → (release_answer several f 4).refusal ≢ 48
four_released = several_offers.not_48 (eqb-false 4 0 refl)

four_lowest : (e : Entry) → Memᴰ e (used several) → ready (used several) e ≡ true → 4 ≤ e.label
four_lowest = several_offers.lowest

-- all are delivered: none is offered, both ways
all_offers : Offers all (offer_answer all).label
all_offers = plans.offers all offer_test.1.0.0

none_ready : (e : Entry) → Memᴰ e (used all) → ready (used all) e ≡ false
none_ready = all_offers.none.0 offer_test.1.0.1

all_unready : All (λ e. ready (used all) e ≡ false) (used all)
unfolding refusals
all_unready = (refl, (refl, tt))

none_offered : (offer_answer all).label ≡ 0
none_offered = all_offers.none.1 (λ e m. all_mem (λ x. ready (used all) x ≡ false) m all_unready)

-- 2 waits, and nothing booked is undelivered
half_test : (any_of waits (used half) ≡ true) × All (λ e. booked_number e ≡ []) (used half)
unfolding refusals
half_test = (refl, (refl, (refl, tt)))

half_goes_on : (offer_answer half).label ≢ 0
half_goes_on = (plans.offers half offer_test.1.1).goes_on half_test.0 half_test.1

-- ---- `books`: label 2 under 7, and an entry of another label
booked_seven : booked_number (released 2 7 (entry 2 0 1 0 0 0)) ≡ 7 ∷ []
unfolding entry
booked_seven = (plans.books 2 7 (entry 2 0 1 0 0 0)).booked refl

other_same : released 2 7 (entry 3 4 1 2 1 5) ≡ entry 3 4 1 2 1 5
unfolding entry
other_same = (plans.books 2 7 (entry 3 4 1 2 1 5)).others_same (eqb-false 3 2 refl)

written_same : as_written (released 2 7 (entry 2 6 1 0 0 0)) ≡ 2 ∷ 6 ∷ 1 ∷ 0 ∷ []
unfolding entry as_written
written_same = (plans.books 2 7 (entry 2 6 1 0 0 0)).same_written

-- ---- `marks`: the second number of a report; one that it doesn't list; a waiting entry
listed_seven : was_delivered (reported (4 ∷ 7 ∷ []) (entry 2 6 1 0 1 7)) ≡ true
unfolding entry stage_of
listed_seven = (plans.marks (4 ∷ 7 ∷ []) (entry 2 6 1 0 1 7)).exactly.1 (inr (7, Memᴰ.head refl, Memᴰ.tail (Memᴰ.head refl)))

stays_delivered : was_delivered (reported (4 ∷ []) (entry 2 6 1 0 2 7)) ≡ true
unfolding entry stage_of
stays_delivered = (plans.marks (4 ∷ []) (entry 2 6 1 0 2 7)).exactly.1 (inl refl)

by_listing : (was_delivered (entry 2 6 1 0 1 7) ≡ true) ⊎ ((n : ℕ) × Memᴰ n (booked_number (entry 2 6 1 0 1 7)) × Memᴰ n (4 ∷ 7 ∷ []))
by_listing = (plans.marks (4 ∷ 7 ∷ []) (entry 2 6 1 0 1 7)).exactly.0 listed_seven

unlisted : reported (4 ∷ 7 ∷ []) (entry 2 6 1 0 1 8) ≡ entry 2 6 1 0 1 8
unfolding entry stage_of reported any_of
unlisted = (plans.marks (4 ∷ 7 ∷ []) (entry 2 6 1 0 1 8)).else_same refl

still_waits : waits (reported (4 ∷ 7 ∷ []) (entry 2 6 1 0 0 7)) ≡ true
unfolding entry stage_of
still_waits = (plans.marks (4 ∷ 7 ∷ []) (entry 2 6 1 0 0 7)).same_waiting

rest_same : let x = reported (4 ∷ 7 ∷ []) (entry 2 6 1 0 1 7) in x.tile ∷ x.number ∷ x.label ∷ x.first ∷ x.second ∷ [] ≡ 6 ∷ 7 ∷ 2 ∷ 1 ∷ 0 ∷ []
unfolding entry
rest_same = (plans.marks (4 ∷ 7 ∷ []) (entry 2 6 1 0 1 7)).same_rest

-- ---- `refused`: an offer by 47; a release by 48 and by 30; a report by 30
refused_test : (eqb (offer_answer unfit).refusal 0 ≡ false) × (((release_answer (two 0) tight 2).refusal ≡ 48) × (((release_answer (two 0) zero_floor 1).refusal ≡ 30) × (eqb (report_answer (two 0) five).refusal 0 ≡ false)))
unfolding refusals
refused_test = (refl, (refl, (refl, refl)))

offer_refused : (offer_answer unfit).label ≡ 0
offer_refused = (plans.refused unfit tight).offer (eqb-false (offer_answer unfit).refusal 0 refused_test.0)

-- the whole answer
release_48 : release_answer (two 0) tight 2 ≡ record { floor = tight; plan = two 0; number = 0; a = 0; b = 0; refusal = 48 }
release_48 =
    (plans.refused (two 0) tight).release 2 (λ e. absurd (omega (arith, refused_test.1.0, e)))
    ∙ (λ i. record { floor = tight; plan = two 0; number = 0; a = 0; b = 0; refusal = refused_test.1.0 i })

release_30 : ((release_answer (two 0) zero_floor 1).floor ≡ zero_floor) × ((release_answer (two 0) zero_floor 1).plan ≡ two 0)
release_30 = let e = (plans.refused (two 0) zero_floor).release 1 (λ e. absurd (omega (arith, refused_test.1.1.0, e))) in ((λ i. (e i).floor), (λ i. (e i).plan))

report_refused : (report_answer (two 0) five).plan ≡ two 0
report_refused = (plans.refused (two 0) tight).report five (eqb-false (report_answer (two 0) five).refusal 0 refused_test.1.1.1)

-- ---- the plan alone is handed on: 1 on the loose floor, 2 on the tight one, 3 on the loose one again, each under 1. While 1 is booked under 1, a release on a floor that has no number 1 is 30; so is the report with five
unfoldable parted : List PlanCall
parted = plan_release tight 3 ∷ plan_release loose 1 ∷ plan_offer ∷ plan_release tight 2 ∷ plan_report one ∷ plan_release tight 2 ∷ plan_report five ∷ plan_report one ∷ []

unfoldable whole : List PlanCall
whole = plan_release loose 1 ∷ plan_report one ∷ plan_release tight 2 ∷ plan_report one ∷ plan_release loose 3 ∷ []

parted_test : refusals trio parted ≡ 48 ∷ 0 ∷ 0 ∷ 30 ∷ 0 ∷ 0 ∷ 30 ∷ 0 ∷ []
unfolding refusals parted
parted_test = refl

-- `same_written`
parted_written : SameWritten trio (plan_after trio parted)
parted_written = plans.same_written trio parted

same_count : (plan_after trio parted).count ≡ 3
unfolding trio plan
same_count = parted_written.same_count

same_used : map as_written (used (plan_after trio parted)) ≡ (3 ∷ 0 ∷ 1 ∷ 2 ∷ []) ∷ (2 ∷ 0 ∷ 0 ∷ 0 ∷ []) ∷ (1 ∷ 0 ∷ 0 ∷ 0 ∷ []) ∷ []
unfolding trio plan entry as_written
same_used = parted_written.same_used

-- what stands past the count
same_past : drop (plan_after trio parted).count (plan_after trio parted).entries ≡ entry 5 0 0 0 0 0 ∷ []
unfolding trio plan
same_past = parted_written.same_past

-- `history`: 3 may be booked now, so 1 and 2 were booked and then listed
history_test : ((all_waiting trio ≡ true) × ((release_answer (plan_after trio parted) loose 3).refusal ≡ 0)) × ((predecessors_of (used trio) 3 ≡ 1 ∷ 2 ∷ []) × (events_in trio parted ≡ booking 1 1 ∷ listing 1 ∷ booking 2 1 ∷ listing 1 ∷ []))
unfolding refusals parted
history_test = ((refl, refl), (refl, refl))

both_reported : ((n : ℕ) × BookedThenListed 1 n (booking 1 1 ∷ listing 1 ∷ booking 2 1 ∷ listing 1 ∷ [])) × ((n : ℕ) × BookedThenListed 2 n (booking 1 1 ∷ listing 1 ∷ booking 2 1 ∷ listing 1 ∷ []))
both_reported =
    let h = plans.history trio history_test.0.0 parted loose 3 history_test.0.1 in
    let k = subst (λ (l : List ℕ). All (λ j. (n : ℕ) × BookedThenListed j n (events_in trio parted)) l) history_test.1.0 h in
    let m = subst (λ (x : List Event). All (λ j. (n : ℕ) × BookedThenListed j n x) (1 ∷ 2 ∷ [])) history_test.1.1 k in
    (m.0, m.1.0)

-- `once`
once_test : bookings_in trio whole ≡ (1, 1) ∷ (2, 1) ∷ (3, 1) ∷ []
unfolding refusals whole
once_test = refl

labels_once : Pairs (λ x y. x.0 ≢ y.0) (bookings_in trio whole)
labels_once = (plans.once trio whole).labels

-- 3 keeps its number, 1, and waits no more
third_kept : All (λ e. e.label ≡ 3 → (e.number ≡ 1) × (waits e ≡ false)) (used (plan_after trio whole))
third_kept = (subst (All (λ x. All (λ e. e.label ≡ x.0 → (e.number ≡ x.1) × (waits e ≡ false)) (used (plan_after trio whole)))) once_test (plans.once trio whole).kept).1.1.0

-- `plan_stays`, of the plan at first and of one with a label booked
stays_test : ((plan_sound trio ≡ true) × (plan_fits trio ≡ true)) × ((plan_sound out ≡ true) × (plan_fits out ≡ true))
unfolding refusals
stays_test = ((refl, refl), (refl, refl))

parted_stays : PlanStays trio (plan_after trio parted)
parted_stays = plans.plan_stays trio stays_test.0.0 parted

parted_sound : plan_sound (plan_after trio parted) ≡ true
parted_sound = parted_stays.sound

parted_fits : plan_fits (plan_after trio parted) ≡ true
parted_fits = parted_stays.same_fits ∙ stays_test.0.1

parted_offer : (offer_answer (plan_after trio parted)).refusal ≡ 0
parted_offer = parted_stays.offer_refusal ∙ ap (λ (b : Bool). cond b 0 47) stays_test.0.1

four_each : All (λ d. d.count ≤ 4) one.deliveries
unfolding one lists delivery
four_each = omega arith

parted_report : (report_answer (plan_after trio parted) one).refusal ≡ 0
parted_report = parted_stays.report_refusal one four_each ∙ ap (λ (b : Bool). cond b 0 47) stays_test.0.1

-- 1 is booked at first; the releases are on floors that have no number yet
out_sound : plan_sound (plan_after out (plan_release loose 2 ∷ plan_report one ∷ plan_release tight 2 ∷ [])) ≡ true
out_sound = (plans.plan_stays out stays_test.1.0 (plan_release loose 2 ∷ plan_report one ∷ plan_release tight 2 ∷ [])).sound

-- `waiting_sound`
waiting_three : (plan_sound trio ≡ true) × (numbers_upto 0 trio ≡ true)
unfolding trio plan
waiting_three = plans.waiting_sound trio history_test.0.0 (omega arith) 0

-- ---- a plan and a floor: 2 after 1 on the tight floor. 1 is released; the second round reports it; 2 is released
unfoldable wide : State
wide = record { plan = two 0; floor = tight }

abbrev first : State
first = stepped wide (release 1)

unfoldable reporting : List Step
reporting = release 1 ∷ handed_rounds 2 first

unfoldable both : List Step
both = reporting ++ (release 2 ∷ [])

wide_well : well_formed wide.floor ≡ true
unfolding refusals wide
wide_well = refl

in_range_reporting : All StepInRange reporting
unfolding reporting
in_range_reporting = (tt, handed_in_range 2 first)

in_range_both : All StepInRange both
unfolding both
in_range_both = all_append StepInRange reporting (release 2 ∷ []) in_range_reporting (tt, tt)

wide_test : ((all_waiting wide.plan ≡ true) × (predecessors_of (used wide.plan) 2 ≡ 1 ∷ [])) × (((release_answer (state_after wide reporting).plan (state_after wide reporting).floor 2).refusal ≡ 0) × (step_bookings wide both ≡ (1, 1) ∷ (2, 2) ∷ []))
unfolding refusals wide reporting both
wide_test = ((refl, refl), (refl, refl))

-- `as_plan_calls`
same_plan : plan_after wide.plan (plan_calls_in wide both) ≡ (state_after wide both).plan
same_plan = plans.as_plan_calls wide both

-- `by_rounds`
from_rounds : FromRounds wide [] reporting
unfolding reporting reports_of
from_rounds = (tt, handed_from_rounds 2 first [])

one_by_round : (n : ℕ) × BookedThenListed 1 n (step_events wide reporting) × Memᴰ n (reported_all wide.floor (calls_in wide reporting))
one_by_round =
    (subst (All (λ j. (n : ℕ) × BookedThenListed j n (step_events wide reporting) × Memᴰ n (reported_all wide.floor (calls_in wide reporting)))) wide_test.0.1
    (plans.by_rounds wide wide_test.0.0 reporting from_rounds 2 wide_test.1.0)).0

-- `rising`, `canisters`
numbers_rise : Pairs {A = ℕ × ℕ} (λ x y. x.1 < y.1) ((1, 1) ∷ (2, 2) ∷ [])
numbers_rise = subst (Pairs (λ (x : ℕ × ℕ) (y : ℕ × ℕ). x.1 < y.1)) wide_test.1.1 (plans.rising wide wide_well both in_range_both)

canisters_both : All {A = ℕ × ℕ} (λ x. OnFloorUntilReported wide both x.1) ((1, 1) ∷ (2, 2) ∷ [])
canisters_both = subst (All (λ (x : ℕ × ℕ). OnFloorUntilReported wide both x.1)) wide_test.1.1 (plans.canisters wide wide_well both in_range_both)

second_either : Memᴰ 2 (numbers_on (view (state_after wide both).floor)) ⊎ Memᴰ 2 (reported_all wide.floor (calls_in wide both))
second_either = canisters_both.1.0.either

first_not_both : Memᴰ 1 (numbers_on (view (state_after wide both).floor)) → ¬ (Memᴰ 1 (reported_all wide.floor (calls_in wide both)))
first_not_both = canisters_both.0.not_both

-- ---- a half-delivered plan read back, with 1 booked and on the floor: `stays_sound`, `as_calls`
unfoldable begun : State
begun = record { plan = out; floor = Calling.book 1 0 0 0 tight }

unfoldable onward : List Step
onward = call (stop 1) ∷ call round ∷ call round ∷ offer ∷ report one ∷ release 2 ∷ []

in_range_onward : All StepInRange onward
unfolding onward
in_range_onward = (tt, (tt, (tt, (tt, (tt, (tt, tt))))))

begun_test : (plan_sound begun.plan ≡ true) × ((numbers_upto begun.floor.counters.last begun.plan ≡ true) × ((well_formed begun.floor ≡ true) × (plan_fits begun.plan ≡ true)))
unfolding refusals begun
begun_test = (refl, (refl, (refl, refl)))

onward_stays : StaysSound begun.plan (state_after begun onward)
onward_stays = plans.stays_sound begun begun_test.0 begun_test.1.0 begun_test.1.1.0 onward in_range_onward

onward_plan : PlanStays begun.plan (state_after begun onward).plan
onward_plan = onward_stays.plan

onward_upto : numbers_upto (state_after begun onward).floor.counters.last (state_after begun onward).plan ≡ true
onward_upto = onward_stays.upto

onward_well : well_formed (state_after begun onward).floor ≡ true
onward_well = onward_stays.well

onward_not_30 : (k : ℕ) → (release_answer (state_after begun onward).plan (state_after begun onward).floor k).refusal ≢ 30
onward_not_30 = onward_stays.release_sound

onward_not_47 : (k : ℕ) → (release_answer (state_after begun onward).plan (state_after begun onward).floor k).refusal ≢ 47
onward_not_47 = onward_stays.release_fits begun_test.1.1.1

onward_calls : AsCalls begun onward
onward_calls = plans.as_calls begun onward

onward_floor : floor_after begun.floor (calls_in begun onward) ≡ (state_after begun onward).floor
onward_floor = onward_calls.same_floor

onward_booked : booked_in begun.floor (calls_in begun onward) ≡ booked_by begun onward
onward_booked = onward_calls.same_booked

onward_reported : (k : ℕ) → reported_in begun.floor (calls_in begun onward) k ≡ reported_by begun onward k
onward_reported = onward_calls.same_reported

onward_demand3 : Promises begun.floor (calls_in begun onward)
onward_demand3 = onward_calls.promises begun_test.1.1.0 in_range_onward

-- on a malformed floor too
malformed_floor : floor_after zero_floor (calls_in (record { plan = out; floor = zero_floor }) onward) ≡ (state_after (record { plan = out; floor = zero_floor }) onward).floor
malformed_floor = (plans.as_calls (record { plan = out; floor = zero_floor }) onward).same_floor

-- ---- `ends` on two labels
begins_test : (((offer_answer wide.plan).refusal ≡ 0) × All (λ e. booked_number e ≡ []) (used wide.plan)) × ((numbers_on (view wide.floor) ≡ []) × ((ltb (wide.floor.counters.last + waiting_in wide.plan) (2 ^ 32) ≡ true) × (waiting_in wide.plan ≡ 2)))
unfolding refusals wide
begins_test = ((refl, (refl, (refl, tt))), (refl, (refl, refl)))

served_test : (ltb 0 (total wide.floor.settings) ≡ true) × ((bit wide.floor.settings.sources 0 ≡ true) × (connected (view wide.floor).settings (runs_of_of (view wide.floor)) 0 ≡ true))
unfolding refusals wide
served_test = (refl, (refl, refl))

zero_served : Served wide.floor 0
unfolding view
zero_served =
    let m = view wide.floor in
    record {
      on_floor = ltb-true 0 (total wide.floor.settings) served_test.0;
      fill_tile = served_test.1.0;
      live = (live_iff m.settings (runs_of_of m) (routable m (well_sound wide.floor wide_well)) 0).1 served_test.1.1;
    }

both_served : All (λ e. waits e ≡ true → Served wide.floor e.tile) (used (two 0))
unfolding two plan entry
both_served = ((λ _. zero_served), ((λ _. zero_served), tt))

begins : Begins wide
unfolding wide
begins = record {
  not_refused = begins_test.0.0;
  none_booked = begins_test.0.1;
  well = wide_well;
  empty = begins_test.1.0;
  served = both_served;
  numbers_left = ltb-true (wide.floor.counters.last + waiting_in wide.plan) (2 ^ 32) begins_test.1.1.0;
}

-- a cycle of the bound's three rounds with a refused stop (8) and an offer; then one more than is needed
unfoldable stopping : List Step
stopping = call (stop 1) ∷ offer ∷ handed_rounds 3 (stepped (release_offered wide) (call (stop 1)))

abbrev halfway : State
halfway = state_after (release_offered wide) stopping

stopping_test : (disturbs (release_offered wide).floor (stop 1) ≡ false) × (bound (release_offered wide).floor.settings 1 ≡ 3)
unfolding refusals wide changes_running disturbs
stopping_test = (refl, refl)

stopping_cycle : Cycle (release_offered wide) stopping
unfolding stopping stepped calls_in calls_of reports_of report_of_call
stopping_cycle =
    let s = stepped (release_offered wide) (call (stop 1)) in
    record {
      in_range = (tt, (tt, handed_in_range 3 s));
      quiet = (stopping_test.0, handed_quiet 3 s);
      handed = (tt, (tt, handed_in 3 s));
      enough = omega (arith, stopping_test.1, handed_rounds_lem 3 s);
    }

three_cycles : Ended wide (stopping ∷ schedule 2 halfway)
three_cycles = plans.ends wide begins (stopping ∷ schedule 2 halfway) (omega (arith, begins_test.1.1.1, scheduled_length 2 halfway)) (stopping_cycle, scheduled_cycles 2 halfway)

three_accepted : All (λ r. r ≡ 0) (take 2 (refusals_in wide (stopping ∷ schedule 2 halfway)))
three_accepted = subst (λ (n : ℕ). All (λ r. r ≡ 0) (take n (refusals_in wide (stopping ∷ schedule 2 halfway)))) begins_test.1.1.1 three_cycles.accepted

three_delivered : All (λ e. was_delivered e ≡ true) (used (after_cycles wide (stopping ∷ schedule 2 halfway)).plan)
three_delivered = three_cycles.delivered

three_empty : numbers_on (view (after_cycles wide (stopping ∷ schedule 2 halfway)).floor) ≡ []
three_empty = three_cycles.empty

-- `scheduled`
two_scheduled : Ended wide (schedule 2 wide)
two_scheduled = subst (λ (n : ℕ). Ended wide (schedule n wide)) begins_test.1.1.1 (plans.scheduled wide begins)
