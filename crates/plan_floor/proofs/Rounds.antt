-- Where the reports handed in are those of rounds, each predecessor's number was reported by a round: `by_rounds`. The statement is specs/Promises.
use mathlib.Core.Path.{◌≡◌, refl, sym, subst}
use mathlib.Core.Bool.{Bool, true, false, cond}
use mathlib.Core.List.{List, [], ◌∷◌, ◌++◌, map, Memᴰ}
use Prim.Native.Nat.{ℕ, suc, ◌<◌}
use native.Mathlib.Omega.{arith}
use lib.Dec.{eqb}
use lib.ListN.{length, get_or}
use Rattle.laws.specs.Define.{cat, join}
use Rattle.laws.specs.Every.{All}
use Rattle.laws.proofs.Tables.{tab_length}
use Rattle.laws.proofs.Lists.{all_mem, all_of_lem, all_imp, all_append, all_left, all_right, mem_cat}
use Rattle.floor.specs.declared.Delivery.{Delivery}
use Rattle.floor.specs.declared.Floor.{Floor}
use Rattle.floor.specs.declared.Report.{Report}
use Rattle.floor.specs.Memory.{view}
use Rattle.floor.specs.Calls.{refusal_of, delivery_of, delivered, no_delivery, report_of, zero_report, round_answer}
use Rattle.floor.specs.Reports.{listed, listed_at}
use Rattle.floor.specs.Demand3.{Call, book, anywhere, stop, repair, round, keep, forget, recall, list, outcome, reported_in, reported_all}
use Rattle.plan.specs.declared.Plan.{Plan}
use Rattle.plan.specs.Entries.{used}
use Rattle.plan.specs.Plans.{release_answer, numbers_in, report_answer}
use Rattle.plan_floor.specs.Steps.{Event, booking, listing, events_of, events_in, BookedThenListed, here, later, predecessors_of, Step, call, offer, release, report, State, stepped, state_after, plan_calls_in, step_events, report_of_call, reports_of, HandedFrom, FromRounds, calls_in, reported_of, reported_by}
use Rattle.plan_floor.specs.Promises.{RoundsPromise}
use Rattle.plan_floor.proofs.History.{history}
use Rattle.plan_floor.proofs.AsPlan.{events_at, as_plan_calls, events_next}
use Rattle.plan_floor.proofs.AsCalls.{as_calls}

-- ---- the numbers of a report, list by list
join_all : (P : ℕ → Type 0) (ds : List Delivery) → ((k : ℕ) → k < length ds → All P (listed (get_or ds k no_delivery))) → All P (join (map listed ds))
unfolding join
join_all P [] h = tt
join_all P (d ∷ ds) h = all_append P (listed d) (join (map listed ds)) (h 0 (omega arith)) (join_all P ds (λ k l. h (suc k) (omega arith)))

pub four_lists : (f : Floor) → length (round_answer f).report.deliveries ≡ 4
unfolding round_answer report_of zero_report
four_lists f = go (eqb (refusal_of f []) 0)
  where
    go : (b : Bool) → length (cond b (report_of (view f)) zero_report).deliveries ≡ 4
    go true = tab_length 4 (λ k. delivery_of (get_or (delivered (view f)) k []))
    go false = refl

-- ---- P holds of every number that a round of the list reported
module _ (P : ℕ → Type 0) where
  abbrev ReportHas : Report → Type 0
  ReportHas r = All P (numbers_in r)

  abbrev EventHas : Event → Type 0
  EventHas (booking k n) = Unit {0}
  EventHas (listing n) = P n

  call_report_has : (f : Floor) (c : Call) → ((k : ℕ) → k < 4 → All P ((outcome f c).reported k)) → All ReportHas (report_of_call f c)
  unfolding report_of_call outcome numbers_in listed_at
  call_report_has f (book t c) h = tt
  call_report_has f (anywhere t number) h = tt
  call_report_has f (stop t) h = tt
  call_report_has f (repair t) h = tt
  call_report_has f round h = (join_all P (round_answer f).report.deliveries (λ k l. h k (omega (arith, four_lists f))), tt)
  call_report_has f (keep name) h = tt
  call_report_has f (forget name) h = tt
  call_report_has f (recall name) h = tt
  call_report_has f (list l) h = tt

  step_report_has : (s : State) (c : Step) → ((k : ℕ) → k < 4 → All P (reported_of s c k)) → All ReportHas (reports_of s c)
  unfolding reports_of reported_of
  step_report_has s (call c) h = call_report_has s.floor c h
  step_report_has s offer h = tt
  step_report_has s (release k) h = tt
  step_report_has s (report r) h = tt

  map_event_has : (l : List ℕ) → All P l → All EventHas (map listing l)
  map_event_has [] h = tt
  map_event_has (n ∷ l) h = (h.0, map_event_has l h.1)

  step_event_has : (s : State) (rs : List Report) (c : Step) → All ReportHas rs → HandedFrom rs c → All EventHas (events_at s c)
  unfolding events_at events_of
  step_event_has s rs (call c) kn g = tt
  step_event_has s rs offer kn g = tt
  step_event_has s rs (release k) kn g = go (eqb (release_answer s.plan s.floor k).refusal 0)
    where
      go : (b : Bool) → All EventHas (cond b (booking k (release_answer s.plan s.floor k).number ∷ []) [])
      go true = (tt, tt)
      go false = tt
  step_event_has s rs (report r) kn g = go (eqb (report_answer s.plan r).refusal 0)
    where
      go : (b : Bool) → All EventHas (cond b (map listing (numbers_in r)) [])
      go true = map_event_has (numbers_in r) (all_mem ReportHas g kn)
      go false = tt

  list_event_has : (s : State) (rs : List Report) (cs : List Step) → All ReportHas rs → ((k : ℕ) → k < 4 → All P (reported_by s cs k)) → FromRounds s rs cs → All EventHas (step_events s cs)
  unfolding events_in plan_calls_in reported_by
  list_event_has s rs [] kn h F = tt
  list_event_has s rs (c ∷ cs) kn h F =
      subst (All EventHas) (sym (events_next s c cs)) (all_append EventHas (events_at s c) (step_events (stepped s c) cs) (step_event_has s rs c kn F.0)
      (list_event_has (stepped s c) (reports_of s c ++ rs) cs
      (all_append ReportHas (reports_of s c) rs (step_report_has s c (λ k l. all_left P (reported_of s c k) (reported_by (stepped s c) cs k) (h k l))) kn)
      (λ k l. all_right P (reported_of s c k) (reported_by (stepped s c) cs k) (h k l)) F.1))

reported_listed : {k n : ℕ} {l : List Event} → BookedThenListed k n l → Memᴰ (listing n) l
reported_listed (here m) = Memᴰ.tail m
reported_listed (later r) = Memᴰ.tail (reported_listed r)

pub by_rounds : RoundsPromise
unfolding reported_all
by_rounds s h cs F k e =
    let f = s.floor in
    let P : ℕ → Type 0 = λ n. Memᴰ n (cat 4 (reported_in f (calls_in s cs))) in
    let events-have = list_event_has P s [] cs tt (λ j l. subst (All P) ((as_calls s cs).same_reported j) (all_of_lem P (reported_in f (calls_in s cs) j) (λ n m. mem_cat 4 (reported_in f (calls_in s cs)) j l m))) F in
    all_imp (λ j. (n : ℕ) × BookedThenListed j n (step_events s cs)) (λ j. (n : ℕ) × BookedThenListed j n (step_events s cs) × P n) (predecessors_of (used s.plan) k)
    (λ j r. (r.0, r.1, all_mem (EventHas P) (reported_listed r.1) events-have)) (history s.plan h (plan_calls_in s cs) (state_after s cs).floor k (subst (λ (p : Plan). (release_answer p (state_after s cs).floor k).refusal ≡ 0) (sym (as_plan_calls s cs)) e))
