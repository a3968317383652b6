-- Tables about floors that calls made: how a floor was made, what is read of it, what is due. A table speaks of floors in memory; it is computed on their values.
use mathlib.Core.Path.{◌≡◌, refl, ap, fun_ext}
use mathlib.Core.Bool.{Bool, true, cond, not, ◌&&◌}
use mathlib.Core.List.{List, [], ◌∷◌, ◌++◌, map}
use Prim.Native.Nat.{ℕ, zero, suc}
use lib.Dec.{eqb}
use lib.ListN.{get_or, take}
use Rattle.laws.specs.Define.{tab, all_of, sum, join, refusal}
use Rattle.laws.proofs.Lists.{same}
use Rattle.laws.specs.Every.{All}
use Rattle.laws.proofs.Tests.{and_left, and_right, and_true}
use Rattle.floor.specs.declared.Booking.{Booking}
use Rattle.floor.specs.declared.Settings.{Settings}
use Rattle.floor.specs.declared.Layout.{Layout}
use Rattle.floor.specs.declared.Floor.{Floor}
use Rattle.floor.specs.Settings.{settings_pass}
use Rattle.floor.specs.Layouts.{layouts_sound}
use Rattle.floor.specs.Model.{Model, runs_of_of}
use Rattle.floor.specs.Memory.{zero_floor, used_layouts, view, layouts_fit, relaid}
use Rattle.floor.specs.Calls.{fresh_floor, fresh_answer, report_of, read_tests, read_answer}
use Rattle.floor.specs.Reports.{listed_at}
use Rattle.floor.specs.Bound.{bound}
use Rattle.floor.specs.Live.{connected_count}
use Rattle.floor.specs.Demand3.{Call, book as booking, anywhere as placing, stop as stopping, repair as repairing, round, keep as keeping, forget as forgetting, recall as recalling, list as listing, InRange, outcome, booked_in as booked_on, reported_in as reported_on, runs_after_of as runs_on_of}
use Rattle.floor.specs.CommutingCalls.{Reply, place_to, list_to, answers_in, replies_in}
use Rattle.floor.specs.BoundedBypass.{grants_in}
use Rattle.floor.proofs.Well.{settings_fact}
use Rattle.floor.proofs.Capacity.{view_packed, sound_well}
use Rattle.floor.proofs.FreshAndWidths.{fresh_sound}
use Rattle.floor.proofs.CallsByValue.{Shows, value_booked_lem, value_singly_lem, answers_singly, tests_of, changed, refusal_by, place_by, list_by, value_by, read_by, shows_refusal, shows_place, shows_list_after, shows_call, shows_read, shows_relaid, shows_round, shows_report}
use Rattle.floor.proofs.ListsByValue.{is_in_range, in_range, all_in_range, value_after_of, answers_by, booked_of, booked_by, report_by, replies_by, reported_of, reported_by, grants_by_lem, answers_same, booked_same, replies_same, reported_same, grants_same, runs_same}
use Rattle.floor.proofs.Calling.{got, settings, can, flat, counts, on as on_floor_of, distances as distancesOn, next as nextOn, reported_to as reportedFrom, grant as grantOn, why as whyOn, layout_numbers, layouts_read_lem as layoutsOn, has, whole as whole_of, counted as countedOn, live_count as liveOn, bound_of as boundOn}

-- ---- how a floor was made: fresh, then call after call
pub data Made : Type 0 where
  begun : Settings → Made
  called : Call → Made → Made

-- W, H and the hopper; v 20
abbrev pub fresh : ℕ → ℕ → ℕ → Made
fresh W H hopper = begun (settings W H hopper 20)

-- canister number n at (a, b) on tile t
abbrev pub book : ℕ → ℕ → ℕ → ℕ → Made → Made
book n a b t e = called (booking t (can n a b)) e

-- number n, wherever there is room on tile t
abbrev pub place : ℕ → ℕ → Made → Made
place n t e = called (placing t n) e

abbrev pub stop : ℕ → Made → Made
stop t e = called (stopping t) e

abbrev pub repair : ℕ → Made → Made
repair t e = called (repairing t) e

abbrev pub keep : ℕ → Made → Made
keep name e = called (keeping name) e

abbrev pub forget : ℕ → Made → Made
forget name e = called (forgetting name) e

abbrev pub recall : ℕ → Made → Made
recall name e = called (recalling name) e

abbrev pub rounds : ℕ → Made → Made
rounds zero e = e
rounds (suc n) e = rounds n (called round e)

-- the floor of an accepted answer; a refused call counts as the all-zero floor, on which every reading is 30
unfoldable pub floor_of : Made → Floor
floor_of (begun s) = got (fresh_answer s)
floor_of (called c e) = let r = outcome (floor_of e) c in cond (eqb r.refusal 0) r.floor zero_floor

-- ---- what is read of it, as in Calling; the refusal number of a call on it; what a list of calls from it gives; or what is given
pub data Seen : Type 0 where
  on : ℕ → Made → Seen
  distances : ℕ → Made → Seen
  next : ℕ → Made → Seen
  reported_to : ℕ → Made → Seen
  grant : ℕ → Made → Seen
  why : ℕ → Made → Seen
  layouts_read_lem : Made → Seen
  whole : ℕ → Made → Seen
  counted : Made → Seen
  live_count : Made → Seen
  bound_of : Made → Seen
  answered : Call → Made → Seen
  -- with the place that it tells
  answered_place : Call → Made → Seen
  answers : List Call → Made → Seen
  booked : List Call → Made → Seen
  reported_in : ℕ → List Call → Made → Seen
  replies : (Reply → ℕ) → List Call → Made → Seen
  -- a list of bookings: its number, then what is read of each entry
  entries : (Booking → List ℕ) → List Booking → Made → Seen
  grants : ℕ → List Call → Made → Seen
  runs_after_of : List ℕ → List Call → Made → Seen
  -- the refusal of reading it with these places of layouts
  read_with : List Layout → Made → Seen
  given : List ℕ → Seen

abbrev pub reported : Made → Seen
reported e = reported_to 0 e

unfoldable pub seen : Seen → List ℕ
seen (on t e) = on_floor_of t (floor_of e)
seen (distances n e) = distancesOn n (floor_of e)
seen (next t e) = nextOn t (floor_of e)
seen (reported_to k e) = reportedFrom k (floor_of e)
seen (grant t e) = grantOn t (floor_of e)
seen (why n e) = whyOn n (floor_of e)
seen (layouts_read_lem e) = layoutsOn (floor_of e)
seen (whole n e) = whole_of n (floor_of e)
seen (counted e) = countedOn (floor_of e)
seen (live_count e) = liveOn (floor_of e) ∷ []
seen (bound_of e) = boundOn (floor_of e) ∷ []
seen (answered c e) = (outcome (floor_of e) c).refusal ∷ []
seen (answered_place c e) = let p = place_to (floor_of e) c in (outcome (floor_of e) c).refusal ∷ p.0 ∷ p.1 ∷ []
seen (answers cs e) = answers_in (floor_of e) cs
seen (booked cs e) = booked_on (floor_of e) cs
seen (reported_in k cs e) = reported_on (floor_of e) cs k
seen (replies g cs e) = map g (replies_in (floor_of e) cs)
seen (entries g l e) = (outcome (floor_of e) (listing l)).refusal ∷ join (map g (list_to (floor_of e) (listing l)))
seen (grants t cs e) = grants_in (floor_of e) cs t
seen (runs_after_of ts cs e) = let r = runs_on_of (floor_of e) cs in map (λ t. cond (r t) 1 0) ts
seen (read_with ls e) = (read_answer (relaid (floor_of e) ls) 0).refusal ∷ []
seen (given l) = l

-- each row is what is seen, then what is due
abbrev pub Rows : Type 0
Rows = List (Seen × List ℕ)

unfoldable pub hold : Rows → Bool
hold rows = all_of (λ r. same (seen r.0) r.1) rows

-- ---- the same on values: whether each call was accepted, and the value
unfoldable pub made : Made → Bool × Model
made (begun s) = (settings_pass s, fresh_floor s)
made (called c e) =
    let p = made e in
    let m = p.1 in
    (p.0 && (is_in_range c && eqb (refusal_by m c) 0), changed m c)

-- such a floor is well formed and has that value
pub made_shows : (e : Made) → (made e).0 ≡ true → Shows (floor_of e) (made e).1
unfolding made floor_of got fresh_answer settings_pass value_by
made_shows (begun s) h =
    let S = fresh_sound s ((settings_fact s).0 h) in
    rw h (record { well = sound_well (fresh_floor s) S; value = view_packed (fresh_floor s) S })
made_shows (called c e) h =
    let m = (made e).1 in
    let k = and_right (made e).0 _ h in
    let ok : eqb (refusal_by m c) 0 ≡ true = and_right (is_in_range c) _ k in
    let E = made_shows e (and_left (made e).0 _ h) in
    next_shows (floor_of e) m E ok (shows_call (floor_of e) m E c (in_range c (and_left (is_in_range c) _ k)))
  where
    next_shows : (f : Floor) (m : Model) → Shows f m → eqb (refusal_by m c) 0 ≡ true → Shows (outcome f c).floor (value_by m c)
        → Shows (cond (eqb (outcome f c).refusal 0) (outcome f c).floor zero_floor) (changed m c)
    next_shows f m E ok N = rw (shows_refusal f m E c, ok) (rw ok at N)

-- what is seen, by the value
unfoldable pub seen_by : Seen → Bool × List ℕ
seen_by (on t e) = let p = made e in let r = read_by p.1 t in (p.0, r.refusal ∷ flat (take r.tile.count r.members))
seen_by (distances n e) = let p = made e in let l = tab n (read_by p.1) in (p.0, sum (map (λ r. r.refusal) l) ∷ map (λ r. r.tile.distance) l)
seen_by (next t e) = let p = made e in let r = read_by p.1 t in (p.0, r.refusal ∷ r.tile.next.code ∷ [])
seen_by (reported_to k e) = let p = made e in (p.0, 0 ∷ listed_at (report_of p.1) k)
seen_by (grant t e) = let p = made e in (p.0, 0 ∷ get_or (report_of p.1).grants t 0 ∷ [])
seen_by (why n e) = let p = made e in let r = report_of p.1 in (p.0, 0 ∷ take n r.reasons ++ take n r.missing)
seen_by (layouts_read_lem e) = let p = made e in (p.0, (read_by p.1 0).refusal ∷ layout_numbers p.1.layouts)
seen_by (whole n e) = let p = made e in let m = p.1 in (p.0, join (map has (tab n (read_by m))) ++ (counts m.counters ++ layout_numbers m.layouts))
seen_by (counted e) = let p = made e in (p.0, (read_by p.1 0).refusal ∷ counts p.1.counters)
seen_by (live_count e) = let p = made e in let m = p.1 in (p.0, connected_count m (runs_of_of m) ∷ [])
seen_by (bound_of e) = let p = made e in let m = p.1 in (p.0, bound m.settings (connected_count m (runs_of_of m)) ∷ [])
seen_by (answered c e) = let p = made e in (p.0, refusal_by p.1 c ∷ [])
seen_by (answered_place c e) = let p = made e in let q = place_by p.1 c in (p.0, refusal_by p.1 c ∷ q.0 ∷ q.1 ∷ [])
seen_by (answers cs e) = let p = made e in (p.0 && all_of is_in_range cs, answers_by p.1 cs)
seen_by (booked cs e) = let p = made e in (p.0 && all_of is_in_range cs, booked_by p.1 cs)
seen_by (reported_in k cs e) = let p = made e in (p.0 && all_of is_in_range cs, reported_by p.1 cs k)
seen_by (replies g cs e) = let p = made e in (p.0 && all_of is_in_range cs, map g (replies_by p.1 cs))
seen_by (entries g l e) = let p = made e in (p.0 && is_in_range (listing l), refusal_by p.1 (listing l) ∷ join (map g (list_by p.1 (listing l))))
seen_by (grants t cs e) = let p = made e in (p.0 && all_of is_in_range cs, grants_by_lem p.1 cs t)
seen_by (runs_after_of ts cs e) = let p = made e in let m = value_after_of p.1 cs in (p.0 && all_of is_in_range cs, map (λ t. cond (runs_of_of m t) 1 0) ts)
seen_by (read_with ls e) = let p = made e in let m = p.1 in (p.0, refusal ((not (layouts_sound m.settings (used_layouts ls) && layouts_fit ls), 30) ∷ read_tests m 0) ∷ [])
seen_by (given l) = (true, l)

-- a floor made, and a list of calls on it
module _ (e : Made) (cs : List Call) (h : ((made e).0 && all_of is_in_range cs) ≡ true) where
  pub list_shows : Shows (floor_of e) (made e).1
  list_shows = made_shows e (and_left (made e).0 _ h)

  pub list_in_range : All InRange cs
  list_in_range = all_in_range cs (and_right (made e).0 _ h)

seen_same : (x : Seen) → (seen_by x).0 ≡ true → seen x ≡ (seen_by x).1
unfolding seen seen_by on_floor_of distancesOn nextOn reportedFrom grantOn whyOn layoutsOn whole_of countedOn liveOn boundOn view
seen_same (on t e) h = rw (shows_read (floor_of e) (made e).1 (made_shows e h) t)
seen_same (distances n e) h = rw (fun_ext (shows_read (floor_of e) (made e).1 (made_shows e h)))
seen_same (next t e) h = rw (shows_read (floor_of e) (made e).1 (made_shows e h) t)
seen_same (reported_to k e) h = let E = made_shows e h in rw (shows_round (floor_of e) (made e).1 E, shows_report (floor_of e) (made e).1 E)
seen_same (grant t e) h = let E = made_shows e h in rw (shows_round (floor_of e) (made e).1 E, shows_report (floor_of e) (made e).1 E)
seen_same (why n e) h = let E = made_shows e h in rw (shows_round (floor_of e) (made e).1 E, shows_report (floor_of e) (made e).1 E)
seen_same (layouts_read_lem e) h =
    let E = made_shows e h in
    rw (shows_read (floor_of e) (made e).1 E 0) (ap (λ (m : Model). (read_by (made e).1 0).refusal ∷ layout_numbers m.layouts) E.value)
seen_same (whole n e) h =
    let E = made_shows e h in
    rw (fun_ext (shows_read (floor_of e) (made e).1 E)) (ap (λ (m : Model). join (map has (tab n (read_by (made e).1))) ++ (counts m.counters ++ layout_numbers m.layouts)) E.value)
seen_same (counted e) h =
    let E = made_shows e h in
    rw (shows_read (floor_of e) (made e).1 E 0) (ap (λ (m : Model). (read_by (made e).1 0).refusal ∷ counts m.counters) E.value)
seen_same (live_count e) h = ap (λ (m : Model). connected_count m (runs_of_of m) ∷ []) (made_shows e h).value
seen_same (bound_of e) h = ap (λ (m : Model). bound m.settings (connected_count m (runs_of_of m)) ∷ []) (made_shows e h).value
seen_same (answered c e) h = ap (λ (n : ℕ). n ∷ []) (shows_refusal (floor_of e) (made e).1 (made_shows e h) c)
seen_same (answered_place c e) h = let E = made_shows e h in rw (shows_refusal (floor_of e) (made e).1 E c, shows_place (floor_of e) (made e).1 E c)
seen_same (answers cs e) h = answers_same (floor_of e) (made e).1 (list_shows e cs h) cs (list_in_range e cs h)
seen_same (booked cs e) h = booked_same (floor_of e) (made e).1 (list_shows e cs h) cs (list_in_range e cs h)
seen_same (reported_in k cs e) h = reported_same (floor_of e) (made e).1 (list_shows e cs h) cs (list_in_range e cs h) k
seen_same (replies g cs e) h = ap (map g) (replies_same (floor_of e) (made e).1 (list_shows e cs h) cs (list_in_range e cs h))
seen_same (entries g l e) h =
    let E = made_shows e (and_left (made e).0 _ h) in
    let c = listing l in
    rw (shows_refusal (floor_of e) (made e).1 E c, shows_list_after (floor_of e) (made e).1 E c (in_range c (and_right (made e).0 _ h)))
seen_same (grants t cs e) h = grants_same (floor_of e) (made e).1 (list_shows e cs h) cs (list_in_range e cs h) t
seen_same (runs_after_of ts cs e) h = ap (λ (r : ℕ → Bool). map (λ t. cond (r t) 1 0) ts) (fun_ext (runs_same (floor_of e) (made e).1 (list_shows e cs h) cs (list_in_range e cs h)))
seen_same (read_with ls e) h = ap (λ (n : ℕ). n ∷ []) (shows_relaid (floor_of e) (made e).1 (made_shows e h) ls)
seen_same (given l) h = refl

unfoldable pub hold_by : Rows → Bool
unfolding made is_in_range seen_by read_by refusal_by tests_of place_by list_by value_booked_lem value_singly_lem answers_singly changed value_by value_after_of answers_by booked_of booked_by report_by replies_by reported_of reported_by grants_by_lem
hold_by rows = all_of (λ r. let p = seen_by r.0 in p.0 && same p.1 r.1) rows

-- a table that holds by the values holds
pub by_values : (rows : Rows) → hold_by rows ≡ true → hold rows ≡ true
unfolding hold hold_by all_of
by_values [] h = refl
by_values (r ∷ rows) h =
    let k = and_left ((seen_by r.0).0 && same (seen_by r.0).1 r.1) _ h in
    and_true (row (seen_same r.0 (and_left (seen_by r.0).0 _ k)) (and_right (seen_by r.0).0 _ k))
    (by_values rows (and_right ((seen_by r.0).0 && same (seen_by r.0).1 r.1) _ h))
  where
    row : seen r.0 ≡ (seen_by r.0).1 → same (seen_by r.0).1 r.1 ≡ true → same (seen r.0) r.1 ≡ true
    row e k = rw e k
