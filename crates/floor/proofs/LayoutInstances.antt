-- [8] on concrete lists: layouts kept, recalled and forgotten between the rounds, by what the theorems say and by their values.
use mathlib.Core.Path.{◌≡◌, refl, ap, ◌∙◌, fun_ext}
use mathlib.Core.Bool.{Bool, true, false, cond, ◌&&◌}
use mathlib.Core.List.{List, [], ◌∷◌, ◌++◌, map}
use Prim.Native.Nat.{ℕ, zero, suc}
use native.Mathlib.Omega.{arith}
use lib.ListN.{length, take, replicate}
use Rattle.laws.specs.Define.{all_of, bit}
use Rattle.laws.specs.Every.{All}
use Rattle.floor.specs.declared.Floor.{Floor}
use Rattle.floor.specs.Settings.{total}
use Rattle.floor.specs.Layouts.{set_of}
use Rattle.floor.specs.Model.{Model, next_of, members_of, runs_of_of}
use Rattle.floor.specs.Memory.{view}
use Rattle.floor.specs.Demand3.{Call, book, anywhere, stop, repair, round, keep, forget, recall, list, InRange, floor_after, recall_set, disturbs}
use Rattle.floor.specs.Named.{needed, recall_calls}
use Rattle.floor.specs.BoundedBypass.{wants, Waiting, grants_in, Fair}
use Rattle.floor.specs.Arrows.{RunningUnchanged}
use Rattle.floor.proofs.Calling.{can, named, holds}
use Rattle.floor.proofs.CallsByValue.{Shows, refusal_by, shows_refusal}
use Rattle.floor.proofs.ListsByValue.{is_in_range, value_after_of, disturbs_by, quiet_by_lem, running_unchanged_by, waiting_by, call_disturbs, shows_list, running_unchanged, waiting}
use Rattle.floor.proofs.TablesByValue.{Made, called, fresh, book as put, rounds as run, stop as halt, repair as mend, floor_of, made, made_shows, list_shows, list_in_range, answers, runs_after_of as ranAfter, Seen, Rows, hold, hold_by, by_values}
use Rattle.floor.proofs.BoundedBypass.{bounded_bypass}
use Rattle.floor.proofs.Arrows.{arrows}
use Rattle.floor.proofs.Instances.{quiet_enough, empties, emptied, rounds, in_range_stop, in_range_repair, in_range_rounds, one, swift, crowd, crowd_shows, square, square_shows, four_tiles, running_unchanged_rounds, settled, rest, settled_shows}

-- ---- [8]: A is kept while tile 0 runs, B while it is stopped. A recall of A repairs it, one of B stops it
abbrev A : ℕ
A = named (65 ∷ [])

abbrev B : ℕ
B = named (66 ∷ [])

abbrev C : ℕ
C = named (67 ∷ [])

unfoldable recalling : List Call
recalling = keep A ∷ round ∷ stop 0 ∷ keep B ∷ recall A ∷ round ∷ recall B ∷ recall A ∷ []

-- eight rounds; between them keeping, forgetting, a recall that makes no stop and no repair, and a refused one (45)
unfoldable between : List Call
between = keep C ∷ round ∷ forget C ∷ round ∷ recall A ∷ round ∷ recall C ∷ rounds 5

-- stop t as 1 and t, repair t as 2 and t
unfoldable codes : List Call → List ℕ
codes [] = []
codes (stop t ∷ cs) = 1 ∷ t ∷ codes cs
codes (repair t ∷ cs) = 2 ∷ t ∷ codes cs
codes (book t c ∷ cs) = 0 ∷ codes cs
codes (anywhere t number ∷ cs) = 0 ∷ codes cs
codes (round ∷ cs) = 0 ∷ codes cs
codes (keep name ∷ cs) = 0 ∷ codes cs
codes (forget name ∷ cs) = 0 ∷ codes cs
codes (recall name ∷ cs) = 0 ∷ codes cs
codes (list l ∷ cs) = 0 ∷ codes cs

unfoldable recalls : Rows
recalls =
    let ran : ℕ → Seen = λ n. ranAfter (0 ∷ []) (take n recalling) swift in
    (answers (recalling ++ between) swift, replicate 14 0 ++ (45 ∷ replicate 5 0))
    ∷ (ran 2, 1 ∷ []) ∷ (ran 3, 0 ∷ []) ∷ (ran 4, 0 ∷ []) ∷ (ran 5, 1 ∷ []) ∷ (ran 6, 1 ∷ []) ∷ (ran 7, 0 ∷ []) ∷ (ran 8, 1 ∷ [])
    ∷ []

recalls_test : hold_by recalls ≡ true
unfolding holds hold_by swift can recalling between recalls
recalls_test = refl

recalls_all : hold recalls ≡ true
recalls_all = by_values recalls recalls_test

-- a recall ends a quiet list where it stops or repairs; a refused one, keeping and forgetting don't
abbrev endings : (Call → Bool) → List ℕ
endings d = map (λ c. cond (d c) 1 0) (recall A ∷ recall B ∷ recall C ∷ keep B ∷ forget B ∷ stop 0 ∷ book 0 (can 6 0 70) ∷ [])

endings_test : (empties swift recalling between 0 ≡ true) × (endings (disturbs_by (value_after_of (made swift).1 recalling)) ≡ 0 ∷ 1 ∷ 0 ∷ 0 ∷ 0 ∷ 1 ∷ 1 ∷ [])
unfolding holds hold_by swift can recalling between quiet_by_lem quiet_enough empties
endings_test = (refl, refl)

recalling_made : ((made swift).0 && all_of is_in_range recalling) ≡ true
unfolding holds hold_by swift can recalling
recalling_made = refl

which_end : endings (disturbs (floor_after (floor_of swift) recalling)) ≡ 0 ∷ 1 ∷ 0 ∷ 0 ∷ 0 ∷ 1 ∷ 1 ∷ []
which_end =
    let N = shows_list (floor_of swift) (made swift).1 (list_shows swift recalling recalling_made) recalling (list_in_range swift recalling recalling_made) in
    ap endings (fun_ext (call_disturbs (floor_after (floor_of swift) recalling) (value_after_of (made swift).1 recalling) N)) ∙ endings_test.1

recalls_empty : members_of (view (floor_after (floor_after (floor_of swift) recalling) between)) 0 ≡ []
recalls_empty = emptied swift recalling between 0 endings_test.0

-- the first trial's floor, its canister still aboard when the recall comes: five rounds are enough, and keeping, forgetting and a recall that makes nothing stand between them
unfoldable aboard : List Call
aboard = round ∷ keep C ∷ round ∷ forget C ∷ round ∷ recall A ∷ rounds 2

aboard_test : (empties one (keep A ∷ []) aboard 0 ≡ true) × (length (members_of (value_after_of (made one).1 (keep A ∷ take 6 aboard)) 0) ≡ 1)
unfolding holds hold_by one can aboard quiet_by_lem quiet_enough empties
aboard_test = (refl, refl)

aboard_empty : members_of (view (floor_after (floor_after (floor_of one) (keep A ∷ [])) aboard)) 0 ≡ []
aboard_empty = emptied one (keep A ∷ []) aboard 0 aboard_test.0

-- the calls that a recall is, by the value
unfoldable pub needed_by : Model → ℕ → ℕ → ℕ → List Call
needed_by m set t zero = []
needed_by m set t (suc n) = cond (bit set t) (cond (runs_of_of m t) [] (repair t ∷ [])) (cond (runs_of_of m t) (stop t ∷ []) []) ++ needed_by m set (suc t) n

needed_same : (f : Floor) (set t n : ℕ) → needed f set t n ≡ needed_by (view f) set t n
unfolding needed needed_by
needed_same f set t zero = refl
needed_same f set t (suc n) = rw (needed_same f set (suc t) n)

pub recall_calls_lem : (f : Floor) (m : Model) → Shows f m → (name : ℕ) → recall_calls f name ≡ needed_by m (set_of m.layouts name) 0 (total m.settings)
unfolding recall_calls recall_set view
recall_calls_lem f m s name = needed_same f (set_of (view f).layouts name) 0 (total f.settings) ∙ ap (λ (x : Model). needed_by x (set_of x.layouts name) 0 (total x.settings)) s.value

-- A without tiles 1 and 3, now without 2: in rising tile number, stop 1, repair 2, stop 3
unfoldable row : Made
row = halt 2 (mend 3 (mend 1 (called (keep A) (halt 3 (halt 1 (fresh 4 1 0))))))

row_test : ((made row).0 ≡ true) × (codes (needed_by (made row).1 (set_of (made row).1.layouts A) 0 (total (made row).1.settings)) ≡ 1 ∷ 1 ∷ 2 ∷ 2 ∷ 1 ∷ 3 ∷ [])
unfolding holds hold_by row needed_by codes
row_test = (refl, refl)

row_calls : codes (recall_calls (floor_of row) A) ≡ 1 ∷ 1 ∷ 2 ∷ 2 ∷ 1 ∷ 3 ∷ []
row_calls = ap codes (recall_calls_lem (floor_of row) (made row).1 (made_shows row row_test.0) A) ∙ row_test.1

-- while west waits, another tile may be stopped and recalled; a recall that stops the tile itself ends the waiting
abbrev meanwhile : List Call
meanwhile = keep A ∷ stop 0 ∷ recall A ∷ rounds 5

in_range_meanwhile : All InRange meanwhile
in_range_meanwhile = (tt, (in_range_stop 0, (tt, in_range_rounds 5)))

recall_test : waiting_by (made crowd).1 meanwhile 4 1 ≡ true
unfolding holds hold_by crowd wants waiting_by
recall_test = refl

recall_waits : Waiting (floor_of crowd) meanwhile 4 1
recall_waits = waiting (floor_of crowd) (made crowd).1 crowd_shows meanwhile in_range_meanwhile 4 1 recall_test

recall_fair : Fair 1 (grants_in (floor_of crowd) meanwhile 4)
recall_fair = (bounded_bypass (floor_of crowd) crowd_shows.well).fair meanwhile in_range_meanwhile 4 1 recall_waits

-- W 3, hopper 0: A without tile 1, which runs now; the canister on tile 2 wants into it
unfoldable lane : Made
lane = put 5 70 0 2 (run 2 (mend 1 (called (keep A) (halt 1 (fresh 3 1 0)))))

lane_test : ((made lane).0 ≡ true) × ((wants (made lane).1 1 4 ≡ true) × ((refusal_by (made lane).1 (recall A) ≡ 0) × ((total (made lane).1.settings ≡ 3) × (bit (set_of (made lane).1.layouts A) 1 ≡ false))))
unfolding holds hold_by lane wants
lane_test = (refl, (refl, (refl, (refl, refl))))

lane_shows : Shows (floor_of lane) (made lane).1
lane_shows = made_shows lane lane_test.0

lane_wants : wants (view (floor_of lane)) 1 4 ≡ true
lane_wants = ap (λ (x : Model). wants x 1 4) lane_shows.value ∙ lane_test.1.0

recall_ends : (k : ℕ) → wants (view (floor_after (floor_of lane) (recall A ∷ repair 1 ∷ []))) 1 k ≡ false
unfolding recall_set view
recall_ends =
    let E = lane_shows in
    let three : total (floor_of lane).settings ≡ 3 = ap (λ (x : Model). total x.settings) E.value ∙ lane_test.1.1.1.0 in
    (bounded_bypass (floor_of lane) E.well).recall_ends A 1 (shows_refusal (floor_of lane) (made lane).1 E (recall A) ∙ lane_test.1.1.0) (omega (arith, three))
    (ap (λ (x : Model). bit (set_of x.layouts A) 1) E.value ∙ lane_test.1.1.1.1) (repair 1 ∷ []) (in_range_repair 1, tt) refl

-- arrows rest through keeping, forgetting and a recall that makes nothing
abbrev calm : List Call
calm = keep A ∷ recall A ∷ forget A ∷ rounds 2

in_range_calm : All InRange calm
in_range_calm = (tt, (tt, (tt, in_range_rounds 2)))

calm_test : running_unchanged_by rest calm ≡ true
unfolding holds hold_by square running_unchanged_by
calm_test = refl

calm_running_unchanged : RunningUnchanged settled calm
calm_running_unchanged = running_unchanged settled rest settled_shows calm in_range_calm calm_test

calm_rested : (t : ℕ) → next_of (view (floor_after settled calm)) t ≡ next_of (view settled) t
calm_rested = ((arrows (floor_of square) square_shows.well).1.rests (rounds 4) (in_range_rounds 4) (running_unchanged_rounds 4 (floor_of square)) (omega (arith, four_tiles))).stays calm in_range_calm calm_running_unchanged
