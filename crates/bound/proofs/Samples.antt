-- Rows that hold the definition of the call bound to its sentence, through its answer: one table, one proof. A row is how a floor was made, then what is due: the refusal, the rounds, K, and the canisters without a live path. U 100, l 30, r 10, v 20, so M is 4.
use mathlib.Core.Path.{◌≡◌, refl, ap, ◌∙◌}
use mathlib.Core.Bool.{Bool, true, ◌&&◌}
use mathlib.Core.List.{List, [], ◌∷◌}
use Prim.Native.Nat.{ℕ}
use lib.ListN.{length}
use Rattle.laws.specs.Define.{all_of}
use Rattle.laws.proofs.Lists.{same}
use Rattle.laws.proofs.Tests.{and_left, and_right, and_true}
use Rattle.floor.specs.declared.Floor.{Floor}
use Rattle.floor.specs.Model.{Model, runs_of_of}
use Rattle.floor.specs.Memory.{zero_floor, view, refitted}
use Rattle.floor.specs.Bound.{bound}
use Rattle.floor.specs.Live.{connected_count}
use Rattle.floor.proofs.Calling.{settings, several, fresh as fresh_floor, book as book_on, Table, holds}
use Rattle.floor.proofs.CallsByValue.{Shows}
use Rattle.floor.proofs.TablesByValue.{Made, begun, fresh, book, stop, repair, rounds, floor_of, made, made_shows, hold_by}
use Rattle.bound.specs.declared.Bounded.{Bounded}
use Rattle.bound.specs.Answer.{numbers_where, unconnected_numbers, bound_answer}
use Rattle.bound.proofs.Within.{bound_accepted}

unfoldable pub told : Bounded → List ℕ
told r = r.refusal ∷ r.rounds ∷ r.connected ∷ r.unconnected ∷ []

-- ---- the same on values
unfoldable pub bound_by : Model → Bounded
bound_by m =
    let K = connected_count m (runs_of_of m) in
    record { rounds = bound m.settings K; connected = K; unconnected = length (unconnected_numbers m (runs_of_of m)); refusal = 0 }

pub shows_bound : (f : Floor) (m : Model) → Shows f m → bound_answer f ≡ bound_by m
unfolding bound_by view
shows_bound f m E = bound_accepted f E.well ∙ ap bound_by E.value

abbrev Rows : Type 0
Rows = List (Made × List ℕ)

unfoldable hold : Rows → Bool
hold rows = all_of (λ r. same (told (bound_answer (floor_of r.0))) r.1) rows

unfoldable hold_values : Rows → Bool
hold_values rows = all_of (λ r. let p = made r.0 in p.0 && same (told (bound_by p.1)) r.1) rows

by_values : (rows : Rows) → hold_values rows ≡ true → hold rows ≡ true
unfolding hold hold_values all_of
by_values [] h = refl
by_values (r ∷ rows) h =
    let p = made r.0 in
    let k = and_left (p.0 && same (told (bound_by p.1)) r.1) _ h in
    and_true (row (shows_bound (floor_of r.0) p.1 (made_shows r.0 (and_left p.0 _ k))) (and_right p.0 _ k))
    (by_values rows (and_right (p.0 && same (told (bound_by p.1)) r.1) _ h))
  where
    row : bound_answer (floor_of r.0) ≡ bound_by (made r.0).1 → same (told (bound_by (made r.0).1)) r.1 ≡ true → same (told (bound_answer (floor_of r.0))) r.1 ≡ true
    row e k = rw e k

unfoldable table : Rows
table =
    let line = fresh 4 1 0 in
    let square = fresh 4 4 0 in
    let two = begun (several 5 1 17 20) in
    let corner = fresh 2 2 1 in
    let snake = stop 4 (stop 3 (fresh 3 3 0)) in
    -- fresh floors: C - 1 rounds, in which nothing is delivered
    (fresh 2 1 1, 0 ∷ 1 ∷ 0 ∷ 0 ∷ [])
    ∷ (square, 0 ∷ 15 ∷ 0 ∷ 0 ∷ [])
    -- "The bound is 5": the paper's first trial; then its canister has been delivered
    ∷ (book 5 0 0 0 (fresh 2 1 1), 0 ∷ 5 ∷ 1 ∷ 0 ∷ [])
    ∷ (rounds 4 (book 5 0 0 0 (fresh 2 1 1)), 0 ∷ 1 ∷ 0 ∷ 0 ∷ [])
    -- one canister in the far corner; C - 1 steps away, in a row and in a column
    ∷ (book 5 0 0 15 square, 0 ∷ 75 ∷ 1 ∷ 0 ∷ [])
    ∷ (book 5 0 0 3 line, 0 ∷ 15 ∷ 1 ∷ 0 ∷ [])
    ∷ (book 5 0 0 0 (fresh 1 4 3), 0 ∷ 15 ∷ 1 ∷ 0 ∷ [])
    -- two on one tile
    ∷ (book 6 40 0 3 (book 5 0 0 3 line), 0 ∷ 27 ∷ 2 ∷ 0 ∷ [])
    -- cut off: behind a stopped tile; on it; one on either side; and repaired
    ∷ (stop 1 (book 5 0 0 3 line), 0 ∷ 3 ∷ 0 ∷ 1 ∷ [])
    ∷ (stop 3 (book 5 0 0 3 line), 0 ∷ 3 ∷ 0 ∷ 1 ∷ [])
    ∷ (stop 2 (book 6 0 0 1 (book 5 0 0 3 line)), 0 ∷ 15 ∷ 1 ∷ 1 ∷ [])
    ∷ (repair 2 (stop 2 (book 6 0 0 1 (book 5 0 0 3 line))), 0 ∷ 27 ∷ 2 ∷ 0 ∷ [])
    -- hoppers 0 and 4: one stop leaves the other way, two leave none
    ∷ (stop 1 (book 5 0 0 2 two), 0 ∷ 20 ∷ 1 ∷ 0 ∷ [])
    ∷ (stop 3 (stop 1 (book 5 0 0 2 two)), 0 ∷ 4 ∷ 0 ∷ 1 ∷ [])
    -- the only way from tile 6 goes by 7, 8, 5, 2 and 1
    ∷ (book 5 0 0 6 snake, 0 ∷ 40 ∷ 1 ∷ 0 ∷ [])
    ∷ (stop 5 (book 5 0 0 6 snake), 0 ∷ 8 ∷ 0 ∷ 1 ∷ [])
    -- 2 × 2, hopper 1: tile 2 has the next number and is no neighbour
    ∷ (stop 3 (stop 0 (book 5 0 0 2 corner)), 0 ∷ 3 ∷ 0 ∷ 1 ∷ [])
    ∷ (stop 0 (book 5 0 0 2 corner), 0 ∷ 15 ∷ 1 ∷ 0 ∷ [])
    ∷ []

table_test : hold_values table ≡ true
unfolding holds hold_by told bound_by hold_values table numbers_where unconnected_numbers
table_test = refl

bound_samples : hold table ≡ true
bound_samples = by_values table table_test

-- ---- a malformed floor: 30 and zeros, also where canisters stand on it
unfoldable refused_table : Table
refused_table =
    (told (bound_answer zero_floor), 30 ∷ 0 ∷ 0 ∷ 0 ∷ [])
    ∷ (told (bound_answer (refitted (book_on 5 0 0 1 (fresh_floor 3 1 0)) (settings 3 1 0 30))), 30 ∷ 0 ∷ 0 ∷ 0 ∷ [])
    ∷ (told (bound_answer (book_on 5 0 0 1 (fresh_floor 3 1 0))), 0 ∷ 10 ∷ 1 ∷ 0 ∷ [])
    ∷ []

refused_samples : holds refused_table ≡ true
unfolding holds told refused_table numbers_where unconnected_numbers bound_answer
refused_samples = refl
