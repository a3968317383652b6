-- The trials of document 01 that are marked ●: one table, one proof. A row is what the answers give, then what the paper says. What is read begins with 0, the refusal number of an accepted call.
use mathlib.Core.Path.{◌≡◌, refl}
use mathlib.Core.Bool.{true}
use mathlib.Core.List.{[], ◌∷◌}
use Rattle.floor.specs.Calls.{fresh_answer}
use Rattle.floor.specs.Demand3.{book as booking}
use Rattle.floor.proofs.Calling.{settings, can, holds}
use Rattle.floor.proofs.TablesByValue.{Made, begun, fresh, book, stop, rounds, on, distances, next, reported, grant, bound_of, counted, answered, given, Rows, hold, hold_by, by_values}

unfoldable one : Made
one = book 5 0 0 0 (fresh 2 1 1)

unfoldable ten : Made
ten = book 5 10 0 0 (fresh 2 1 1)

unfoldable four : Made
four = rounds 3 (fresh 4 1 0)

unfoldable square : Made
square = rounds 2 (fresh 2 2 3)

unfoldable both : Made
both = book 6 0 0 2 (book 5 0 0 0 (fresh 3 1 1))

unfoldable table : Rows
table =
    -- W 2, hopper 1: canister 5 at (0, 0) on tile 0 stands at a = 20, 40, 60, then is delivered in round 4. The bound is 5.
    (on 0 one, 0 ∷ 5 ∷ 0 ∷ 0 ∷ [])
    ∷ (on 0 (rounds 1 one), 0 ∷ 5 ∷ 20 ∷ 0 ∷ [])
    ∷ (on 0 (rounds 2 one), 0 ∷ 5 ∷ 40 ∷ 0 ∷ [])
    ∷ (on 0 (rounds 3 one), 0 ∷ 5 ∷ 60 ∷ 0 ∷ [])
    ∷ (reported (rounds 2 one), 0 ∷ [])
    ∷ (reported (rounds 3 one), 0 ∷ 5 ∷ [])
    ∷ (on 0 (rounds 4 one), 0 ∷ [])
    ∷ (on 1 (rounds 4 one), 0 ∷ [])
    ∷ (counted (rounds 3 one), 0 ∷ 5 ∷ 1 ∷ 0 ∷ 0 ∷ 0 ∷ 0 ∷ [])
    ∷ (counted (rounds 4 one), 0 ∷ 5 ∷ 1 ∷ 1 ∷ 0 ∷ 0 ∷ 0 ∷ [])
    ∷ (bound_of one, 5 ∷ [])
    -- From a = 10: 30, 50, 70 (70 + 30 = 100 doesn't cross), delivered in round 4.
    ∷ (on 0 (rounds 1 ten), 0 ∷ 5 ∷ 30 ∷ 0 ∷ [])
    ∷ (on 0 (rounds 2 ten), 0 ∷ 5 ∷ 50 ∷ 0 ∷ [])
    ∷ (on 0 (rounds 3 ten), 0 ∷ 5 ∷ 70 ∷ 0 ∷ [])
    ∷ (reported (rounds 2 ten), 0 ∷ [])
    ∷ (reported (rounds 3 ten), 0 ∷ 5 ∷ [])
    -- With one at (0, 0): (39, 39) is 34; (40, 0) accepted.
    ∷ (answered (booking 0 (can 6 39 39)) one, 34 ∷ [])
    ∷ (answered (booking 0 (can 6 40 0)) one, 0 ∷ [])
    ∷ (on 0 (book 6 40 0 0 one), 0 ∷ 5 ∷ 0 ∷ 0 ∷ 6 ∷ 40 ∷ 0 ∷ [])
    -- a = 70 accepted; 71 is 7.
    ∷ (answered (booking 0 (can 5 70 0)) (fresh 2 1 1), 0 ∷ [])
    ∷ (on 0 (book 5 70 0 0 (fresh 2 1 1)), 0 ∷ 5 ∷ 70 ∷ 0 ∷ [])
    ∷ (answered (booking 0 (can 5 71 0)) (fresh 2 1 1), 7 ∷ [])
    -- v 29 accepted; v 30 is 3.
    ∷ (given ((fresh_answer (settings 2 1 1 29)).refusal ∷ []), 0 ∷ [])
    ∷ (on 0 (begun (settings 2 1 1 29)), 0 ∷ [])
    ∷ (given ((fresh_answer (settings 2 1 1 30)).refusal ∷ []), 3 ∷ [])
    -- W 3, hopper 0, canister at (5, 0) on fresh tile 2: after two rounds on tile 1 at (70, 0).
    ∷ (on 1 (rounds 2 (book 5 5 0 2 (fresh 3 1 0))), 0 ∷ 5 ∷ 70 ∷ 0 ∷ [])
    ∷ (on 2 (rounds 2 (book 5 5 0 2 (fresh 3 1 0))), 0 ∷ [])
    -- W 4, hopper 0, settled distances 0, 1, 2, 3. Stop tile 1: one round gives tile 2 none, tile 3 3; the next gives none for both.
    ∷ (distances 4 four, 0 ∷ 0 ∷ 1 ∷ 2 ∷ 3 ∷ [])
    ∷ (distances 4 (rounds 1 four), 0 ∷ 0 ∷ 1 ∷ 2 ∷ 3 ∷ [])
    ∷ (distances 4 (rounds 1 (stop 1 four)), 0 ∷ 0 ∷ 255 ∷ 255 ∷ 3 ∷ [])
    ∷ (distances 4 (rounds 2 (stop 1 four)), 0 ∷ 0 ∷ 255 ∷ 255 ∷ 255 ∷ [])
    -- W 2, H 2, hopper 3: settled, tile 0's arrow is north.
    ∷ (distances 4 square, 0 ∷ 2 ∷ 1 ∷ 1 ∷ 0 ∷ [])
    ∷ (distances 4 (rounds 1 square), 0 ∷ 2 ∷ 1 ∷ 1 ∷ 0 ∷ [])
    ∷ (next 0 square, 0 ∷ 3 ∷ [])
    -- W 3, hopper 1, canisters on 0 and 2: grants west, then east.
    ∷ (grant 1 both, 0 ∷ 1 ∷ [])
    ∷ (grant 1 (rounds 1 both), 0 ∷ 4 ∷ [])
    ∷ []

computed : hold_by table ≡ true
unfolding holds hold_by one ten four square both table
computed = refl

trials : hold table ≡ true
trials = by_values table computed
