-- Cases with several hoppers, through the answers of the calls. A row is what the answers give, then what is due.
use mathlib.Core.Path.{◌≡◌, refl}
use mathlib.Core.Bool.{true}
use mathlib.Core.List.{[], ◌∷◌}
use Prim.Native.Nat.{ℕ}
use Rattle.floor.specs.declared.Floor.{Floor}
use Rattle.floor.specs.declared.Settings.{Settings}
use Rattle.floor.specs.Calls.{fresh_answer, book_answer, stop_answer}
use Rattle.floor.proofs.Calling.{got, several, can, book, stop, rounds, tile, distances, next, reported_to, grant, counted, live_count, Table, holds}
use Rattle.cases.proofs.Changed.{asked, head, with_head, with_place, with_counts, seen}

-- W, H and the hoppers' set; every other tile a fill tile
unfoldable with : ℕ → ℕ → ℕ → Floor
with W H hoppers = got (fresh_answer (several W H hoppers 20))

-- 4 × 1 with these fill tiles
unfoldable filled : ℕ → ℕ → Settings
filled hoppers fill = record { columns = 4; rows = 1; hoppers = hoppers; sources = fill; width = 100; length = 30; gap = 10; travel = 20 }

-- ---- fresh: one to four on the floor, no fill bit for any of them
unfoldable fresh_cases_lem : Table
fresh_cases_lem =
    (asked (several 5 1 0 20), 2 ∷ 1 ∷ [])
    ∷ (asked (several 5 1 31 20), 2 ∷ 1 ∷ [])
    ∷ (asked (filled 16 0), 2 ∷ 1 ∷ [])
    ∷ (asked (filled 17 0), 2 ∷ 1 ∷ [])
    ∷ (asked (filled 9 9), 2 ∷ 1 ∷ [])
    ∷ (asked (filled 9 8), 2 ∷ 1 ∷ [])
    ∷ (asked (filled 9 1), 2 ∷ 1 ∷ [])
    ∷ ((fresh_answer (filled 9 6)).refusal ∷ (fresh_answer (several 5 1 30 20)).refusal ∷ (fresh_answer (several 2 1 3 20)).refusal ∷ [], 0 ∷ 0 ∷ 0 ∷ [])
    ∷ []

fresh_cases : holds fresh_cases_lem ≡ true
unfolding holds asked filled fresh_cases_lem
fresh_cases = refl

-- ---- rounds
unfoldable round_cases_lem : Table
round_cases_lem =
    let beside = book 6 0 0 3 (book 5 40 0 0 (with 4 1 6)) in
    let between = book 5 0 0 1 (with 3 1 5) in
    let tall = book 5 0 0 1 (with 1 3 5) in
    let both = book 8 70 40 2 (book 7 70 0 2 (book 6 10 0 1 (with 4 1 9))) in
    let all = with 2 2 15 in
    let long = stop 1 (book 5 0 0 2 (rounds 3 (with 5 1 17))) in
    -- two hoppers side by side: the distances; 5 goes to tile 1, 6 to tile 2; neither takes from the other
    (distances 4 (rounds 1 beside), 0 ∷ 1 ∷ 0 ∷ 0 ∷ 1 ∷ [])
    ∷ (grant 1 beside, 0 ∷ 1 ∷ [])
    ∷ (grant 2 beside, 0 ∷ 4 ∷ [])
    ∷ (reported_to 0 (rounds 1 beside), 0 ∷ 5 ∷ [])
    ∷ (reported_to 1 beside, 0 ∷ 6 ∷ [])
    ∷ (counted (rounds 2 beside), 0 ∷ 6 ∷ 2 ∷ 1 ∷ 1 ∷ 0 ∷ 0 ∷ [])
    -- a tile between two at equal distance: west before east, south before north
    ∷ (tile 1 (rounds 1 between), 0 ∷ 1 ∷ 1 ∷ 1 ∷ 0 ∷ [])
    ∷ (reported_to 0 between, 0 ∷ 5 ∷ [])
    ∷ (reported_to 1 between, 0 ∷ [])
    ∷ (next 1 (rounds 1 tall), 0 ∷ 2 ∷ [])
    -- two deliveries at one hopper and one at the other, in one round
    ∷ (reported_to 0 both, 0 ∷ 6 ∷ [])
    ∷ (reported_to 1 both, 0 ∷ 7 ∷ 8 ∷ [])
    ∷ (counted (rounds 1 both), 0 ∷ 8 ∷ 3 ∷ 1 ∷ 2 ∷ 0 ∷ 0 ∷ [])
    ∷ (reported_to 2 both, 0 ∷ [])
    -- four hoppers on a 2 × 2 floor: nothing can be booked or stopped, and rounds go on
    ∷ (distances 4 (rounds 2 all), 0 ∷ 0 ∷ 0 ∷ 0 ∷ 0 ∷ [])
    ∷ ((book_answer all 0 (can 5 0 0)).refusal ∷ (stop_answer all 0).refusal ∷ (stop_answer all 3).refusal ∷ [], 5 ∷ 8 ∷ 8 ∷ [])
    ∷ (counted (rounds 2 all), 0 ∷ 0 ∷ 0 ∷ 0 ∷ 0 ∷ 0 ∷ 0 ∷ [])
    -- W 5, hoppers 0 and 4: 5 on tile 2 was going west; tile 1 stopped, it is delivered at the other hopper
    ∷ (next 2 long, 0 ∷ 1 ∷ [])
    ∷ (next 2 (rounds 1 long), 0 ∷ 4 ∷ [])
    ∷ (live_count long ∷ [], 1 ∷ [])
    ∷ (reported_to 0 (rounds 7 long), 0 ∷ [])
    ∷ (reported_to 1 (rounds 7 long), 0 ∷ 5 ∷ [])
    ∷ (counted (rounds 8 long), 0 ∷ 5 ∷ 1 ∷ 0 ∷ 1 ∷ 0 ∷ 0 ∷ [])
    ∷ []

round_cases : holds round_cases_lem ≡ true
unfolding holds with round_cases_lem
round_cases = refl

-- ---- well formed covers each hopper, and the counters beyond the last
unfoldable well_cases_lem : Table
well_cases_lem =
    let f = with 4 1 9 in
    (seen (with_counts 9 9 (4 ∷ 5 ∷ []) f), 0 ∷ [])
    -- a counter beyond the last hopper; the sum, not one of them; a sum beyond 32 bits
    ∷ (seen (with_counts 9 9 (4 ∷ 4 ∷ 1 ∷ []) f), 30 ∷ [])
    ∷ (seen (with_counts 9 9 (9 ∷ 9 ∷ []) f), 30 ∷ [])
    ∷ (seen (with_counts 4294967295 0 (2147483648 ∷ 2147483648 ∷ []) f), 30 ∷ [])
    -- the second hopper stopped; with a distance, an arrow, a canister
    ∷ (seen (with_head 3 (head 0 0 0 0 0) f), 30 ∷ [])
    ∷ (seen (with_head 3 (head 1 1 0 0 0) f), 30 ∷ [])
    ∷ (seen (with_head 3 (head 1 0 1 0 0) f), 30 ∷ [])
    ∷ (seen (with_head 3 (head 1 0 0 0 1) (with_place 48 (can 1 0 0) (with_counts 1 1 [] f))), 30 ∷ [])
    ∷ (seen (with_head 3 (head 1 0 0 1 0) f), 0 ∷ [])
    -- a hopper's head on another tile
    ∷ (seen (with_head 2 (head 1 0 0 0 0) f), 30 ∷ [])
    ∷ []

well_cases : holds well_cases_lem ≡ true
unfolding holds with head with_head with_place with_counts seen well_cases_lem
well_cases = refl
