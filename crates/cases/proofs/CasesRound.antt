-- Cases beyond the paper's trials, through the answers of the calls: rounds. One row, the last of the turns, reads a definition. A row is what the answers give, then what is due.
use mathlib.Core.Path.{◌≡◌, refl}
use mathlib.Core.Bool.{true, false}
use mathlib.Core.List.{[], ◌∷◌, map}
use Prim.Native.Nat.{ℕ, zero, suc, ◌*◌, ◌/◌, ◌%◌}
use lib.ListN.{length, replicate}
use Rattle.laws.specs.Define.{join}
use Rattle.floor.specs.declared.Settings.{Settings}
use Rattle.floor.specs.declared.Floor.{Floor}
use Rattle.floor.specs.Signal.{signal_by}
use Rattle.floor.specs.Calls.{fresh_answer, book_answer, round_answer}
use Rattle.floor.proofs.Calling.{got, settings, fresh, can, book, stop, repair, rounds, on, tile, distances, next, turn, reported, grant, counted, refused, Table, holds}

-- l 21, r 0, v 10: four along each axis
unfoldable dense : Settings
dense = record { columns = 2; rows = 1; hoppers = 2; sources = 1; width = 100; length = 21; gap = 0; travel = 10 }

-- ---- move, on each side: 5 ends at the border and stays, 6 goes one past it and lands, 7 moves
unfoldable move_cases_lem : Table
move_cases_lem =
    let west = rounds 1 (book 7 60 13 2 (book 6 19 40 2 (book 5 20 0 2 (rounds 2 (fresh 3 1 0))))) in
    let south = rounds 1 (book 7 13 60 2 (book 6 40 19 2 (book 5 0 20 2 (rounds 2 (fresh 1 3 0))))) in
    let north = rounds 1 (book 7 13 10 0 (book 6 40 51 0 (book 5 0 50 0 (rounds 2 (fresh 1 3 2))))) in
    let east = rounds 1 (book 7 10 13 0 (book 6 51 40 0 (book 5 50 0 0 (rounds 2 (fresh 3 1 2))))) in
    -- west
    (on 2 west, 0 ∷ 5 ∷ 0 ∷ 0 ∷ 7 ∷ 40 ∷ 13 ∷ [])
    ∷ (on 1 west, 0 ∷ 6 ∷ 70 ∷ 40 ∷ [])
    -- south
    ∷ (on 2 south, 0 ∷ 5 ∷ 0 ∷ 0 ∷ 7 ∷ 13 ∷ 40 ∷ [])
    ∷ (on 1 south, 0 ∷ 6 ∷ 40 ∷ 70 ∷ [])
    -- north
    ∷ (on 0 north, 0 ∷ 5 ∷ 0 ∷ 70 ∷ 7 ∷ 13 ∷ 30 ∷ [])
    ∷ (on 1 north, 0 ∷ 6 ∷ 40 ∷ 0 ∷ [])
    -- east
    ∷ (on 0 east, 0 ∷ 5 ∷ 70 ∷ 0 ∷ 7 ∷ 30 ∷ 13 ∷ [])
    ∷ (on 1 east, 0 ∷ 6 ∷ 0 ∷ 40 ∷ [])
    -- nothing is delivered on the way
    ∷ (counted west, 0 ∷ 7 ∷ 3 ∷ 0 ∷ 0 ∷ 0 ∷ 0 ∷ [])
    ∷ []

move_cases : holds move_cases_lem ≡ true
unfolding holds move_cases_lem
move_cases = refl

-- ---- the gap, on each side: exactly d is granted, d - 1 not; then the turn, chosen anew, stays, and the neighbour stands still
unfoldable gap_cases_lem : Table
gap_cases_lem =
    let west = book 5 0 0 0 (rounds 2 (fresh 3 1 2)) in
    let south = book 5 0 0 0 (rounds 2 (fresh 1 3 2)) in
    let north = book 5 50 50 2 (rounds 2 (fresh 1 3 0)) in
    let east = book 5 50 50 2 (rounds 2 (fresh 3 1 0)) in
    let westShort = book 6 39 70 1 west in
    let southShort = book 6 70 39 1 south in
    let northShort = book 6 0 31 1 north in
    let eastShort = book 6 31 0 1 east in
    let pair = rounds 1 (book 6 50 0 5 (book 5 0 0 1 (rounds 3 (stop 4 (stop 0 (fresh 3 2 2)))))) in
    let anew = book 7 39 0 3 (stop 5 pair) in
    let blocked = book 7 70 0 3 pair in
    -- west: a ≥ d
    (grant 1 (book 6 40 0 1 west), 0 ∷ 1 ∷ [])
    ∷ (on 0 (rounds 1 (book 6 40 0 1 west)), 0 ∷ 5 ∷ 20 ∷ 0 ∷ [])
    ∷ (grant 1 westShort, 0 ∷ 0 ∷ [])
    ∷ (turn 1 (rounds 1 westShort), 0 ∷ 1 ∷ [])
    ∷ (on 0 (rounds 1 westShort), 0 ∷ 5 ∷ 0 ∷ 0 ∷ [])
    -- south: b ≥ d
    ∷ (grant 1 (book 6 0 40 1 south), 0 ∷ 2 ∷ [])
    ∷ (on 0 (rounds 1 (book 6 0 40 1 south)), 0 ∷ 5 ∷ 0 ∷ 20 ∷ [])
    ∷ (grant 1 southShort, 0 ∷ 0 ∷ [])
    ∷ (turn 1 (rounds 1 southShort), 0 ∷ 2 ∷ [])
    ∷ (on 0 (rounds 1 southShort), 0 ∷ 5 ∷ 0 ∷ 0 ∷ [])
    -- north: b + l + d ≤ U
    ∷ (grant 1 (book 6 70 30 1 north), 0 ∷ 3 ∷ [])
    ∷ (on 2 (rounds 1 (book 6 70 30 1 north)), 0 ∷ 5 ∷ 50 ∷ 30 ∷ [])
    ∷ (grant 1 northShort, 0 ∷ 0 ∷ [])
    ∷ (turn 1 (rounds 1 northShort), 0 ∷ 3 ∷ [])
    ∷ (on 2 (rounds 1 northShort), 0 ∷ 5 ∷ 50 ∷ 50 ∷ [])
    -- east: a + l + d ≤ U
    ∷ (grant 1 (book 6 30 70 1 east), 0 ∷ 4 ∷ [])
    ∷ (on 2 (rounds 1 (book 6 30 70 1 east)), 0 ∷ 5 ∷ 30 ∷ 50 ∷ [])
    ∷ (grant 1 eastShort, 0 ∷ 0 ∷ [])
    ∷ (turn 1 (rounds 1 eastShort), 0 ∷ 4 ∷ [])
    ∷ (on 2 (rounds 1 eastShort), 0 ∷ 5 ∷ 50 ∷ 50 ∷ [])
    -- tile 3 between 1 and 5, its turn east's after one grant: tile 5 stops, the turn is chosen anew, has no gap and stays
    ∷ (turn 3 pair, 0 ∷ 4 ∷ [])
    ∷ (grant 3 anew, 0 ∷ 0 ∷ [])
    ∷ (turn 3 (rounds 1 anew), 0 ∷ 1 ∷ [])
    -- both want, and only west has the gap: the turn stays with east
    ∷ (grant 3 blocked, 0 ∷ 0 ∷ [])
    ∷ (turn 3 (rounds 1 blocked), 0 ∷ 4 ∷ [])
    -- every canister here: one with the gap and one without, either first
    ∷ (grant 1 (book 7 39 40 1 (book 6 70 0 1 west)), 0 ∷ 0 ∷ [])
    ∷ (grant 1 (book 7 70 0 1 (book 6 39 40 1 west)), 0 ∷ 0 ∷ [])
    ∷ []

gap_cases : holds gap_cases_lem ≡ true
unfolding holds gap_cases_lem
gap_cases = refl

-- ---- turns and grants
unfoldable turn_cases_lem : Table
turn_cases_lem =
    let single = book 5 0 0 0 (fresh 2 1 1) in
    let three = book 7 50 0 5 (book 6 0 0 2 (book 5 0 0 1 (fresh 3 2 3))) in
    let gone = stop 2 (rounds 1 three) in
    let plus = book 8 0 0 7 (book 7 0 0 5 (book 6 0 0 3 (book 5 0 0 1 (fresh 3 3 4)))) in
    let beside = stop 1 (book 5 0 0 0 (rounds 2 (fresh 3 1 2))) in
    let still = stop 1 (book 5 50 0 1 (rounds 2 (fresh 3 1 2))) in
    -- a lone wanting side keeps the hopper's turn; when none wants, turn none and no grant
    (grant 1 single, 0 ∷ 1 ∷ [])
    ∷ (turn 1 (rounds 1 single), 0 ∷ 1 ∷ [])
    ∷ (grant 1 (rounds 1 single), 0 ∷ 1 ∷ [])
    ∷ (turn 1 (rounds 4 single), 0 ∷ 1 ∷ [])
    ∷ (grant 1 (rounds 4 single), 0 ∷ 0 ∷ [])
    ∷ (turn 1 (rounds 5 single), 0 ∷ 0 ∷ [])
    -- the hopper between four that want: west, south, north, east, then west
    ∷ (grant 4 plus, 0 ∷ 1 ∷ [])
    ∷ (grant 4 (rounds 1 plus), 0 ∷ 2 ∷ [])
    ∷ (grant 4 (rounds 2 plus), 0 ∷ 3 ∷ [])
    ∷ (grant 4 (rounds 3 plus), 0 ∷ 4 ∷ [])
    ∷ (grant 4 (rounds 4 plus), 0 ∷ 1 ∷ [])
    -- west, south and east want; the turn is south's when tile 2 stops, so it passes to east, then to west
    ∷ (turn 3 (rounds 1 three), 0 ∷ 2 ∷ [])
    ∷ (grant 3 gone, 0 ∷ 4 ∷ [])
    ∷ (turn 3 (rounds 1 gone), 0 ∷ 1 ∷ [])
    ∷ (on 5 (rounds 1 gone), 0 ∷ 7 ∷ 30 ∷ 0 ∷ [])
    -- every tile's grant; only the neighbour that is granted moves
    ∷ (let r = round_answer three in r.refusal ∷ r.report.grants, 0 ∷ 0 ∷ 0 ∷ 0 ∷ 1 ∷ replicate 60 0)
    ∷ (on 1 (rounds 1 three), 0 ∷ 5 ∷ 20 ∷ 0 ∷ [])
    ∷ (on 2 (rounds 1 three), 0 ∷ 6 ∷ 0 ∷ 0 ∷ [])
    ∷ (on 5 (rounds 1 three), 0 ∷ 7 ∷ 50 ∷ 0 ∷ [])
    -- a stopped tile grants nothing; the one beside it has no arrow and stands still
    ∷ (grant 1 beside, 0 ∷ 0 ∷ [])
    ∷ (tile 0 (rounds 1 beside), 0 ∷ 1 ∷ 255 ∷ 0 ∷ 0 ∷ 5 ∷ 0 ∷ 0 ∷ [])
    ∷ (tile 1 (rounds 1 beside), 0 ∷ 0 ∷ 255 ∷ 0 ∷ 0 ∷ [])
    -- a stopped tile's canisters stand still, and it doesn't want; repaired, it wants in the next round
    ∷ (grant 2 still, 0 ∷ 0 ∷ [])
    ∷ (tile 1 (rounds 1 still), 0 ∷ 0 ∷ 255 ∷ 0 ∷ 0 ∷ 5 ∷ 50 ∷ 0 ∷ [])
    ∷ (grant 2 (repair 1 still), 0 ∷ 1 ∷ [])
    ∷ (tile 1 (rounds 1 (repair 1 still)), 0 ∷ 1 ∷ 1 ∷ 4 ∷ 0 ∷ 5 ∷ 70 ∷ 0 ∷ [])
    -- a stopped tile's signal where a side would want: no call shows it, as Route lets no arrow face a stopped tile
    ∷ (let g = signal_by (settings 2 1 1 20) false 1 [] (λ k. true) in g.token ∷ g.grant ∷ [], 1 ∷ 0 ∷ [])
    ∷ []

turn_cases : holds turn_cases_lem ≡ true
unfolding holds turn_cases_lem
turn_cases = refl

-- ---- deliveries, and lists by rising number
-- canisters 1 to n on tile 0, four along each axis
unfoldable packed : ℕ → Floor
packed zero = got (fresh_answer dense)
packed (suc n) = let f = packed n in book (suc n) (n / 4 * 21) (n % 4 * 21) 0 f

unfoldable list_cases_lem : Table
list_cases_lem =
    let early = book 5 60 7 0 (fresh 2 1 1) in
    let two = book 6 70 0 0 (book 5 60 40 0 (fresh 2 1 1)) in
    let row = book 4 79 0 0 (book 3 79 21 0 (book 2 79 42 0 (book 1 79 63 0 (got (fresh_answer dense))))) in
    let mixed = rounds 1 (book 8 30 60 1 (book 7 10 40 2 (book 6 25 20 1 (book 5 10 0 2 (rounds 2 (fresh 3 1 0)))))) in
    let full = packed 16 in
    -- delivered in the first round by the arrow that this round gives
    (reported early, 0 ∷ 5 ∷ [])
    ∷ (counted (rounds 1 early), 0 ∷ 5 ∷ 1 ∷ 1 ∷ 0 ∷ 0 ∷ 0 ∷ [])
    ∷ (on 0 (rounds 1 early), 0 ∷ [])
    ∷ (tile 1 (rounds 1 early), 0 ∷ 1 ∷ 0 ∷ 0 ∷ 1 ∷ [])
    -- two in one round, then four, rising
    ∷ (reported two, 0 ∷ 5 ∷ 6 ∷ [])
    ∷ (let r = round_answer two in r.refusal ∷ join (map (λ d. d.count ∷ d.numbers) r.report.deliveries), 0 ∷ 2 ∷ 5 ∷ 6 ∷ 0 ∷ 0 ∷ replicate 15 0)
    ∷ (counted (rounds 1 two), 0 ∷ 6 ∷ 2 ∷ 2 ∷ 0 ∷ 0 ∷ 0 ∷ [])
    ∷ (on 1 (rounds 1 two), 0 ∷ [])
    ∷ (reported row, 0 ∷ 1 ∷ 2 ∷ 3 ∷ 4 ∷ [])
    ∷ (counted (rounds 1 row), 0 ∷ 4 ∷ 4 ∷ 4 ∷ 0 ∷ 0 ∷ 0 ∷ [])
    -- 5 and 7 arrive between 6 and 8, which move
    ∷ (on 1 mixed, 0 ∷ 5 ∷ 70 ∷ 0 ∷ 6 ∷ 5 ∷ 20 ∷ 7 ∷ 70 ∷ 40 ∷ 8 ∷ 10 ∷ 60 ∷ [])
    ∷ (on 2 mixed, 0 ∷ [])
    -- sixteen canisters on one tile, and no place for another
    ∷ (length (on 0 full) ∷ [], 49 ∷ [])
    ∷ (refused (book_answer full 0 (can 17 79 79)) full, 34 ∷ 1 ∷ [])
    ∷ []

list_cases : holds list_cases_lem ≡ true
unfolding holds dense packed list_cases_lem
list_cases = refl

-- ---- distances
unfoldable route_cases_lem : Table
route_cases_lem =
    let f = rounds 4 (fresh 2 4 0) in
    let g = stop 5 (stop 1 f) in
    let h = rounds 2 g in
    let i = rounds 2 h in
    -- two columns of four: one more than the least neighbour's; one more round changes none
    (distances 8 f, 0 ∷ 0 ∷ 1 ∷ 2 ∷ 3 ∷ 1 ∷ 2 ∷ 3 ∷ 4 ∷ [])
    ∷ (distances 8 (rounds 1 f), 0 ∷ 0 ∷ 1 ∷ 2 ∷ 3 ∷ 1 ∷ 2 ∷ 3 ∷ 4 ∷ [])
    -- tiles 1 and 5 stopped: the ring 2, 3, 7, 6 is cut off and climbs, until 8 is none
    ∷ (distances 8 (rounds 1 g), 0 ∷ 0 ∷ 255 ∷ 4 ∷ 3 ∷ 1 ∷ 255 ∷ 3 ∷ 4 ∷ [])
    ∷ (distances 8 h, 0 ∷ 0 ∷ 255 ∷ 4 ∷ 5 ∷ 1 ∷ 255 ∷ 5 ∷ 4 ∷ [])
    ∷ (distances 8 (rounds 1 h), 0 ∷ 0 ∷ 255 ∷ 6 ∷ 5 ∷ 1 ∷ 255 ∷ 5 ∷ 6 ∷ [])
    ∷ (distances 8 i, 0 ∷ 0 ∷ 255 ∷ 6 ∷ 7 ∷ 1 ∷ 255 ∷ 7 ∷ 6 ∷ [])
    ∷ (distances 8 (rounds 1 i), 0 ∷ 0 ∷ 255 ∷ 255 ∷ 7 ∷ 1 ∷ 255 ∷ 7 ∷ 255 ∷ [])
    ∷ (distances 8 (rounds 2 i), 0 ∷ 0 ∷ 255 ∷ 255 ∷ 255 ∷ 1 ∷ 255 ∷ 255 ∷ 255 ∷ [])
    -- with distance none the arrow is none
    ∷ (next 3 i, 0 ∷ 2 ∷ [])
    ∷ (next 3 (rounds 2 i), 0 ∷ 0 ∷ [])
    -- as near on two sides: west before south, west before north, south before east
    ∷ (next 3 (rounds 2 (fresh 2 2 0)), 0 ∷ 1 ∷ [])
    ∷ (next 2 (rounds 2 (fresh 2 2 1)), 0 ∷ 1 ∷ [])
    ∷ (next 1 (rounds 2 (fresh 2 2 2)), 0 ∷ 2 ∷ [])
    ∷ []

route_cases : holds route_cases_lem ≡ true
unfolding holds route_cases_lem
route_cases = refl
