-- Rows beyond the paper's trials that hold a definition of this crate to its sentence: one table, one proof. A row is what the answers give, then what is due.
use mathlib.Core.Path.{◌≡◌, refl}
use mathlib.Core.Bool.{true}
use mathlib.Core.List.{List, [], ◌∷◌, ◌++◌}
use Prim.Native.Nat.{ℕ, suc, ◌*◌, ◌/◌, ◌%◌, ◌^◌}
use lib.ListN.{length, set, take, replicate}
use Rattle.laws.specs.Define.{tab}
use Rattle.floor.specs.declared.Canister.{Canister}
use Rattle.floor.specs.declared.Settings.{Settings}
use Rattle.floor.specs.declared.Tile.{Tile}
use Rattle.floor.specs.declared.Floor.{Floor}
use Rattle.floor.specs.Memory.{zero_floor, refilled}
use Rattle.floor.specs.Calls.{fresh_answer, round_answer, read_answer}
use Rattle.floor.specs.Demand3.{stop as stopping, outcome}
use Rattle.floor.proofs.Calling.{got, several, settings, can, refused_round, holds}
use Rattle.floor.proofs.TablesByValue.{Made, begun, fresh, book, stop, repair, rounds, floor_of, on, distances, next, reported_to, grant, why, counted, live_count, bound_of, answered, given, Rows, hold, hold_by, by_values}

-- W, H, hopper, fill set; l 21, r 0, v 10: four along each axis
unfoldable dense : ℕ → ℕ → ℕ → ℕ → Settings
dense W H hopper fill = record { columns = W; rows = H; hoppers = 2 ^ hopper; sources = fill; width = 100; length = 21; gap = 0; travel = 10 }

-- sixteen canisters from number 1 on, four along each axis
unfoldable sixteen : List Canister
sixteen = tab 16 (λ n. can (suc n) (26 * (n % 4)) (26 * (n / 4)))

-- the 8 × 8 floor f with these on tile 63, and that tile's count n
unfoldable counting : ℕ → Floor → Floor
counting n f =
    let h : Tile = record { running = 1; distance = 255; next = record { code = 0 }; token = record { code = 0 }; count = n } in
    refilled f (record { last = 16; booked = 16; delivered = replicate 4 0 }) (set f.tiles 63 h) (take 1008 f.canisters ++ sixteen)

-- hoppers and fill set on W 4
unfoldable sets : ℕ → ℕ → Settings
sets hoppers fill = record { columns = 4; rows = 1; hoppers = hoppers; sources = fill; width = 100; length = 30; gap = 10; travel = 20 }

-- W 4, hoppers 0 and 3; 5 on tile 1 and 6 on tile 2, equally far from the nearest
unfoldable ends : Made
ends = book 6 10 0 2 (book 5 60 0 1 (begun (several 4 1 9 20)))

unfoldable table : Rows
table =
    let ring = rounds 5 (stop 4 (fresh 3 3 7)) in
    let plus = rounds 1 (book 8 0 0 7 (book 7 0 0 5 (book 6 0 0 3 (book 5 0 0 1 (fresh 3 3 4))))) in
    let after = rounds 1 plus in
    let corner = rounds 1 (book 7 0 0 7 (book 6 0 0 5 (book 5 0 0 1 (fresh 3 3 4)))) in
    let slow = begun (settings 3 1 0 10) in
    let cut = stop 2 (book 7 0 0 3 (book 6 40 0 1 (book 5 0 0 1 (fresh 4 1 0)))) in
    let west = book 5 0 0 0 (rounds 2 (fresh 3 1 2)) in
    let south = book 5 0 0 0 (rounds 2 (fresh 1 3 2)) in
    let north = book 5 50 50 2 (rounds 2 (fresh 1 3 0)) in
    let east = book 5 50 50 2 (rounds 2 (fresh 3 1 0)) in
    let full = got (fresh_answer (dense 8 8 0 (2 ^ 63))) in
    let tall = rounds 5 (fresh 2 3 5) in
    let mended = rounds 5 (repair 1 (rounds 5 (stop 1 tall))) in
    let both = book 6 0 0 2 (book 5 70 0 0 (rounds 2 (fresh 3 1 1))) in
    let fork = book 7 35 0 2 (book 6 0 0 4 (book 5 0 0 0 (stop 5 (stop 1 (rounds 3 (fresh 3 2 3)))))) in
    -- ties, south before north: tile 1 has both at distance 3, tile 4 to its east is stopped
    (next 1 ring, 0 ∷ 2 ∷ [])
    -- 2 × 3, hopper 5: tile 0 has tiles 1 (north) and 3 (east) at distance 2, and takes north; east while tile 1 is stopped, and it keeps east after the repair
    ∷ (next 0 tall, 0 ∷ 3 ∷ [])
    ∷ (next 0 mended, 0 ∷ 4 ∷ [])
    -- 2 × 2, hopper 1: tile 2 has tiles 0 (west) and 3 (north) at distance 1, and keeps north, which it took while tile 0 was stopped
    ∷ (next 2 (rounds 2 (repair 0 (rounds 1 (stop 0 (rounds 3 (fresh 2 2 1)))))), 0 ∷ 3 ∷ [])
    -- after its own stop and repair, or with no distance meanwhile, the order decides
    ∷ (next 0 (rounds 1 (repair 0 (stop 0 mended))), 0 ∷ 3 ∷ [])
    ∷ (next 0 (rounds 2 (repair 3 (repair 1 (rounds 1 (stop 3 (stop 1 mended)))))), 0 ∷ 3 ∷ [])
    -- tile 4 stopped: tile 3 is farther from the next round on, and its old distance is read once more
    ∷ (next 0 (rounds 1 (stop 4 mended)), 0 ∷ 4 ∷ [])
    ∷ (next 0 (rounds 2 (stop 4 mended)), 0 ∷ 3 ∷ [])
    -- the sides after west: south, then north; north where south doesn't want
    ∷ (grant 4 plus, 0 ∷ 2 ∷ [])
    ∷ (grant 4 after, 0 ∷ 3 ∷ [])
    ∷ (grant 4 corner, 0 ∷ 3 ∷ [])
    -- the gap: a = d for a west turn, b = d for south, b + l + d = U for north, a + l + d = U for east, and no more
    ∷ (grant 1 (book 6 40 0 1 west), 0 ∷ 1 ∷ [])
    ∷ (grant 1 (book 6 0 40 1 south), 0 ∷ 2 ∷ [])
    ∷ (grant 1 (book 6 70 30 1 north), 0 ∷ 3 ∷ [])
    ∷ (grant 1 (book 6 30 70 1 east), 0 ∷ 4 ∷ [])
    ∷ (grant 1 (book 6 31 0 1 east), 0 ∷ 0 ∷ [])
    -- the bound with C 3, K 2, M 8; K leaves out a canister that is cut off: two on tile 1, tile 2 stopped, one on tile 3
    ∷ (bound_of (book 6 40 0 1 (book 5 0 0 1 slow)), 34 ∷ [])
    ∷ (live_count cut, 2 ∷ [])
    ∷ (bound_of cut, 27 ∷ [])
    -- 2 for a fill set of bit C alone; 4 at tile C
    ∷ (given ((fresh_answer (dense 2 1 1 4)).refusal ∷ (fresh_answer (dense 2 1 1 1)).refusal ∷ []), 2 ∷ 0 ∷ [])
    ∷ (given ((read_answer (floor_of (fresh 2 1 1)) 1).refusal ∷ (read_answer (floor_of (fresh 2 1 1)) 2).refusal ∷ []), 0 ∷ 4 ∷ [])
    -- a refused round: its floor, and zeros; a report has 64 grants
    ∷ (given (refused_round zero_floor), 30 ∷ 1 ∷ 1 ∷ [])
    ∷ (given (length (round_answer (floor_of west)).report.grants ∷ []), 64 ∷ [])
    -- a count above sixteen is malformed, also where the places that it would reach don't exist
    ∷ (given ((read_answer (counting 16 full) 63).refusal ∷ (read_answer (counting 200 full) 63).refusal ∷ []), 0 ∷ 30 ∷ [])
    -- [10] two hoppers: the distance to the nearest; a delivery at each in one round, listed and counted for each; 8 for each
    ∷ (distances 4 (rounds 1 ends), 0 ∷ 0 ∷ 1 ∷ 1 ∷ 0 ∷ [])
    ∷ (reported_to 0 (rounds 3 ends), 0 ∷ 5 ∷ [])
    ∷ (reported_to 1 (rounds 3 ends), 0 ∷ 6 ∷ [])
    ∷ (counted (rounds 4 ends), 0 ∷ 6 ∷ 2 ∷ 1 ∷ 1 ∷ 0 ∷ 0 ∷ [])
    ∷ (answered (stopping 0) ends, 8 ∷ [])
    ∷ (answered (stopping 3) ends, 8 ∷ [])
    ∷ (answered (stopping 1) ends, 0 ∷ [])
    -- 4 delivered to hopper 3 alone, and its place holds nothing
    ∷ (counted (rounds 1 (book 4 70 0 2 (begun (several 4 1 9 20)))), 0 ∷ 4 ∷ 1 ∷ 0 ∷ 1 ∷ 0 ∷ 0 ∷ [])
    ∷ (on 3 (rounds 1 (book 4 70 0 2 (begun (several 4 1 9 20)))), 0 ∷ [])
    -- "one to four, else 2": none, four, five, one of two off the floor; C equal to the number of hoppers; a fill bit for the second
    ∷ (given ((fresh_answer (sets 0 0)).refusal ∷ (fresh_answer (several 5 1 15 20)).refusal ∷ (fresh_answer (several 5 1 31 20)).refusal ∷ (fresh_answer (sets 17 0)).refusal ∷ []), 2 ∷ 0 ∷ 2 ∷ 2 ∷ [])
    ∷ (given ((fresh_answer (several 2 2 15 20)).refusal ∷ (fresh_answer (sets 9 6)).refusal ∷ (fresh_answer (sets 9 14)).refusal ∷ []), 0 ∷ 0 ∷ 2 ∷ [])
    -- [6] why each tile stood, then the millimetres missing: stopped; no arrow yet; a hopper is empty, and where no tile is there is 0
    ∷ (why 4 (stop 0 west), 0 ∷ 1 ∷ 2 ∷ 2 ∷ 0 ∷ 0 ∷ 0 ∷ 0 ∷ 0 ∷ [])
    ∷ (why 3 (book 5 0 0 0 (fresh 3 1 2)), 0 ∷ 3 ∷ 2 ∷ 2 ∷ 0 ∷ 0 ∷ 0 ∷ [])
    -- west is granted and its canister delivered, east waits: by the turn before it passed on, and by what stood there when the round began; then east
    ∷ (why 3 both, 0 ∷ 6 ∷ 2 ∷ 4 ∷ 0 ∷ 0 ∷ 0 ∷ [])
    ∷ (why 3 (rounds 1 both), 0 ∷ 2 ∷ 2 ∷ 6 ∷ 0 ∷ 0 ∷ 0 ∷ [])
    -- empty when the round began: tile 1 takes a canister in
    ∷ (why 3 (book 5 70 0 0 (rounds 2 (fresh 3 1 2))), 0 ∷ 6 ∷ 2 ∷ 2 ∷ 0 ∷ 0 ∷ 0 ∷ [])
    -- 3 × 2, hopper 3, tiles 1 and 5 stopped: tile 2 has the gap for neither side, and the turn is west's; tile 2 moves into the hopper
    ∷ (why 6 fork, 0 ∷ 5 ∷ 1 ∷ 6 ∷ 2 ∷ 4 ∷ 1 ∷ 5 ∷ 0 ∷ 0 ∷ 0 ∷ 0 ∷ 0 ∷ [])
    -- d and d - 1 missing, and one, on each side
    ∷ (why 3 (book 6 0 0 1 west), 0 ∷ 5 ∷ 6 ∷ 2 ∷ 40 ∷ 0 ∷ 0 ∷ [])
    ∷ (why 3 (book 6 1 0 1 west), 0 ∷ 5 ∷ 6 ∷ 2 ∷ 39 ∷ 0 ∷ 0 ∷ [])
    ∷ (why 3 (book 6 39 0 1 west), 0 ∷ 5 ∷ 6 ∷ 2 ∷ 1 ∷ 0 ∷ 0 ∷ [])
    ∷ (why 3 (book 6 0 0 1 south), 0 ∷ 5 ∷ 6 ∷ 2 ∷ 40 ∷ 0 ∷ 0 ∷ [])
    ∷ (why 3 (book 6 0 1 1 south), 0 ∷ 5 ∷ 6 ∷ 2 ∷ 39 ∷ 0 ∷ 0 ∷ [])
    ∷ (why 3 (book 6 0 39 1 south), 0 ∷ 5 ∷ 6 ∷ 2 ∷ 1 ∷ 0 ∷ 0 ∷ [])
    ∷ (why 3 (book 6 0 70 1 north), 0 ∷ 2 ∷ 6 ∷ 5 ∷ 0 ∷ 0 ∷ 40 ∷ [])
    ∷ (why 3 (book 6 0 69 1 north), 0 ∷ 2 ∷ 6 ∷ 5 ∷ 0 ∷ 0 ∷ 39 ∷ [])
    ∷ (why 3 (book 6 0 31 1 north), 0 ∷ 2 ∷ 6 ∷ 5 ∷ 0 ∷ 0 ∷ 1 ∷ [])
    ∷ (why 3 (book 6 70 0 1 east), 0 ∷ 2 ∷ 6 ∷ 5 ∷ 0 ∷ 0 ∷ 40 ∷ [])
    ∷ (why 3 (book 6 69 0 1 east), 0 ∷ 2 ∷ 6 ∷ 5 ∷ 0 ∷ 0 ∷ 39 ∷ [])
    ∷ (why 3 (book 6 31 0 1 east), 0 ∷ 2 ∷ 6 ∷ 5 ∷ 0 ∷ 0 ∷ 1 ∷ [])
    -- the worst canister's, not the sum; and the gap
    ∷ (why 3 (book 7 5 0 1 (book 6 39 70 1 west)), 0 ∷ 5 ∷ 6 ∷ 2 ∷ 35 ∷ 0 ∷ 0 ∷ [])
    ∷ (why 3 (book 7 39 0 1 (book 6 5 70 1 west)), 0 ∷ 5 ∷ 6 ∷ 2 ∷ 35 ∷ 0 ∷ 0 ∷ [])
    ∷ (why 3 (book 6 40 0 1 west), 0 ∷ 6 ∷ 6 ∷ 2 ∷ 0 ∷ 0 ∷ 0 ∷ [])
    ∷ []

computed : hold_by table ≡ true
unfolding holds hold_by floor_of outcome dense sixteen counting sets ends table
computed = refl

samples : hold table ≡ true
samples = by_values table computed
