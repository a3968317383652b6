-- Cases beyond the paper's trials, through the answers of the calls: refusals, and well formed. Only the orders of refusals are also read from the definitions. Rounds are in CasesRound. A row is what the answers give, then what is due.
use mathlib.Core.Path.{◌≡◌, refl}
use mathlib.Core.Bool.{true}
use mathlib.Core.List.{List, [], ◌∷◌, map}
use Prim.Native.Nat.{ℕ, ◌-◌, ◌^◌}
use lib.ListN.{replicate}
use Rattle.floor.specs.declared.Settings.{Settings}
use Rattle.floor.specs.Settings.{settings_tests}
use Rattle.floor.specs.Memory.{zero_floor, view, refitted}
use Rattle.floor.specs.Calls.{fresh_answer, book_tests, book_answer, stop_tests, stop_answer, repair_tests, repair_answer, read_tests, read_answer}
use Rattle.floor.proofs.Calling.{got, settings, fresh, can, book, stop, repair, rounds, flat, on, tile, counted, set_up_lem, refused, refused_round, refused_reading, Table, holds}
use Rattle.cases.proofs.Changed.{asked, head, with_head, with_place, with_counts, seen}

-- W, H, hopper, fill set; U, l, r, v
unfoldable made : ℕ → ℕ → ℕ → ℕ → ℕ → ℕ → ℕ → ℕ → Settings
made W H hopper fill U l r v = record { columns = W; rows = H; hoppers = 2 ^ hopper; sources = fill; width = U; length = l; gap = r; travel = v }

-- ---- fresh
unfoldable accepted : Settings → List ℕ
accepted s = (fresh_answer s).refusal ∷ []

unfoldable fresh_cases_lem : Table
fresh_cases_lem =
    -- 1: W 0, W 9, H 0, H 9, C 1
    (asked (made 0 2 0 0 100 30 10 20), 1 ∷ 1 ∷ [])
    ∷ (asked (made 9 1 1 1 100 30 10 20), 1 ∷ 1 ∷ [])
    ∷ (asked (made 2 0 0 0 100 30 10 20), 1 ∷ 1 ∷ [])
    ∷ (asked (made 1 9 1 1 100 30 10 20), 1 ∷ 1 ∷ [])
    ∷ (asked (made 1 1 0 0 100 30 10 20), 1 ∷ 1 ∷ [])
    -- accepted: C 2, either way; W 8 and H 8
    ∷ (accepted (made 2 1 1 1 100 30 10 20), 0 ∷ [])
    ∷ (accepted (made 1 2 1 1 100 30 10 20), 0 ∷ [])
    ∷ (accepted (made 8 8 63 (2 ^ 63 - 1) 100 30 10 20), 0 ∷ [])
    -- 2: hopper off the floor, a fill bit for the hopper, one for no tile
    ∷ (asked (made 2 1 2 1 100 30 10 20), 2 ∷ 1 ∷ [])
    ∷ (asked (made 2 1 1 3 100 30 10 20), 2 ∷ 1 ∷ [])
    ∷ (asked (made 2 1 1 5 100 30 10 20), 2 ∷ 1 ∷ [])
    -- accepted: an empty fill set; a fill tile after the hopper
    ∷ (accepted (made 2 1 1 0 100 30 10 20), 0 ∷ [])
    ∷ (accepted (made 2 1 0 2 100 30 10 20), 0 ∷ [])
    -- 3: U 1, U 60001, v 0, v = l, d = U, (U - l) div d = 4
    ∷ (asked (made 2 1 1 1 1 30 10 20), 3 ∷ 1 ∷ [])
    ∷ (asked (made 2 1 1 1 60001 20000 0 20), 3 ∷ 1 ∷ [])
    ∷ (asked (made 2 1 1 1 100 30 10 0), 3 ∷ 1 ∷ [])
    ∷ (asked (made 2 1 1 1 100 30 10 30), 3 ∷ 1 ∷ [])
    ∷ (asked (made 2 1 1 1 100 30 70 20), 3 ∷ 1 ∷ [])
    ∷ (asked (made 2 1 1 1 100 20 0 10), 3 ∷ 1 ∷ [])
    -- accepted: U 60000, v 1, v = l - 1, d = U - 1, l 21 with r 0
    ∷ (accepted (made 2 1 1 1 60000 20000 0 20), 0 ∷ [])
    ∷ (accepted (made 2 1 1 1 100 30 10 1), 0 ∷ [])
    ∷ (accepted (made 2 1 1 1 100 30 10 29), 0 ∷ [])
    ∷ (accepted (made 2 1 1 1 100 30 69 20), 0 ∷ [])
    ∷ (accepted (made 2 1 1 1 100 21 0 10), 0 ∷ [])
    -- 1 before 2, 2 before 3
    ∷ (asked (made 9 1 9 1 100 30 10 20), 1 ∷ 1 ∷ [])
    ∷ (asked (made 2 1 2 1 100 30 10 30), 2 ∷ 1 ∷ [])
    -- what an accepted one holds: the settings as given, counters 0, every tile
    ∷ (set_up_lem (fresh_answer (made 3 1 1 4 100 30 10 20)).floor.settings, 3 ∷ 1 ∷ 2 ∷ 4 ∷ 100 ∷ 30 ∷ 10 ∷ 20 ∷ [])
    ∷ (counted (fresh 3 1 1), 0 ∷ 0 ∷ 0 ∷ 0 ∷ 0 ∷ 0 ∷ 0 ∷ [])
    ∷ (tile 0 (fresh 3 1 1), 0 ∷ 1 ∷ 255 ∷ 0 ∷ 0 ∷ [])
    ∷ (tile 1 (fresh 3 1 1), 0 ∷ 1 ∷ 0 ∷ 0 ∷ 0 ∷ [])
    ∷ (tile 2 (fresh 3 1 1), 0 ∷ 1 ∷ 255 ∷ 0 ∷ 0 ∷ [])
    ∷ []

fresh_cases : holds fresh_cases_lem ≡ true
unfolding holds made asked accepted fresh_cases_lem
fresh_cases = refl

-- ---- booking, stop, repair, reading: the refusal, then 1 where the answer has the floor handed in, field by field
unfoldable book_cases_lem : Table
book_cases_lem =
    let f = book 9 0 0 1 (fresh 3 1 0) in
    let g = stop 2 f in
    let part = got (fresh_answer (made 3 1 0 4 100 30 10 20)) in
    let two = fresh 2 1 0 in
    let far = book 9 40 40 1 two in
    -- 4 on tile C, and beyond memory; 5 on the hopper, and on another tile outside the fill set; 6
    (refused (book_answer f 3 (can 10 0 0)) f, 4 ∷ 1 ∷ [])
    ∷ (refused (book_answer f 64 (can 10 0 0)) f, 4 ∷ 1 ∷ [])
    ∷ (refused (book_answer f 0 (can 10 0 0)) f, 5 ∷ 1 ∷ [])
    ∷ (refused (book_answer part 1 (can 10 0 0)) part, 5 ∷ 1 ∷ [])
    ∷ (refused (book_answer f 2 (can 0 0 0)) f, 6 ∷ 1 ∷ [])
    -- 7 for a, for b; 31; 33 for the last number, and below it; 34
    ∷ (refused (book_answer f 2 (can 10 71 0)) f, 7 ∷ 1 ∷ [])
    ∷ (refused (book_answer f 2 (can 10 0 71)) f, 7 ∷ 1 ∷ [])
    ∷ (refused (book_answer g 2 (can 10 0 0)) g, 31 ∷ 1 ∷ [])
    ∷ (refused (book_answer f 2 (can 9 0 0)) f, 33 ∷ 1 ∷ [])
    ∷ (refused (book_answer f 2 (can 8 0 0)) f, 33 ∷ 1 ∷ [])
    ∷ (refused (book_answer f 1 (can 10 39 39)) f, 34 ∷ 1 ∷ [])
    -- a call that meets two: 4 before 5 (tile C is no fill tile), 5 before 6, 6 before 7, 7 before 31, 31 before 33, 33 before 34
    ∷ (refused (book_answer f 3 (can 0 71 71)) f, 4 ∷ 1 ∷ [])
    ∷ (refused (book_answer f 0 (can 0 0 0)) f, 5 ∷ 1 ∷ [])
    ∷ (refused (book_answer f 2 (can 0 71 0)) f, 6 ∷ 1 ∷ [])
    ∷ (refused (book_answer g 2 (can 10 71 0)) g, 7 ∷ 1 ∷ [])
    ∷ (refused (book_answer g 2 (can 9 0 0)) g, 31 ∷ 1 ∷ [])
    ∷ (refused (book_answer f 1 (can 9 0 0)) f, 33 ∷ 1 ∷ [])
    -- 34 with one at (40, 40) too; exactly d is accepted on each side of one that is level with it
    ∷ (refused (book_answer far 1 (can 10 1 1)) far, 34 ∷ 1 ∷ [])
    ∷ (on 1 (book 10 0 5 1 (book 9 40 5 1 two)), 0 ∷ 9 ∷ 40 ∷ 5 ∷ 10 ∷ 0 ∷ 5 ∷ [])
    ∷ (on 1 (book 10 5 0 1 (book 9 5 40 1 two)), 0 ∷ 9 ∷ 5 ∷ 40 ∷ 10 ∷ 5 ∷ 0 ∷ [])
    ∷ (on 1 (book 10 5 40 1 (book 9 5 0 1 two)), 0 ∷ 9 ∷ 5 ∷ 0 ∷ 10 ∷ 5 ∷ 40 ∷ [])
    ∷ (on 1 (book 10 40 5 1 (book 9 0 5 1 two)), 0 ∷ 9 ∷ 0 ∷ 5 ∷ 10 ∷ 40 ∷ 5 ∷ [])
    -- accepted at U - l on both axes: the canister, its tile's other fields, the other tile, the counters
    ∷ (tile 2 (book 20 70 70 2 f), 0 ∷ 1 ∷ 255 ∷ 0 ∷ 0 ∷ 20 ∷ 70 ∷ 70 ∷ [])
    ∷ (tile 1 (book 20 70 70 2 f), 0 ∷ 1 ∷ 255 ∷ 0 ∷ 0 ∷ 9 ∷ 0 ∷ 0 ∷ [])
    ∷ (counted (book 20 70 70 2 f), 0 ∷ 20 ∷ 2 ∷ 0 ∷ 0 ∷ 0 ∷ 0 ∷ [])
    -- all sixteen places that a reading gives
    ∷ (let r = read_answer f 1 in r.refusal ∷ r.tile.count ∷ flat r.members, 0 ∷ 1 ∷ 9 ∷ 0 ∷ 0 ∷ replicate 45 0)
    ∷ []

book_cases : holds book_cases_lem ≡ true
unfolding holds made book_cases_lem
book_cases = refl

unfoldable other_cases_lem : Table
other_cases_lem =
    let f = rounds 1 (book 7 0 0 2 (book 6 25 50 1 (book 5 50 3 1 (rounds 2 (fresh 3 1 0))))) in
    let g = stop 1 f in
    let h = repair 1 g in
    -- stop: 4, 8, 31; repair: 4, 32; reading: 4, and zeros
    (refused (stop_answer f 3) f, 4 ∷ 1 ∷ [])
    ∷ (refused (stop_answer f 0) f, 8 ∷ 1 ∷ [])
    ∷ (refused (stop_answer g 1) g, 31 ∷ 1 ∷ [])
    ∷ (refused (repair_answer f 3) f, 4 ∷ 1 ∷ [])
    ∷ (refused (repair_answer f 1) f, 32 ∷ 1 ∷ [])
    ∷ (refused (repair_answer f 0) f, 32 ∷ 1 ∷ [])
    ∷ (refused_reading (read_answer f 3), 4 ∷ 1 ∷ [])
    -- stop and repair of tile 1 with its canisters, everything read; nothing else changes
    ∷ (tile 1 f, 0 ∷ 1 ∷ 1 ∷ 1 ∷ 4 ∷ 5 ∷ 30 ∷ 3 ∷ 6 ∷ 5 ∷ 50 ∷ [])
    ∷ (tile 1 g, 0 ∷ 0 ∷ 255 ∷ 0 ∷ 0 ∷ 5 ∷ 30 ∷ 3 ∷ 6 ∷ 5 ∷ 50 ∷ [])
    ∷ (tile 1 h, 0 ∷ 1 ∷ 255 ∷ 0 ∷ 0 ∷ 5 ∷ 30 ∷ 3 ∷ 6 ∷ 5 ∷ 50 ∷ [])
    ∷ (tile 2 f, 0 ∷ 1 ∷ 2 ∷ 1 ∷ 0 ∷ 7 ∷ 0 ∷ 0 ∷ [])
    ∷ (tile 2 g, 0 ∷ 1 ∷ 2 ∷ 1 ∷ 0 ∷ 7 ∷ 0 ∷ 0 ∷ [])
    ∷ (tile 2 h, 0 ∷ 1 ∷ 2 ∷ 1 ∷ 0 ∷ 7 ∷ 0 ∷ 0 ∷ [])
    ∷ (tile 0 h, 0 ∷ 1 ∷ 0 ∷ 0 ∷ 4 ∷ [])
    ∷ (counted g, 0 ∷ 7 ∷ 3 ∷ 0 ∷ 0 ∷ 0 ∷ 0 ∷ [])
    ∷ (counted h, 0 ∷ 7 ∷ 3 ∷ 0 ∷ 0 ∷ 0 ∷ 0 ∷ [])
    -- 30 for every call on the all-zero floor, which has no tile either (30 before 4)
    ∷ (refused (book_answer zero_floor 0 (can 1 0 0)) zero_floor, 30 ∷ 1 ∷ [])
    ∷ (refused (stop_answer zero_floor 0) zero_floor, 30 ∷ 1 ∷ [])
    ∷ (refused (repair_answer zero_floor 0) zero_floor, 30 ∷ 1 ∷ [])
    ∷ (refused_round zero_floor, 30 ∷ 1 ∷ 1 ∷ [])
    ∷ (refused_reading (read_answer zero_floor 0), 30 ∷ 1 ∷ [])
    -- the order of each call as the paper lists it, also where no floor meets two of them
    ∷ (map (λ x. x.1) (settings_tests f.settings), 1 ∷ 1 ∷ 1 ∷ 1 ∷ 1 ∷ 2 ∷ 2 ∷ 2 ∷ 2 ∷ 2 ∷ 3 ∷ 3 ∷ 3 ∷ 3 ∷ 3 ∷ 3 ∷ [])
    ∷ (map (λ x. x.1) (book_tests (view f) 1 (can 9 0 0)), 4 ∷ 5 ∷ 6 ∷ 7 ∷ 31 ∷ 33 ∷ 34 ∷ [])
    ∷ (map (λ x. x.1) (stop_tests (view f) 1), 4 ∷ 8 ∷ 31 ∷ [])
    ∷ (map (λ x. x.1) (repair_tests (view f) 1), 4 ∷ 32 ∷ [])
    ∷ (map (λ x. x.1) (read_tests (view f) 1), 4 ∷ [])
    ∷ []

other_cases : holds other_cases_lem ≡ true
unfolding holds other_cases_lem
other_cases = refl

-- ---- well formed, clause by clause: a sound floor with one thing changed is 30 in a reading, and one of them in every call
unfoldable well_cases_lem : Table
well_cases_lem =
    let f = book 8 40 0 2 (book 6 0 0 2 (book 5 0 0 1 (rounds 2 (fresh 3 1 0)))) in
    let bad = with_counts 8 4 [] f in
    -- the sound floor: 5 on tile 1; 6 and 8 on tile 2; written anew it stays sound
    (tile 1 f, 0 ∷ 1 ∷ 1 ∷ 1 ∷ 0 ∷ 5 ∷ 0 ∷ 0 ∷ [])
    ∷ (tile 2 f, 0 ∷ 1 ∷ 2 ∷ 1 ∷ 0 ∷ 6 ∷ 0 ∷ 0 ∷ 8 ∷ 40 ∷ 0 ∷ [])
    ∷ (seen (with_head 1 (head 1 1 1 0 1) (with_place 16 (can 5 0 0) (with_counts 8 3 [] f))), 0 ∷ [])
    -- settings
    ∷ (seen (refitted f (settings 3 1 0 30)), 30 ∷ [])
    -- the hopper stopped; with a distance, an arrow, a canister; facing no tile
    ∷ (seen (with_head 0 (head 0 0 0 0 0) f), 30 ∷ [])
    ∷ (seen (with_head 0 (head 1 1 0 0 0) f), 30 ∷ [])
    ∷ (seen (with_head 0 (head 1 0 4 0 0) f), 30 ∷ [])
    ∷ (seen (with_head 0 (head 1 0 0 0 1) (with_place 0 (can 7 0 0) (with_counts 8 4 [] f))), 30 ∷ [])
    ∷ (seen (with_head 0 (head 1 0 0 4 0) f), 0 ∷ [])
    ∷ (seen (with_head 0 (head 1 0 0 1 0) f), 30 ∷ [])
    -- a running tile: distance 0, distance C, an arrow without a distance, a distance without an arrow; none of both
    ∷ (seen (with_head 1 (head 1 0 1 0 1) f), 30 ∷ [])
    ∷ (seen (with_head 1 (head 1 3 1 0 1) f), 30 ∷ [])
    ∷ (seen (with_head 1 (head 1 255 1 0 1) f), 30 ∷ [])
    ∷ (seen (with_head 1 (head 1 1 0 0 1) f), 30 ∷ [])
    ∷ (seen (with_head 1 (head 1 2 1 0 1) f), 0 ∷ [])
    ∷ (seen (with_head 1 (head 1 255 0 0 1) f), 0 ∷ [])
    -- a stopped tile with a distance, an arrow, a turn; with none; running 2
    ∷ (seen (with_head 1 (head 0 1 0 0 1) f), 30 ∷ [])
    ∷ (seen (with_head 1 (head 0 255 1 0 1) f), 30 ∷ [])
    ∷ (seen (with_head 1 (head 0 255 0 1 1) f), 30 ∷ [])
    ∷ (seen (with_head 1 (head 0 255 0 0 1) f), 0 ∷ [])
    ∷ (seen (with_head 1 (head 2 255 0 0 1) f), 30 ∷ [])
    -- an arrow or a turn that faces no tile, or is no side
    ∷ (seen (with_head 2 (head 1 2 4 0 2) f), 30 ∷ [])
    ∷ (seen (with_head 2 (head 1 2 5 0 2) f), 30 ∷ [])
    ∷ (seen (with_head 2 (head 1 2 1 3 2) f), 30 ∷ [])
    ∷ (seen (with_head 2 (head 1 2 1 5 2) f), 30 ∷ [])
    ∷ (seen (with_head 2 (head 1 2 1 1 2) f), 0 ∷ [])
    -- a canister outside in a, in b; at the edge; two at d - 1 in both
    ∷ (seen (with_place 16 (can 5 71 0) f), 30 ∷ [])
    ∷ (seen (with_place 16 (can 5 0 71) f), 30 ∷ [])
    ∷ (seen (with_place 16 (can 5 70 70) f), 0 ∷ [])
    ∷ (seen (with_place 33 (can 8 39 39) f), 30 ∷ [])
    -- numbers that fall, occur on two tiles, exceed the last; number 0
    ∷ (seen (with_place 33 (can 4 40 0) f), 30 ∷ [])
    ∷ (seen (with_place 16 (can 6 0 0) f), 30 ∷ [])
    ∷ (seen (with_place 16 (can 9 0 0) f), 30 ∷ [])
    ∷ (seen (with_place 16 (can 0 0 0) f), 30 ∷ [])
    -- booked is not delivered and those on the floor; booked above the last, and equal to it
    ∷ (seen (with_counts 8 3 (1 ∷ []) f), 30 ∷ [])
    ∷ (seen (with_counts 8 9 (6 ∷ []) f), 30 ∷ [])
    ∷ (seen (with_counts 8 8 (5 ∷ []) f), 0 ∷ [])
    -- an unused place, a place of a tile from C on, such a tile
    ∷ (seen (with_place 17 (can 0 0 1) f), 30 ∷ [])
    ∷ (seen (with_place 1023 (can 0 1 0) f), 30 ∷ [])
    ∷ (seen (with_head 63 (head 0 0 0 1 0) f), 30 ∷ [])
    -- every call on a floor that is not sound: the same floor, zeros
    ∷ (refused (book_answer bad 1 (can 9 70 0)) bad, 30 ∷ 1 ∷ [])
    ∷ (refused (stop_answer bad 1) bad, 30 ∷ 1 ∷ [])
    ∷ (refused (repair_answer bad 1) bad, 30 ∷ 1 ∷ [])
    ∷ (refused_round bad, 30 ∷ 1 ∷ 1 ∷ [])
    ∷ (refused_reading (read_answer bad 1), 30 ∷ 1 ∷ [])
    ∷ []

well_cases : holds well_cases_lem ≡ true
unfolding holds head with_head with_place with_counts seen well_cases_lem
well_cases = refl
