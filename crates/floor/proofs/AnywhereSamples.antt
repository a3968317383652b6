-- [1]: rows that hold the definitions of a booking without a place to their sentences, through the answers: one table, one proof. A row is what the answers give, then what is due.
use mathlib.Core.Path.{◌≡◌, refl}
use mathlib.Core.Bool.{true}
use mathlib.Core.List.{List, [], ◌∷◌}
use Prim.Native.Nat.{ℕ, zero, suc, ◌+◌, ◌-◌, ◌*◌, ◌/◌, ◌%◌, ◌^◌}
use Rattle.laws.specs.Define.{join, tab}
use Rattle.floor.specs.declared.Settings.{Settings}
use Rattle.floor.specs.declared.Placed.{Placed}
use Rattle.floor.specs.Memory.{zero_floor}
use Rattle.floor.specs.Anywhere.{anywhere_answer}
use Rattle.floor.specs.Demand3.{Call, book as booking, anywhere}
use Rattle.floor.proofs.Calling.{can, holds}
use Rattle.floor.proofs.TablesByValue.{Made, begun, fresh, book, place, stop, Seen, on, whole, counted, answered_place, answers, booked, replies, given, Rows, hold, hold_by, by_values}

-- W 2, hopper 1; U 9, v 1, places from 0 on
unfoldable pub small : ℕ → ℕ → Settings
small l r = record { columns = 2; rows = 1; hoppers = 2; sources = 1; width = 9; length = l; gap = r; travel = 1 }

-- l 2, r 0: places to 7, d 2, four along each axis; numbers 1 to n placed one after another
unfoldable filled : ℕ → Made
filled zero = begun (small 2 0)
filled (suc n) = place (suc n) 0 (filled n)

-- nine canisters at 1, 4 and 7 along each axis: every place is too near one of them
unfoldable spread : ℕ → Made
spread zero = begun (small 2 0)
spread (suc n) = book (suc n) (3 * (n % 3) + 1) (3 * (n / 3) + 1) 0 (spread n)

unfoldable lists : Placed → List ℕ
lists r = r.refusal ∷ r.a ∷ r.b ∷ []

unfoldable table : Rows
table =
    -- U 100, l 30, r 10: places 0 to 70, d 40
    let wide = fresh 2 1 1 in
    -- l 3, r 1: places 0 to 6, d 4
    let f = begun (small 3 1) in
    let two = book 2 4 0 0 (book 1 0 0 0 f) in
    let blocked = book 7 3 3 0 f in
    let full = filled 16 in
    let placing : ℕ → Made → Seen = λ n e. answered_place (anywhere 0 n) e in
    let mixed : List Call = anywhere 0 6 ∷ anywhere 0 6 ∷ booking 0 (can 7 0 4) ∷ anywhere 0 8 ∷ anywhere 0 9 ∷ anywhere 0 10 ∷ [] in
    -- an empty tile; the first row; the next row; the last place
    (placing 1 wide, 0 ∷ 0 ∷ 0 ∷ [])
    ∷ (placing 2 (book 1 0 0 0 wide), 0 ∷ 40 ∷ 0 ∷ [])
    ∷ (placing 3 two, 0 ∷ 0 ∷ 4 ∷ [])
    ∷ (placing 4 (place 3 0 two), 0 ∷ 4 ∷ 4 ∷ [])
    -- the lowest b comes first: (0, 5) has the lower a, (6, 0) the lower b; then the lowest a; a row without a place
    ∷ (placing 2 (book 1 2 1 0 f), 0 ∷ 6 ∷ 0 ∷ [])
    ∷ (placing 2 (book 1 4 0 0 f), 0 ∷ 0 ∷ 0 ∷ [])
    ∷ (placing 2 (book 1 3 0 0 f), 0 ∷ 0 ∷ 4 ∷ [])
    ∷ (placing 4 (book 3 6 1 0 (book 2 2 2 0 f)), 0 ∷ 6 ∷ 5 ∷ [])
    -- b = U - l
    ∷ (placing 2 (book 1 3 2 0 f), 0 ∷ 0 ∷ 6 ∷ [])
    -- no place: four canisters, one; with another spacing sixteen, and nine
    ∷ (placing 5 (place 4 0 (place 3 0 two)), 40 ∷ 0 ∷ 0 ∷ [])
    ∷ (placing 8 blocked, 40 ∷ 0 ∷ 0 ∷ [])
    ∷ (on 0 full, 0 ∷ join (tab 16 (λ n. suc n ∷ 2 * (n % 4) ∷ 2 * (n / 4) ∷ [])))
    ∷ (placing 17 full, 40 ∷ 0 ∷ 0 ∷ [])
    ∷ (placing 10 (spread 9), 40 ∷ 0 ∷ 0 ∷ [])
    -- 30, 4, 5, 6, 31, 33, 40, each where the next one holds too
    ∷ (given (lists (anywhere_answer zero_floor 0 0)), 30 ∷ 0 ∷ 0 ∷ [])
    ∷ (answered_place (anywhere 2 0) blocked, 4 ∷ 0 ∷ 0 ∷ [])
    ∷ (answered_place (anywhere 1 0) blocked, 5 ∷ 0 ∷ 0 ∷ [])
    ∷ (placing 0 (stop 0 blocked), 6 ∷ 0 ∷ 0 ∷ [])
    ∷ (placing 7 (stop 0 blocked), 31 ∷ 0 ∷ 0 ∷ [])
    ∷ (placing 7 blocked, 33 ∷ 0 ∷ 0 ∷ [])
    -- the floor, counters too, is a booking's; the greatest number
    ∷ (whole 2 (place 9 0 (book 1 0 0 0 f)), 0 ∷ 1 ∷ 255 ∷ 0 ∷ 0 ∷ 1 ∷ 0 ∷ 0 ∷ 9 ∷ 4 ∷ 0 ∷ 0 ∷ 1 ∷ 0 ∷ 0 ∷ 0 ∷ 9 ∷ 2 ∷ 0 ∷ 0 ∷ 0 ∷ 0 ∷ [])
    ∷ (counted (place (2 ^ 32 - 1) 0 (book 1 0 0 0 f)), 0 ∷ (2 ^ 32 - 1) ∷ 2 ∷ 0 ∷ 0 ∷ 0 ∷ 0 ∷ [])
    -- in a list, beside a booking with a place: the answers, the numbers booked, the places told
    ∷ (answers mixed f, 0 ∷ 33 ∷ 0 ∷ 0 ∷ 0 ∷ 40 ∷ [])
    ∷ (booked mixed f, 6 ∷ 7 ∷ 8 ∷ 9 ∷ [])
    ∷ (replies (λ x. x.1.0) mixed f, 0 ∷ 0 ∷ 0 ∷ 4 ∷ 4 ∷ 0 ∷ [])
    ∷ (replies (λ x. x.1.1) mixed f, 0 ∷ 0 ∷ 0 ∷ 0 ∷ 4 ∷ 0 ∷ [])
    ∷ []

computed : hold_by table ≡ true
unfolding holds hold_by small filled spread lists table
computed = refl

anywhere_samples : hold table ≡ true
anywhere_samples = by_values table computed
