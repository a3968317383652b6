-- [4]: lists of bookings by their answers. A row is what the call gives, then what is due.
use mathlib.Core.Path.{◌≡◌, refl}
use mathlib.Core.Bool.{true, cond}
use mathlib.Core.List.{List, [], ◌∷◌, ◌++◌, map}
use Prim.Native.Nat.{ℕ, suc}
use lib.ListN.{replicate}
use Rattle.laws.specs.Define.{tab}
use Rattle.floor.specs.declared.Booking.{Booking}
use Rattle.floor.specs.declared.Floor.{Floor}
use Rattle.floor.specs.Memory.{zero_floor}
use Rattle.floor.specs.Bookings.{floor_singly, entries_singly, list_answer, list_after}
use Rattle.floor.specs.Demand3.{list}
use Rattle.floor.proofs.Calling.{fresh as fresh_floor, can, flat, same_floor_lem, Table, holds}
use Rattle.floor.proofs.TablesByValue.{called, fresh, stop, on, counted, entries, Rows, hold, hold_by, by_values}

-- canister number n at (a, b) on tile t; 99 stands where the answer comes
unfoldable pub entry : ℕ → ℕ → ℕ → ℕ → Booking
entry t n a b = record { tile = t; canister = can n a b; answer = 99 }

-- n bookings on a tile that no floor has
unfoldable pub elsewhere : ℕ → List Booking
elsewhere n = tab n (λ k. entry 64 (suc k) 0 0)

-- 6 is too near 5, which the list booked; then 6 is booked, and 6 again is too low; the hopper is no fill tile; 8 is booked after all of them
unfoldable mixed : List Booking
mixed = entry 0 5 0 0 ∷ entry 0 6 39 39 ∷ entry 0 6 40 0 ∷ entry 0 6 0 40 ∷ entry 1 7 0 0 ∷ entry 0 8 0 40 ∷ []

-- an entry's answer; all of it
unfoldable entry_answer : Booking → List ℕ
entry_answer b = b.answer ∷ []

unfoldable all : Booking → List ℕ
all b = b.tile ∷ flat (b.canister ∷ []) ++ (b.answer ∷ [])

unfoldable rows : Rows
rows =
    let e = fresh 2 1 1 in
    (entries entry_answer mixed e, 0 ∷ 0 ∷ 34 ∷ 0 ∷ 33 ∷ 5 ∷ 0 ∷ [])
    ∷ (on 0 (called (list mixed) e), 0 ∷ 5 ∷ 0 ∷ 0 ∷ 6 ∷ 40 ∷ 0 ∷ 8 ∷ 0 ∷ 40 ∷ [])
    ∷ (counted (called (list mixed) e), 0 ∷ 8 ∷ 3 ∷ 0 ∷ 0 ∷ 0 ∷ 0 ∷ [])
    -- tiles and canisters stay, of a refused entry too
    ∷ (entries all (entry 7 5 1 2 ∷ entry 0 9 3 4 ∷ []) e, 0 ∷ 7 ∷ 5 ∷ 1 ∷ 2 ∷ 4 ∷ 0 ∷ 9 ∷ 3 ∷ 4 ∷ 0 ∷ [])
    -- in the other order the lower number is refused
    ∷ (entries entry_answer (entry 0 6 40 0 ∷ entry 0 5 0 0 ∷ []) e, 0 ∷ 0 ∷ 33 ∷ [])
    ∷ (entries entry_answer (entry 0 5 0 0 ∷ entry 0 0 0 0 ∷ entry 0 5 71 0 ∷ []) (stop 0 e), 0 ∷ 31 ∷ 6 ∷ 7 ∷ [])
    -- no entry; 64 and 65 entries
    ∷ (entries entry_answer [] e, 0 ∷ [])
    ∷ (entries entry_answer (elsewhere 64) e, 0 ∷ replicate 64 4)
    ∷ (entries entry_answer (elsewhere 65) e, 42 ∷ replicate 65 99)
    ∷ []

rows_test : hold_by rows ≡ true
unfolding holds hold_by can entry elsewhere mixed entry_answer all rows
rows_test = refl

list_rows : hold rows ≡ true
list_rows = by_values rows rows_test

-- ---- in memory: the call's number and each entry's answer; whether the floor is as it came
unfoldable answers : Floor → List Booking → List ℕ
answers f l = (list_answer f l).refusal ∷ map (λ b. b.answer) (list_after f l)

unfoldable same : Floor → List Booking → List ℕ
same f l = cond (same_floor_lem (list_answer f l).floor f) 1 0 ∷ []

unfoldable table : Table
table =
    let f = fresh_floor 2 1 1 in
    (same f [], 1 ∷ []) ∷ (same f (entry 0 5 0 0 ∷ elsewhere 64), 1 ∷ [])
    -- a malformed floor
    ∷ (answers zero_floor [], 0 ∷ []) ∷ (same zero_floor [], 1 ∷ [])
    ∷ (answers zero_floor mixed, 0 ∷ replicate 6 30) ∷ (same zero_floor mixed, 1 ∷ [])
    ∷ (answers zero_floor (elsewhere 64), 0 ∷ replicate 64 30) ∷ (answers zero_floor (elsewhere 65), 42 ∷ replicate 65 99)
    ∷ []

list_samples : holds table ≡ true
unfolding holds floor_singly entries_singly list_answer list_after entry elsewhere mixed answers same table
list_samples = refl
