-- [8]: rows that hold the definitions of names and layouts to their sentences, through the answers: one table, one proof. A row is what the answers give, then what is due.
use mathlib.Core.Path.{◌≡◌, refl}
use mathlib.Core.Bool.{true}
use mathlib.Core.List.{List, [], ◌∷◌, ◌++◌, map}
use Prim.Native.Nat.{ℕ, zero, suc, ◌+◌, ◌*◌, ◌^◌}
use lib.ListN.{replicate, set}
use Rattle.laws.specs.Define.{join, tab}
use Rattle.floor.specs.declared.Layout.{Layout}
use Rattle.floor.specs.declared.Floor.{Floor}
use Rattle.floor.specs.Layouts.{name_number}
use Rattle.floor.specs.Memory.{zero_floor, zero_layout, layout_places, relaid}
use Rattle.floor.specs.Calls.{fresh_answer, keep_answer, forget_answer, recall_answer, round_answer}
use Rattle.floor.specs.Demand3.{keep as keeping, forget as forgetting, recall as recalling}
use Rattle.floor.proofs.Calling.{got, several, settings, named, refused, holds}
use Rattle.floor.proofs.TablesByValue.{Made, begun, fresh, book, stop, repair, keep, forget, recall, rounds, Seen, layouts_read_lem, whole, counted, answered, answers, read_with, given, Rows, hold, hold_by, by_values}

-- A, B and so on by their number from 0 on
unfoldable letter : ℕ → ℕ
letter n = named ((65 + n) ∷ [])

-- the first n letters, kept from the last to the first
unfoldable many : ℕ → Made → Made
many zero e = e
many (suc n) e = many n (keep (letter n) e)

-- these letters, each with all three tiles
unfoldable layout_rows : List ℕ → List ℕ
layout_rows l = join (map (λ n. letter n ∷ 7 ∷ []) l)

unfoldable layout : ℕ → ℕ → Layout
layout name s = record { name = name; set = s }

-- with these layouts; zeros after them
unfoldable with : List Layout → Made → Seen
with l e = read_with (layout_places 8 l) e

-- a fresh floor of three tiles, hopper 0, in memory
unfoldable three : Floor
three = got (fresh_answer (settings 3 1 0 20))

-- W 4, hoppers 0 and 3
unfoldable ends : Made
ends = begun (several 4 1 9 20)

-- W 3, hopper 0, canister 5 on tile 2, on its way at a = 10 after four rounds
unfoldable going : Made
going = rounds 4 (book 5 70 0 2 (fresh 3 1 0))

-- all that it has but for its layouts
unfoldable goes : List ℕ
goes =
    0 ∷ 1 ∷ 0 ∷ 0 ∷ 0
    ∷ 0 ∷ 1 ∷ 1 ∷ 1 ∷ 4
    ∷ 0 ∷ 1 ∷ 2 ∷ 1 ∷ 0 ∷ 5 ∷ 10 ∷ 0
    ∷ 5 ∷ 1 ∷ 0 ∷ 0 ∷ 0 ∷ 0 ∷ []

unfoldable table : Rows
table =
    let f = fresh 3 1 0 in
    let full = many 8 f in
    let tried : List (List ℕ) → Seen = λ l. answers (map (λ x. keeping (name_number x)) l) f in
    let A = letter 0 in
    let B = letter 1 in
    -- A is kept with tile 1 stopped; then tile 1 runs, and tile 2 is stopped
    let before = stop 2 (rounds 1 (repair 1 (keep A (stop 1 going)))) in
    let after : List ℕ = 0 ∷ 1 ∷ 0 ∷ 0 ∷ 0 ∷ 0 ∷ 0 ∷ 255 ∷ 0 ∷ 0 ∷ 0 ∷ 1 ∷ 255 ∷ 0 ∷ 0 ∷ 5 ∷ 10 ∷ 0 ∷ 5 ∷ 1 ∷ 0 ∷ 0 ∷ 0 ∷ 0 ∷ A ∷ 5 ∷ [] in
    -- names: none, one letter, eight, small letters, a letter after zeros, bytes beside A to Z
    (tried (replicate 8 0 ∷ (65 ∷ replicate 7 0) ∷ (90 ∷ replicate 7 0) ∷ replicate 8 65 ∷ replicate 8 90 ∷ (97 ∷ replicate 7 0) ∷ []), 44 ∷ 0 ∷ 0 ∷ 0 ∷ 0 ∷ 44 ∷ [])
    ∷ (tried ((65 ∷ 0 ∷ 65 ∷ replicate 5 0) ∷ (0 ∷ 65 ∷ replicate 6 0) ∷ (replicate 7 65 ++ (97 ∷ [])) ∷ (64 ∷ replicate 7 0) ∷ (91 ∷ replicate 7 0) ∷ (65 ∷ 32 ∷ replicate 6 0) ∷ []), 44 ∷ 44 ∷ 44 ∷ 44 ∷ 44 ∷ 44 ∷ [])
    ∷ (answered (keeping (2 ^ 64 + A)) f, 44 ∷ [])
    -- a fresh floor has none; by rising name: A, AB, B; the first letter is the highest byte
    ∷ (layouts_read_lem f, 0 ∷ [])
    ∷ (layouts_read_lem (keep (named (65 ∷ 66 ∷ [])) (keep A (keep B f))), 0 ∷ (65 * 2 ^ 56) ∷ 7 ∷ (65 * 2 ^ 56 + 66 * 2 ^ 48) ∷ 7 ∷ (66 * 2 ^ 56) ∷ 7 ∷ [])
    -- the set of tiles that ran when it was kept; a held name is replaced
    ∷ (layouts_read_lem (keep A (stop 1 f)), 0 ∷ A ∷ 5 ∷ [])
    ∷ (layouts_read_lem (keep B (stop 1 (keep B (keep A f)))), 0 ∷ A ∷ 7 ∷ B ∷ 5 ∷ [])
    -- eight names, and a ninth; a held one of eight is replaced; after one is forgotten there is room
    ∷ (layouts_read_lem full, 0 ∷ layout_rows (tab 8 (λ n. n)))
    ∷ (answered (keeping (letter 8)) full, 46 ∷ [])
    ∷ (layouts_read_lem (keep (letter 3) (stop 1 full)), 0 ∷ layout_rows (0 ∷ 1 ∷ 2 ∷ []) ++ (letter 3 ∷ 5 ∷ layout_rows (4 ∷ 5 ∷ 6 ∷ 7 ∷ [])))
    ∷ (layouts_read_lem (keep (letter 8) (forget (letter 3) full)), 0 ∷ layout_rows (0 ∷ 1 ∷ 2 ∷ 4 ∷ 5 ∷ 6 ∷ 7 ∷ 8 ∷ []))
    -- forgetting frees its place, the first and the last too
    ∷ (layouts_read_lem (forget A (keep B (keep A f))), 0 ∷ B ∷ 7 ∷ [])
    ∷ (layouts_read_lem (forget B (keep B (keep A f))), 0 ∷ A ∷ 7 ∷ [])
    ∷ (whole 3 going, goes)
    ∷ (whole 3 (forget A (keep A going)), goes)
    -- the orders: 30, 44, then 45 or 46; the floor of a refusal
    ∷ (given (refused (keep_answer zero_floor 0) zero_floor ++ refused (recall_answer zero_floor 0) zero_floor ++ refused (forget_answer zero_floor 0) zero_floor), 30 ∷ 1 ∷ 30 ∷ 1 ∷ 30 ∷ 1 ∷ [])
    ∷ (given (refused (keep_answer three 0) three ++ refused (recall_answer three A) three ++ refused (forget_answer three A) three), 44 ∷ 1 ∷ 45 ∷ 1 ∷ 45 ∷ 1 ∷ [])
    ∷ (answers (keeping 0 ∷ recalling 0 ∷ forgetting 0 ∷ recalling (letter 8) ∷ forgetting (letter 8) ∷ []) full, 44 ∷ 44 ∷ 44 ∷ 45 ∷ 45 ∷ [])
    -- recall: tile 1 is stopped, tile 2 repaired, the hopper as it was; canisters, counters and layouts stay
    ∷ (whole 3 before, 0 ∷ 1 ∷ 0 ∷ 0 ∷ 0 ∷ 0 ∷ 1 ∷ 1 ∷ 1 ∷ 0 ∷ 0 ∷ 0 ∷ 255 ∷ 0 ∷ 0 ∷ 5 ∷ 10 ∷ 0 ∷ 5 ∷ 1 ∷ 0 ∷ 0 ∷ 0 ∷ 0 ∷ A ∷ 5 ∷ [])
    ∷ (whole 3 (recall A before), after)
    ∷ (whole 3 (repair 2 (stop 1 before)), after)
    -- a delivered canister doesn't come back, nor does its count go
    ∷ (counted (recall A (rounds 9 (keep A going))), 0 ∷ 5 ∷ 1 ∷ 1 ∷ 0 ∷ 0 ∷ 0 ∷ [])
    -- a recall that changes nothing: arrows and turns stay
    ∷ (whole 3 (recall A (keep A going)), goes ++ (A ∷ 7 ∷ []))
    -- malformed: unsorted, repeated, a bad name, a bit for no tile, no hopper, what is no zero after the last
    ∷ (with (layout A 7 ∷ layout B 7 ∷ []) f, 0 ∷ []) ∷ (with (tab 8 (λ n. layout (letter n) 7)) f, 0 ∷ [])
    ∷ (with (layout B 7 ∷ layout A 7 ∷ []) f, 30 ∷ []) ∷ (with (layout A 7 ∷ layout A 7 ∷ []) f, 30 ∷ []) ∷ (with (layout 97 7 ∷ []) f, 30 ∷ [])
    ∷ (with (layout A 8 ∷ []) f, 30 ∷ []) ∷ (with (layout A 9 ∷ []) f, 30 ∷ []) ∷ (with (layout A 6 ∷ []) f, 30 ∷ [])
    ∷ (read_with (set (replicate 8 zero_layout) 0 (layout 0 7)) f, 30 ∷ []) ∷ (read_with (set (replicate 8 zero_layout) 1 (layout A 7)) f, 30 ∷ []) ∷ (read_with (replicate 7 zero_layout) f, 30 ∷ [])
    ∷ (given ((keep_answer (relaid three (layout_places 8 (layout B 7 ∷ layout A 7 ∷ []))) A).refusal ∷ (round_answer (relaid three (layout_places 8 (layout A 6 ∷ [])))).refusal ∷ []), 30 ∷ 30 ∷ [])
    -- hoppers 0 and 3: a set needs both
    ∷ (with (layout A 9 ∷ []) ends, 0 ∷ []) ∷ (with (layout A 15 ∷ []) ends, 0 ∷ []) ∷ (with (layout A 7 ∷ []) ends, 30 ∷ []) ∷ (with (layout A 14 ∷ []) ends, 30 ∷ [])
    ∷ []

computed : hold_by table ≡ true
unfolding holds hold_by letter many layout_rows layout with three ends going goes table
computed = refl

layout_samples : hold table ≡ true
layout_samples = by_values table computed
