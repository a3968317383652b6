-- [13]: rows that hold the definitions of a barge's calls to their sentences, through the answers: one table, one proof. A row is what the answers give, then what is due.
use mathlib.Core.Path.{◌≡◌, refl}
use mathlib.Core.Bool.{true, cond}
use mathlib.Core.List.{List, [], ◌∷◌, ◌++◌}
use Prim.Native.Nat.{ℕ, ◌-◌, ◌^◌}
use Rattle.laws.specs.Define.{tab}
use Rattle.floor.specs.declared.Floor.{Floor}
use Rattle.floor.specs.Memory.{zero_floor}
use Rattle.floor.specs.Calls.{fresh_answer}
use Rattle.floor.specs.Reports.{listed_at}
use Rattle.floor.proofs.Calling.{got, can, book, same_floor_lem, Table, holds}
use Rattle.floor.proofs.AnywhereSamples.{small}
use Rattle.barge.specs.declared.Barge.{Barge}
use Rattle.barge.specs.declared.BargeAnswer.{BargeAnswer}
use Rattle.barge.specs.declared.BargePlaced.{BargePlaced}
use Rattle.barge.specs.declared.BargeRounded.{BargeRounded}
use Rattle.barge.specs.Barges.{floor_at, on_floor_of, aboard, allowance_sound, barge_sound, barge_refusal, allowed, barge_with, barge_book, barge_book_anywhere, barge_stop, barge_repair, barge_round}

-- four floors and an allowance
unfoldable pub four : Floor → Floor → Floor → Floor → ℕ → Barge
four f g h i n = record { floors = f ∷ g ∷ h ∷ i ∷ []; allowance = n }

-- 1 for each floor of b that is as it was on d
unfoldable same : Barge → Barge → List ℕ
same b d = tab 4 (λ k. cond (same_floor_lem (floor_at b k) (floor_at d k)) 1 0)

-- the refusal, the total afterwards, and which floors are as they were
unfoldable answer_row : Barge → BargeAnswer → List ℕ
answer_row b r = r.refusal ∷ aboard r.barge ∷ same r.barge b

-- the refusal, the total afterwards, the place
unfoldable placed : BargePlaced → List ℕ
placed r = r.refusal ∷ aboard r.barge ∷ r.a ∷ r.b ∷ []

-- the refusal, the total afterwards, what was delivered, and which floors are as they were
unfoldable rounded : Barge → BargeRounded → List ℕ
rounded b r = r.refusal ∷ aboard r.barge ∷ (listed_at r.report 0 ++ same r.barge b)

unfoldable table : Table
table =
    -- W 2, hopper 1, U 9, l 3, r 1: places 0 to 6, d 4. f is empty; one has canister 9 at 0, 0; blocked has no place; near is about to deliver
    let f = got (fresh_answer (small 3 1)) in
    let one = book 9 0 0 0 f in
    let blocked = book 7 3 3 0 f in
    let near = book 5 6 0 0 f in
    let some : ℕ → Barge = four f one blocked f in
    let b = some 3 in
    let full = some 2 in
    let moving = four near near near near 4 in
    -- two are aboard. One below the allowance a booking of either sort is accepted, and the other three floors stay; at it and above it 50 refuses, also where the named floor is empty
    (answer_row b (barge_book b 0 0 (can 1 0 0)), 0 ∷ 3 ∷ 0 ∷ 1 ∷ 1 ∷ 1 ∷ [])
    ∷ (answer_row b (barge_book b 1 0 (can 10 4 0)), 0 ∷ 3 ∷ 1 ∷ 0 ∷ 1 ∷ 1 ∷ [])
    ∷ (answer_row b (barge_book b 3 0 (can 1 0 0)), 0 ∷ 3 ∷ 1 ∷ 1 ∷ 1 ∷ 0 ∷ [])
    ∷ (placed (barge_book_anywhere b 1 0 10), 0 ∷ 3 ∷ 4 ∷ 0 ∷ [])
    ∷ (answer_row full (barge_book full 0 0 (can 1 0 0)), 50 ∷ 2 ∷ 1 ∷ 1 ∷ 1 ∷ 1 ∷ [])
    ∷ (placed (barge_book_anywhere full 1 0 10), 50 ∷ 2 ∷ 0 ∷ 0 ∷ [])
    ∷ ((barge_book (some 1) 3 0 (can 1 0 0)).refusal ∷ (barge_book_anywhere (some 1) 3 0 1).refusal ∷ [], 50 ∷ 50 ∷ [])
    -- 50 is last: after 33, 34 and 40. Above the allowance the other calls are as on a lone floor
    ∷ ((barge_book full 1 0 (can 9 4 0)).refusal ∷ (barge_book full 1 0 (can 10 3 0)).refusal ∷ placed (barge_book_anywhere full 2 0 8), 33 ∷ 34 ∷ 40 ∷ 2 ∷ 0 ∷ 0 ∷ [])
    ∷ (answer_row (some 1) (barge_stop (some 1) 2 0), 0 ∷ 2 ∷ 1 ∷ 1 ∷ 0 ∷ 1 ∷ [])
    ∷ ((barge_stop full 2 1).refusal ∷ (barge_repair full 2 0).refusal ∷ (barge_repair (barge_stop full 2 0).barge 2 0).refusal ∷ [], 8 ∷ 32 ∷ 0 ∷ [])
    -- 49 after 30, and before the call's own; a wrong number is not cut
    ∷ ((barge_book full 4 9 (can 0 0 0)).refusal ∷ (barge_book_anywhere full 256 0 1).refusal ∷ (barge_stop full 65536 9).refusal ∷ (barge_repair full (2 ^ 32 - 4) 0).refusal ∷ (barge_round full (2 ^ 32 - 1)).refusal ∷ [], 49 ∷ 49 ∷ 49 ∷ 49 ∷ 49 ∷ [])
    ∷ ((barge_round (some 0) 4).refusal ∷ (barge_round (some 0) 0).refusal ∷ (barge_round (some 1) 0).refusal ∷ (barge_round (some 4032) 0).refusal ∷ (barge_round (some 4033) 0).refusal ∷ [], 30 ∷ 30 ∷ 0 ∷ 0 ∷ 30 ∷ [])
    -- one malformed floor, at each place, whatever floor is named
    ∷ (answer_row (four zero_floor f f f 9) (barge_book (four zero_floor f f f 9) 1 0 (can 1 0 0)), 30 ∷ 0 ∷ 1 ∷ 1 ∷ 1 ∷ 1 ∷ [])
    ∷ ((barge_book_anywhere (four f zero_floor f f 9) 0 0 1).refusal ∷ (barge_stop (four f f zero_floor f 9) 3 0).refusal ∷ (barge_round (four f f f zero_floor 9) 4).refusal ∷ [], 30 ∷ 30 ∷ 30 ∷ [])
    -- a round moves the named floor alone; a delivery lowers the total by one, and a booking is accepted again
    ∷ (rounded moving (barge_round moving 2), 0 ∷ 3 ∷ 5 ∷ 1 ∷ 1 ∷ 0 ∷ 1 ∷ [])
    ∷ ((barge_book moving 0 0 (can 6 0 0)).refusal ∷ (barge_book (barge_round moving 2).barge 0 0 (can 6 0 0)).refusal ∷ [], 50 ∷ 0 ∷ [])
    ∷ (rounded (some 0) (barge_round (some 0) 0), 30 ∷ 2 ∷ 1 ∷ 1 ∷ 1 ∷ 1 ∷ [])
    ∷ []

barge_samples : holds table ≡ true
unfolding holds small four same answer_row placed rounded table on_floor_of aboard allowance_sound barge_sound barge_refusal allowed barge_with barge_book barge_book_anywhere barge_stop barge_repair barge_round
barge_samples = refl
