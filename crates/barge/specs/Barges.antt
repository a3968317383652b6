-- Document 02, [13]: "A barge may run four floors with a joint allowance". Its calls: the refusals of each, in its order, and its answer on all inputs, from what the same call answers on a lone floor.
use Rattle.std.specs.Prelude.{Bool, cond, not, ◌&&◌, List, [], ◌∷◌, map, ℕ, leb, eqb, length, get_or, set}
use Rattle.laws.specs.Define.{all_of, sum, refusal}
use Rattle.floor.specs.declared.Canister.{Canister}
use Rattle.floor.specs.declared.Floor.{Floor}
use Rattle.floor.specs.Model.{numbers_on}
use Rattle.floor.specs.Memory.{zero_floor, view}
use Rattle.floor.specs.Well.{well_formed}
use Rattle.floor.specs.Calls.{book_answer, stop_answer, repair_answer, zero_report, round_answer}
use Rattle.floor.specs.Anywhere.{anywhere_answer}
use Rattle.barge.specs.declared.Barge.{Barge}
use Rattle.barge.specs.declared.BargeAnswer.{BargeAnswer}
use Rattle.barge.specs.declared.BargePlaced.{BargePlaced}
use Rattle.barge.specs.declared.BargeRounded.{BargeRounded}

-- floor k of the barge b; b with another floor k
abbrev pub floor_at : Barge → ℕ → Floor
floor_at b k = get_or b.floors k zero_floor

abbrev pub with_floor : Barge → ℕ → Floor → Barge
with_floor b k f = record { floors = set b.floors k f; allowance = b.allowance }

-- the canisters on a floor, and "the joint total"
unfoldable pub on_floor_of : Floor → ℕ
on_floor_of f = length (numbers_on (view f))

unfoldable pub aboard : Barge → ℕ
aboard b = sum (map on_floor_of b.floors)

-- "a joint allowance of 1 to 4,032 canisters aboard"
unfoldable pub allowance_sound : ℕ → Bool
allowance_sound n = leb 1 n && leb n 4032

-- "Outside that, or with any floor malformed, the barge is 30."; four floors, as its type has them. A total above the allowance is sound
unfoldable pub barge_sound : Barge → Bool
barge_sound b = allowance_sound b.allowance && (eqb (length b.floors) 4 && all_of well_formed b.floors)

-- the number that a call on floor k is refused by: 30; "49, floor number not 0 to 3, after 30"; `own`, what refuses it on floor k alone, 0 where nothing does; then the tests `last`
unfoldable pub barge_refusal : Barge → ℕ → ℕ → List (Bool × ℕ) → ℕ
barge_refusal b k own last = refusal ((not (barge_sound b), 30) ∷ (leb 4 k, 49) ∷ (not (eqb own 0), own) ∷ last)

-- "50, the total is at or above the allowance, checked last in a booking of either sort"
unfoldable pub allowed : Barge → List (Bool × ℕ)
allowed b = (leb b.allowance (aboard b), 50) ∷ []

-- the barge after a call that is refused by n, or accepted with the floor f: calls "do there what they do on a lone one … and leave the other three"
unfoldable pub barge_with : Barge → ℕ → ℕ → Floor → Barge
barge_with b k n f = cond (eqb n 0) (with_floor b k f) b

unfoldable pub barge_book : Barge → ℕ → ℕ → Canister → BargeAnswer
barge_book b k t c =
    let r = book_answer (floor_at b k) t c in
    let n = barge_refusal b k r.refusal (allowed b) in
    record { barge = barge_with b k n r.floor; refusal = n }

-- the place is told, refused zeros
unfoldable pub barge_book_anywhere : Barge → ℕ → ℕ → ℕ → BargePlaced
barge_book_anywhere b k t number =
    let r = anywhere_answer (floor_at b k) t number in
    let n = barge_refusal b k r.refusal (allowed b) in
    record { barge = barge_with b k n r.floor; a = cond (eqb n 0) r.a 0; b = cond (eqb n 0) r.b 0; refusal = n }

unfoldable pub barge_stop : Barge → ℕ → ℕ → BargeAnswer
barge_stop b k t =
    let r = stop_answer (floor_at b k) t in
    let n = barge_refusal b k r.refusal [] in
    record { barge = barge_with b k n r.floor; refusal = n }

unfoldable pub barge_repair : Barge → ℕ → ℕ → BargeAnswer
barge_repair b k t =
    let r = repair_answer (floor_at b k) t in
    let n = barge_refusal b k r.refusal [] in
    record { barge = barge_with b k n r.floor; refusal = n }

-- the report of floor k, refused "a report of zeros"
unfoldable pub barge_round : Barge → ℕ → BargeRounded
barge_round b k =
    let r = round_answer (floor_at b k) in
    let n = barge_refusal b k r.refusal [] in
    record { barge = barge_with b k n r.floor; report = cond (eqb n 0) r.report zero_report; refusal = n }
