-- A list of bookings in one call: what its entries and the call answer, on all inputs.
use Rattle.std.specs.Prelude.{Bool, cond, List, [], ◌∷◌, ◌++◌, ℕ, ltb, eqb, length}
use Rattle.floor.specs.declared.Booking.{Booking}
use Rattle.floor.specs.declared.Floor.{Floor}
use Rattle.floor.specs.declared.Answer.{Answer}
use Rattle.floor.specs.Calls.{book_answer}

-- "each entry, which names its place, receives its own answer": its answer is written, its tile and its canister stay
abbrev pub answered : Booking → ℕ → Booking
answered b n = record { tile = b.tile; canister = b.canister; answer = n }

-- an entry booked singly
abbrev pub single : Floor → Booking → Answer
single f b = book_answer f b.tile b.canister

-- "The floor and all answers equal the same bookings made singly in list order. A refused entry doesn't stop those after it. An empty list changes nothing.": the floor after them, and the entries with their answers. A refused booking gives the floor back, so that the next entry finds it as it was
unfoldable pub floor_singly : Floor → List Booking → Floor
floor_singly f [] = f
floor_singly f (b ∷ l) = floor_singly (single f b).floor l

unfoldable pub entries_singly : Floor → List Booking → List Booking
entries_singly f [] = []
entries_singly f (b ∷ l) = let r = single f b in answered b r.refusal ∷ entries_singly r.floor l

-- "42, more than 64 entries"
abbrev pub too_long_of : ℕ → Bool
too_long_of n = ltb 64 n

-- "the call itself is refused by 42 only"; "checked first, with no entry written". "On a malformed floor every entry receives 30" needs no clause: a single booking answers 30 there
unfoldable pub list_answer : Floor → List Booking → Answer
list_answer f l = record { refusal = cond (too_long_of (length l)) 42 0; floor = cond (too_long_of (length l)) f (floor_singly f l) }

-- the list as it comes back
unfoldable pub list_after : Floor → List Booking → List Booking
list_after f l = cond (too_long_of (length l)) l (entries_singly f l)

-- the numbers of the entries that were accepted, by the answers written in them
abbrev pub accepted_in : List Booking → List ℕ
accepted_in [] = []
accepted_in (b ∷ l) = cond (eqb b.answer 0) (b.canister.number ∷ []) [] ++ accepted_in l
