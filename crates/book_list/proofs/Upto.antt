-- The floor and the list after i bookings: what the walk of book_list goes by.
use mathlib.Core.Path.{◌≡◌, refl, ap}
use mathlib.Core.List.{List, [], ◌∷◌}
use Prim.Native.Nat.{ℕ, zero, suc, ◌≤◌, ◌<◌}
use native.Mathlib.Omega.{arith}
use borrow.Author.Tests.{lt-ltb, le-ltb}
use lib.ListN.{length, get_or, set}
use Rattle.floor.specs.declared.Booking.{Booking}
use Rattle.floor.specs.declared.Floor.{Floor}
use Rattle.floor.specs.declared.Answer.{Answer}
use Rattle.floor.specs.Memory.{zero_canister}
use Rattle.floor.specs.Bookings.{answered, single, floor_singly, entries_singly, list_answer, list_after}

-- what is read where no entry is
abbrev pub zero_booking : Booking
zero_booking = record { tile = 0; canister = zero_canister; answer = 0 }

-- an entry with its answer
abbrev booked : Floor → Booking → Booking
booked f b = answered b (single f b).refusal

abbrev pub floor_upto : ℕ → Floor → List Booking → Floor
floor_upto zero f xs = f
floor_upto (suc i) f [] = f
floor_upto (suc i) f (x ∷ xs) = floor_upto i (single f x).floor xs

abbrev pub list_upto : ℕ → Floor → List Booking → List Booking
list_upto zero f xs = xs
list_upto (suc i) f [] = []
list_upto (suc i) f (x ∷ xs) = booked f x ∷ list_upto i (single f x).floor xs

pub list_length : (i : ℕ) (f : Floor) (xs : List Booking) → length (list_upto i f xs) ≡ length xs
list_length zero f xs = refl
list_length (suc i) f [] = refl
list_length (suc i) f (x ∷ xs) = ap suc (list_length i (single f x).floor xs)

pub list_step : (i : ℕ) (f : Floor) (xs : List Booking) (d : Booking) → i < length xs → set (list_upto i f xs) i (booked (floor_upto i f xs) (get_or (list_upto i f xs) i d)) ≡ list_upto (suc i) f xs
list_step zero f [] d h = absurd (omega arith)
list_step zero f (x ∷ xs) d h = refl
list_step (suc i) f [] d h = absurd (omega arith)
list_step (suc i) f (x ∷ xs) d h = ap (λ (t : List Booking). booked f x ∷ t) (list_step i (single f x).floor xs d (omega arith))

pub floor_step : (i : ℕ) (f : Floor) (xs : List Booking) (d : Booking) → i < length xs → (single (floor_upto i f xs) (get_or (list_upto i f xs) i d)).floor ≡ floor_upto (suc i) f xs
floor_step zero f [] d h = absurd (omega arith)
floor_step zero f (x ∷ xs) d h = refl
floor_step (suc i) f [] d h = absurd (omega arith)
floor_step (suc i) f (x ∷ xs) d h = floor_step i (single f x).floor xs d (omega arith)

-- ---- all of them
all_floor : (f : Floor) (xs : List Booking) → floor_upto (length xs) f xs ≡ floor_singly f xs
unfolding floor_singly
all_floor f [] = refl
all_floor f (x ∷ xs) = all_floor (single f x).floor xs

all_list : (f : Floor) (xs : List Booking) → list_upto (length xs) f xs ≡ entries_singly f xs
unfolding entries_singly
all_list f [] = refl
all_list f (x ∷ xs) = ap (λ (t : List Booking). booked f x ∷ t) (all_list (single f x).floor xs)

-- ---- the call's answer
pub done_list : (f : Floor) (xs : List Booking) → length xs ≤ 64 → list_upto (length xs) f xs ≡ list_after f xs
unfolding list_after
done_list f xs h = rw (le-ltb 64 (length xs) h) (all_list f xs)

pub done_answer : (f : Floor) (xs : List Booking) → length xs ≤ 64 → ◌≡◌ {A = Answer} (record { refusal = 0; floor = floor_upto (length xs) f xs }) (list_answer f xs)
unfolding list_answer
done_answer f xs h = rw (le-ltb 64 (length xs) h) (ap (λ (g : Floor). record { refusal = 0; floor = g }) (all_floor f xs))

pub long_list : (f : Floor) (xs : List Booking) → 64 < length xs → (◌≡◌ {A = Answer} (record { refusal = 42; floor = f }) (list_answer f xs)) × (xs ≡ list_after f xs)
unfolding list_answer list_after
long_list f xs h = (rw (lt-ltb 64 (length xs) h) refl, rw (lt-ltb 64 (length xs) h) refl)
