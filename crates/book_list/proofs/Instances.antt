-- [4] on concrete lists: each promise of `booking_lists` read off, on a floor of two tiles and on the all-zero floor, which is malformed.
use mathlib.Core.Path.{◌≡◌, refl, sym, ap, ◌∙◌}
use mathlib.Core.Logic.{◌⊎◌, inl, inr, ◌≢◌}
use mathlib.Core.Bool.{false}
use mathlib.Core.List.{List, [], ◌∷◌, ◌++◌, map}
use native.Mathlib.Omega.{arith}
use lib.ListN.{length, take, drop}
use Rattle.floor.specs.declared.Booking.{Booking}
use Rattle.floor.specs.declared.Floor.{Floor}
use Rattle.floor.specs.Memory.{zero_floor}
use Rattle.floor.specs.Well.{well_formed}
use Rattle.floor.specs.Bookings.{answered, accepted_in, list_answer, list_after}
use Rattle.floor.specs.Demand3.{floor_after, booked_in, reported_in}
use Rattle.floor.specs.CommutingCalls.{answers_in}
use Rattle.floor.proofs.Calling.{fresh, holds}
use Rattle.floor.proofs.ListSamples.{entry, elsewhere}
use Rattle.book_list.specs.Parts.{places_answer}
use Rattle.book_list.specs.Singly.{calls_of, Singly}
use Rattle.book_list.proofs.Singly.{booking_lists}

abbrev floor : Floor
floor = fresh 2 1 1

-- two entries, 64 with both of them, 65
abbrev two : List Booking
two = entry 0 5 0 0 ∷ entry 1 7 0 0 ∷ []

abbrev longest : List Booking
longest = two ++ elsewhere 62

lengths : (length longest ≡ 64) × (length (elsewhere 65) ≡ 65)
unfolding holds elsewhere
lengths = (refl, refl)

bad : well_formed zero_floor ≡ false
unfolding holds
bad = refl

-- refused by 42 only: never by 30
never_30 : (list_answer zero_floor two).refusal ≢ 30
never_30 e = go (booking_lists.every zero_floor two).number
  where
    go : ((list_answer zero_floor two).refusal ≡ 0) ⊎ ((list_answer zero_floor two).refusal ≡ 42) → ⊥
    go (inl z) = absurd (omega arith)
    go (inr z) = absurd (omega arith)

-- 65 entries, on either floor
long : (list_answer floor (elsewhere 65) ≡ record { refusal = 42; floor = floor }) × (list_after floor (elsewhere 65) ≡ elsewhere 65)
long = (booking_lists.every floor (elsewhere 65)).too_long (omega (arith, lengths.1))

long_malformed : (list_answer zero_floor (elsewhere 65) ≡ record { refusal = 42; floor = zero_floor }) × (list_after zero_floor (elsewhere 65) ≡ elsewhere 65)
long_malformed = (booking_lists.every zero_floor (elsewhere 65)).too_long (omega (arith, lengths.1))

-- 64 entries are the same bookings made singly
S : Singly floor longest
S = (booking_lists.every floor longest).singly (omega (arith, lengths.0))

longest_accepted : (list_answer floor longest).refusal ≡ 0
longest_accepted = S.number

longest_floor : (list_answer floor longest).floor ≡ floor_after floor (calls_of longest)
longest_floor = S.same_floor

longest_answers : map (λ b. b.answer) (list_after floor longest) ≡ answers_in floor (calls_of longest)
longest_answers = ap (map (λ b. b.answer)) (sym S.is_after) ∙ S.same_answers

longest_bookings : calls_of (list_after floor longest) ≡ calls_of longest
longest_bookings = ap calls_of (sym S.is_after) ∙ S.same_bookings

longest_booked : accepted_in (list_after floor longest) ≡ booked_in floor (calls_of longest)
longest_booked = ap accepted_in (sym S.is_after) ∙ S.same_booked

none_reported : reported_in floor (calls_of longest) 3 ≡ []
none_reported = S.none_reported 3

-- "On a malformed floor every entry receives 30"
both_30 : (list_answer zero_floor two ≡ record { refusal = 0; floor = zero_floor }) × (list_after zero_floor two ≡ answered (entry 0 5 0 0) 30 ∷ answered (entry 1 7 0 0) 30 ∷ [])
both_30 = (booking_lists.every zero_floor two).malformed bad (omega arith)

-- no entry
nothing : (list_answer zero_floor [] ≡ record { refusal = 0; floor = zero_floor }) × (list_after zero_floor [] ≡ [])
nothing = booking_lists.empty zero_floor

-- by value: all 64 places, the first two of them, and 65
all_places : places_answer floor longest 64 ≡ record { floor = (list_answer floor (take 64 longest)).floor; list = list_after floor (take 64 longest) ++ drop 64 longest; refusal = (list_answer floor (take 64 longest)).refusal }
all_places = (booking_lists.by_value floor longest 64).as_list (omega arith)

two_places : places_answer floor longest 2 ≡ record { floor = (list_answer floor two).floor; list = list_after floor two ++ elsewhere 62; refusal = (list_answer floor two).refusal }
two_places = (booking_lists.by_value floor longest 2).as_list (omega arith)

too_many : places_answer floor longest 65 ≡ record { floor = floor; list = longest; refusal = 42 }
too_many = (booking_lists.by_value floor longest 65).too_long (omega arith)
