-- A list of bookings in one call and the same bookings made singly: what is promised. The theorem is `booking_lists` of proofs/Singly.
use Rattle.std.specs.Prelude.{◌≡◌, ◌⊎◌, false, List, [], ◌++◌, map, ℕ, ◌≤◌, ◌<◌, length, take, drop}
use Rattle.floor.specs.declared.Booking.{Booking}
use Rattle.floor.specs.declared.Floor.{Floor}
use Rattle.floor.specs.Well.{well_formed}
use Rattle.floor.specs.Bookings.{answered, accepted_in, list_answer, list_after}
use Rattle.floor.specs.Demand3.{Call, book, floor_after, booked_in, reported_in}
use Rattle.floor.specs.CommutingCalls.{answers_in}
use Rattle.book_list.specs.Parts.{places_answer}

-- the entries as single bookings, calls of demand 3
abbrev pub calls_of : List Booking → List Call
calls_of l = map (λ b. book b.tile b.canister) l

-- f is any floor, well formed or not; l has at most 64 entries
pub record Singly (f : Floor) (l : List Booking) : Type 0 where
  pub after : List Booking
  pub is_after : after ≡ list_after f l
  pub number : (list_answer f l).refusal ≡ 0
  -- "The floor and all answers equal the same bookings made singly in list order."
  pub same_floor : (list_answer f l).floor ≡ floor_after f (calls_of l)
  pub same_answers : map (λ b. b.answer) after ≡ answers_in f (calls_of l)
  -- tiles and canisters stay
  pub same_bookings : calls_of after ≡ calls_of l
  -- what demand 3 counts of single bookings stands in the answers
  pub same_booked : accepted_in after ≡ booked_in f (calls_of l)
  pub none_reported : (k : ℕ) → reported_in f (calls_of l) k ≡ []

pub record ListPromises (f : Floor) (l : List Booking) : Type 0 where
  -- "the call itself is refused by 42 only"
  pub number : ((list_answer f l).refusal ≡ 0) ⊎ ((list_answer f l).refusal ≡ 42)
  -- "42, more than 64 entries, checked first, with no entry written": whatever the floor
  pub too_long : 64 < length l → (list_answer f l ≡ record { refusal = 42; floor = f }) × (list_after f l ≡ l)
  pub singly : length l ≤ 64 → Singly f l
  -- "On a malformed floor every entry receives 30"
  pub malformed : well_formed f ≡ false → length l ≤ 64 → (list_answer f l ≡ record { refusal = 0; floor = f }) × (list_after f l ≡ map (λ b. answered b 30) l)

-- the same call on places by value: the first n of them are the list
pub record ByValue (f : Floor) (l : List Booking) (n : ℕ) : Type 0 where
  pub as_list : n ≤ 64 → places_answer f l n ≡ record { floor = (list_answer f (take n l)).floor; list = list_after f (take n l) ++ drop n l; refusal = (list_answer f (take n l)).refusal }
  pub too_long : 64 < n → places_answer f l n ≡ record { floor = f; list = l; refusal = 42 }

-- for every floor and list; "An empty list changes nothing." That list calls may stand in demand 3's lists is part of Demand3
pub record BookingLists : Type 0 where
  pub every : (f : Floor) (l : List Booking) → ListPromises f l
  pub empty : (f : Floor) → (list_answer f [] ≡ record { refusal = 0; floor = f }) × (list_after f [] ≡ [])
  pub by_value : (f : Floor) (l : List Booking) (n : ℕ) → ByValue f l n
