-- What the parts of the code give, and the list of bookings by value.
use Rattle.std.specs.Prelude.{cond, List, ◌++◌, ℕ, take, drop}
use Rattle.floor.specs.declared.Booking.{Booking}
use Rattle.floor.specs.declared.Floor.{Floor}
use Rattle.floor.specs.Bookings.{floor_singly, entries_singly, too_long_of}
use Rattle.book_list.specs.declared.Listed.{Listed}

-- how many of n entries are booked: all of them, or none
abbrev pub entries_of : ℕ → ℕ
entries_of n = cond (too_long_of n) 0 n

-- the first n places of l as a list, the others as they are
unfoldable pub places_answer : Floor → List Booking → ℕ → Listed
places_answer f l n = let k = entries_of n in record { floor = floor_singly f (take k l); list = entries_singly f (take k l) ++ drop k l; refusal = cond (too_long_of n) 42 0 }
