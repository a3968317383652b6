-- The entries of a list that is typed line by line.
use Rattle.std.specs.Prelude.{◌+◌, Bool, cond, replicate, nat_lt, slice_set}
use Rattle.floor.specs.declared.Booking.{Booking}
use Rattle.floor.specs.Memory.{zero_canister}
use Rattle.console_list.specs.declared.Entries.{Entries}

-- b after the entries of e: 64 are kept; the count goes on to 65, which the library refuses by 42
unfoldable pub with_entry : Entries → Booking → Entries
with_entry e b =
    cond (nat_lt e.count 64)
    (record { list = slice_set e.list e.count b; count = e.count + 1; begun = e.begun })
    (record { list = e.list; count = 65; begun = e.begun })

-- none
unfoldable pub no_entries : Bool → Entries
no_entries begun = record { list = replicate 64 (record { tile = 0; canister = zero_canister; answer = 0 }); count = 0; begun = begun }
