-- What a typed booking leaves of the session: the call's own answer, and nothing where the line can't be read.
use Rattle.std.specs.Prelude.{false, cond, not, ◌&&◌, ◌||◌, List, ℕ, min, eqb, get_or}
use Rattle.floor.specs.declared.Canister.{Canister}
use Rattle.floor.specs.declared.Answer.{Answer}
use Rattle.floor.specs.declared.Placed.{Placed}
use Rattle.floor.specs.Calls.{book_answer}
use Rattle.floor.specs.Anywhere.{anywhere_answer}
use Rattle.book_list.specs.Parts.{places_answer}
use Rattle.console_parse.specs.Line.{only_numbers, arguments_of, read}
use Rattle.console_list.specs.Entries.{no_entries, with_entry}
use Rattle.console_session.specs.declared.Session.{Session}
use Rattle.console_session.specs.Sessions.{with_floor, with_entries, after_call}

-- the canister that four numbers name after its tile; an a or b above 65,535 is 65,535, which 7 refuses too
abbrev pub canister_typed : List ℕ → Canister
canister_typed n = record { number = get_or n 1 0; a = min (get_or n 2 0) 65535; b = min (get_or n 3 0) 65535 }

-- after a booking without a place, and after one with its place
abbrev pub after_placed : Session → Placed → Session
after_placed s a = after_call s a.refusal a.floor

abbrev pub after_booked : Session → Answer → Session
after_booked s a = after_call s a.refusal a.floor

-- `book` with two numbers, or with four
unfoldable pub book_typed : Session → List ℕ → Session
book_typed s line =
    read (arguments_of line 2) (λ two. after_placed s (anywhere_answer s.floor (get_or two 0 0) (get_or two 1 0)))
    (read (arguments_of line 4) (λ four. after_booked s (book_answer s.floor (get_or four 0 0) (canister_typed four))) s)

-- the list that was typed, sent: no list is begun any more; where there is a floor and no 42, the floor is the answer's
unfoldable pub sent : Session → Session
sent s =
    let a = places_answer s.floor s.entries.list s.entries.count in
    let next = with_entries s (no_entries false) in
    cond (not (eqb a.refusal 0) || not s.made) next (with_floor next a.floor)

-- a line of the list that is no word alone
unfoldable pub line_typed : Session → List ℕ → Session
line_typed s line =
    read (only_numbers line 0 4) (λ n. with_entries s (with_entry s.entries (record { tile = get_or n 0 0; canister = canister_typed n; answer = 0 }))) s
