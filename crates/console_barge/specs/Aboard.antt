-- The session with the barge beside it, and what is shared by the commands about it.
use Rattle.std.specs.Prelude.{ℕ, cond, replicate, ◌==◌, nat_lt, slice_set}
use Rattle.floor.specs.declared.Floor.{Floor}
use Rattle.floor.specs.Memory.{zero_floor}
use Rattle.barge.specs.declared.Barge.{Barge}
use Rattle.barge.specs.Barges.{with_floor}
use Rattle.console_session.specs.declared.Session.{Session}
use Rattle.console_session.specs.Sessions.{start_session}
use Rattle.console_barge.specs.declared.WithBarge.{WithBarge}

-- no floor, neither in the session nor in the barge
abbrev pub start_barge : WithBarge
start_barge = record { session = start_session; barge = record { floors = replicate 4 zero_floor; allowance = 0 }; rounds = replicate 4 0 }

-- with the session changed, and with the barge changed
abbrev pub session_set : WithBarge → Session → WithBarge
session_set a s = record { session = s; barge = a.barge; rounds = a.rounds }

abbrev pub barge_set : WithBarge → Barge → WithBarge
barge_set a b = record { session = a.session; barge = b; rounds = a.rounds }

-- the place of a floor that the barge has; 0 for any other number
abbrev pub place_of : ℕ → ℕ
place_of k = cond (nat_lt k 4) k 0

-- with another floor k in the barge, whose rounds begin anew
unfoldable pub floor_set : WithBarge → ℕ → Floor → WithBarge
floor_set a k f = record { session = a.session; barge = with_floor a.barge (place_of k) f; rounds = slice_set a.rounds (place_of k) 0 }

-- after a call that is refused by n, or gives the barge b: refused, nothing has changed
unfoldable pub after_on : WithBarge → ℕ → Barge → WithBarge
after_on a n b = cond (n == 0) (barge_set a b) a
