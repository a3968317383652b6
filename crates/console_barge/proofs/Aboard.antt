-- The barge beside the session, at first, and with another floor.
use Rattle.std.proofs.Common.{◌≡◌, ℕ, ◌<◌, ◌≤◌, set, replicate, sym, ap, le-ltb, lt-ltb}
use Rattle.floor.specs.declared.Floor.{Floor}
use Rattle.floor.specs.Memory.{zero_floor}
use Rattle.barge.specs.Barges.{with_floor}
use Rattle.console_session.specs.declared.Session.{Session}
use Rattle.console_session.specs.Sessions.{start_session}
use Rattle.console_barge.specs.declared.WithBarge.{WithBarge}
use Rattle.console_barge.specs.Aboard.{start_barge, barge_set, place_of, floor_set}

pub place_in : (k : ℕ) → k < 4 → k ≡ place_of k
place_in k h = rw (lt-ltb k 4 h)

pub place_out : (k : ℕ) → 4 ≤ k → 0 ≡ place_of k
place_out k h = rw (le-ltb k 4 h)

pub at_first : (s : Session) (f : Floor) → s ≡ start_session → f ≡ zero_floor → record { session = s; barge = record { floors = replicate 4 f; allowance = 0 }; rounds = replicate 4 0 } ≡ start_barge
at_first s f e q = λ i. record { session = e i; barge = record { floors = replicate 4 (q i); allowance = 0 }; rounds = replicate 4 0 }

pub floor_put : (a w : WithBarge) (k p : ℕ) (f : Floor) → p ≡ place_of k → w ≡ barge_set a (with_floor a.barge p f) → record { session = w.session; barge = w.barge; rounds = set w.rounds p 0 } ≡ floor_set a k f
unfolding floor_set
floor_put a w k p f e q = rw (sym e) (ap (λ (x : WithBarge). record { session = x.session; barge = x.barge; rounds = set x.rounds p 0 }) q)
