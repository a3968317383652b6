-- A session after a call, refused or accepted.
use mathlib.Core.Path.{◌≡◌}
use mathlib.Core.Logic.{◌≢◌}
use Prim.Native.Nat.{ℕ}
use borrow.Author.Tests.{ne_eqb}
use Rattle.floor.specs.declared.Floor.{Floor}
use Rattle.console_session.specs.declared.Session.{Session}
use Rattle.console_session.specs.Sessions.{with_floor, after_call}

pub call_refused : (s r : Session) (n : ℕ) (f : Floor) → n ≢ 0 → r ≡ s → r ≡ after_call s n f
unfolding after_call
call_refused s r n f p e = rw (ne_eqb n 0 p) e

pub call_accepted : (s r : Session) (n : ℕ) (f : Floor) → n ≡ 0 → r ≡ with_floor s f → r ≡ after_call s n f
unfolding after_call
call_accepted s r n f p e = rw p e
