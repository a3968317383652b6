-- A floor that a call gave: refused, kept out, taken.
use mathlib.Core.Path.{◌≡◌, sym}
use mathlib.Core.Logic.{◌≢◌}
use mathlib.Core.Bool.{Bool, true, false, not, ◌&&◌}
use Prim.Native.Nat.{ℕ, ◌-◌}
use lib.Dec.{ltb}
use borrow.Author.Tests.{ne_eqb}
use Rattle.laws.specs.Define.{sum}
use Rattle.floor.specs.declared.Answer.{Answer}
use Rattle.console_session.specs.declared.Session.{Session}
use Rattle.console_session.specs.Sessions.{begun_with}
use Rattle.console_floors.specs.Held.{taken_by}

pub taken_refused : (s r : Session) (a : Answer) (up : Bool) → a.refusal ≢ 0 → r ≡ s → r ≡ taken_by s a up
unfolding taken_by
taken_refused s r a up n p = rw (ne_eqb a.refusal 0 n) p

pub taken_kept : (s r : Session) (a : Answer) (up : Bool) (k : ℕ) → a.refusal ≡ 0 → k ≡ s.floor.counters.booked - sum s.floor.counters.delivered → (ltb 0 k && not up) ≡ true → r ≡ s → r ≡ taken_by s a up
unfolding taken_by
taken_kept s r a up k n e h p = rw (n, sym e, h) p

pub taken_new : (s r : Session) (a : Answer) (up : Bool) (k : ℕ) → a.refusal ≡ 0 → k ≡ s.floor.counters.booked - sum s.floor.counters.delivered → (ltb 0 k && not up) ≡ false → r ≡ begun_with s a.floor → r ≡ taken_by s a up
unfolding taken_by
taken_new s r a up k n e h p = rw (n, sym e, h) p
