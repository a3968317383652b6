-- A floor that a call gave, taken or not.
use Rattle.std.specs.Prelude.{Bool, cond, not, ◌&&◌, ◌-◌, ltb, eqb}
use Rattle.laws.specs.Define.{sum}
use Rattle.floor.specs.declared.Answer.{Answer}
use Rattle.console_session.specs.declared.Session.{Session}
use Rattle.console_session.specs.Sessions.{begun_with}

-- refused, nothing has changed; a floor that holds canisters stays too, unless it is given up
unfoldable pub taken_by : Session → Answer → Bool → Session
taken_by s a up =
    cond (eqb a.refusal 0)
    (cond (ltb 0 (s.floor.counters.booked - sum s.floor.counters.delivered) && not up) s (begun_with s a.floor))
    s
