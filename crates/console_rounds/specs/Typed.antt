-- What a round that is typed leaves of the session.
use Rattle.std.specs.Prelude.{◌+◌, ◌%◌, ◌^◌, cond, ◌&&◌, ◌==◌, nat_eq}
use Rattle.floor.specs.declared.Report.{Report}
use Rattle.floor.specs.declared.Rounded.{Rounded}
use Rattle.floor.specs.Calls.{round_answer}
use Rattle.plan.specs.Plans.{report_answer}
use Rattle.console_throughput.specs.Follow.{followed_by}
use Rattle.console_session.specs.declared.Session.{Session}
use Rattle.console_session.specs.Sessions.{with_plan}
use Rattle.console_rounds.specs.declared.Stepped.{Stepped}

-- after an accepted round: the floor, the throughput, the report's reasons and millimetres, and one round more; the plan waits for the report
unfoldable pub moved : Session → Rounded → Session
moved s a =
    record { floor = a.floor; plan = s.plan; records = (followed_by s.records a.report.deliveries).records; reasons = a.report.reasons; missing = a.report.missing; entries = s.entries; lines = s.lines; rounds = (s.rounds + 1) % 2 ^ 64; made = s.made; going = s.going }

-- a round, and what it gave: refused, the session as it was, and no window closed
unfoldable pub stepped_by : Session → Rounded → Stepped
stepped_by s a =
    let accepted = nat_eq a.refusal 0 in
    record { session = cond accepted (moved s a) s; report = a.report; refusal = a.refusal; closed = accepted && (followed_by s.records a.report.deliveries).closed }

-- the plan with a report
abbrev pub report_told : Session → Report → Session
report_told s r = with_plan s (report_answer s.plan r).plan

-- `round`: refused, nothing has changed
unfoldable pub round_typed : Session → Session
round_typed s =
    let a = round_answer s.floor in
    cond (a.refusal == 0) (report_told (moved s a) a.report) s
