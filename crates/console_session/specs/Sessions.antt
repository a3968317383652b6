-- What is kept between two typed lines, and what the commands share: a refused call changes nothing.
use Rattle.std.specs.Prelude.{Bool, true, false, cond, List, ℕ, eqb, replicate}
use Rattle.floor.specs.declared.Floor.{Floor}
use Rattle.floor.specs.Memory.{zero_floor}
use Rattle.plan.specs.declared.Plan.{Plan}
use Rattle.throughput.specs.declared.Throughput.{Throughput}
use Rattle.throughput.specs.Lists.{zero_throughput}
use Rattle.console_list.specs.declared.Entries.{Entries}
use Rattle.console_list.specs.Entries.{no_entries}
use Rattle.console_session.specs.declared.Session.{Session}

-- a plan without entries
abbrev pub no_plan : Plan
no_plan = record { entries = replicate 64 (record { tile = 0; number = 0; label = 0; first = 0; second = 0; stage = 0 }); count = 0 }

-- no window has closed, and none is open, at each of four hoppers
abbrev pub no_records : List Throughput
no_records = replicate 4 zero_throughput

-- before the first line: no floor, no plan, nothing read
abbrev pub start_session : Session
start_session =
    record { floor = zero_floor; plan = no_plan; records = no_records; reasons = replicate 64 0; missing = replicate 64 0; entries = no_entries false; lines = 0; rounds = 0; made = false; going = true }

-- s with these parts; how many lines were read, and what the last report says of each tile, as they were
abbrev pub with_parts : Session → Floor → Plan → List Throughput → Entries → ℕ → Bool → Bool → Session
with_parts s f p records e rounds made going =
    record { floor = f; plan = p; records = records; reasons = s.reasons; missing = s.missing; entries = e; lines = s.lines; rounds = rounds; made = made; going = going }

-- with one part changed: the floor, the plan, the list that is typed
abbrev pub with_floor : Session → Floor → Session
with_floor s f = with_parts s f s.plan s.records s.entries s.rounds s.made s.going

abbrev pub with_plan : Session → Plan → Session
with_plan s p = with_parts s s.floor p s.records s.entries s.rounds s.made s.going

abbrev pub with_entries : Session → Entries → Session
with_entries s e = with_parts s s.floor s.plan s.records e s.rounds s.made s.going

-- ended with this line
abbrev pub ended_with : Session → Session
ended_with s = with_parts s s.floor s.plan s.records s.entries s.rounds s.made false

-- with another floor, whose throughput and plan begin anew; without a floor
abbrev pub begun_with : Session → Floor → Session
begun_with s f = with_parts s f no_plan no_records s.entries 0 true s.going

abbrev pub floorless : Session → Session
floorless s = with_parts s zero_floor no_plan no_records s.entries 0 false s.going

-- after a call that is refused by n, or gives the floor f: "the same floor" where it is refused, and nothing else changed
unfoldable pub after_call : Session → ℕ → Floor → Session
after_call s n f = cond (eqb n 0) (with_floor s f) s
