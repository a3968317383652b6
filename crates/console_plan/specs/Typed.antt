-- What the typed calls of a plan leave of the session.
use Rattle.std.specs.Prelude.{cond, ◌&&◌, List, ℕ, ◌+◌, min, ltb, eqb, get_or, set}
use Rattle.plan.specs.declared.Entry.{Entry}
use Rattle.plan.specs.declared.Plan.{Plan}
use Rattle.plan.specs.declared.Released.{Released}
use Rattle.plan.specs.Plans.{offer_answer, release_answer}
use Rattle.console_parse.specs.Line.{ends_by, arguments_of, read}
use Rattle.console_session.specs.declared.Session.{Session}
use Rattle.console_session.specs.Sessions.{with_floor, with_plan}

-- one more entry; with 64 as it was
unfoldable pub plan_with : Plan → Entry → Plan
plan_with p e = cond (ltb p.count 64) (record { entries = set p.entries p.count e; count = p.count + 1 }) p

-- an entry added; one with which the plan would be refused is left out, and so is a 65th
unfoldable pub added : Session → Entry → Session
added s e =
    let p = plan_with s.plan e in
    cond (ltb s.plan.count 64 && eqb (offer_answer p).refusal 0) (with_plan s p) s

-- how many numbers an entry is typed with
unfoldable pub entry_numbers : List ℕ → ℕ
entry_numbers line = cond (ends_by 3 line) 2 (cond (ends_by 4 line) 3 4)

unfoldable pub entry_typed : Session → List ℕ → Session
entry_typed s line =
    read (arguments_of line (entry_numbers line))
    (λ n. added s (record { tile = get_or n 1 0; number = 0; label = min (get_or n 0 0) 255; first = min (get_or n 2 0) 255; second = min (get_or n 3 0) 255; stage = 0 }))
    s

-- after a release: refused, or without a floor, nothing has changed
unfoldable pub after_release : Session → Released → Session
after_release s a = cond (s.made && eqb a.refusal 0) (with_plan (with_floor s a.floor) a.plan) s

unfoldable pub release_typed : Session → List ℕ → Session
release_typed s line = read (arguments_of line 1) (λ n. after_release s (release_answer s.plan s.floor (get_or n 0 0))) s
