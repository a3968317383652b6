-- A round that is typed: refused, and accepted.
use Rattle.std.proofs.Common.{◌≡◌, ℕ, ◌+◌, ◌%◌, ◌^◌, false, ◌≢◌, sym, ap, ◌∙◌, eq-eqb, ne_eqb}
use Rattle.laws.proofs.Tests.{pick_yes}
use Rattle.floor.specs.declared.Rounded.{Rounded}
use Rattle.floor.specs.Calls.{round_answer}
use Rattle.console_throughput.specs.declared.Followed.{Followed}
use Rattle.console_throughput.specs.Follow.{followed_by}
use Rattle.console_session.specs.declared.Session.{Session}
use Rattle.console_rounds.specs.declared.Stepped.{Stepped}
use Rattle.console_rounds.specs.Typed.{moved, stepped_by, report_told, round_typed}

pub step_refused : (s : Session) (a b : Rounded) → a ≡ b → a.refusal ≢ 0 → record { session = s; report = a.report; refusal = a.refusal; closed = false } ≡ stepped_by s b
unfolding stepped_by
step_refused s a b e n = rw (sym e, ne_eqb a.refusal 0 n)

pub step_accepted : (s : Session) (a b : Rounded) (t : Followed) (k : ℕ) → a ≡ b → a.refusal ≡ 0 → t ≡ followed_by s.records a.report.deliveries → k ≡ (s.rounds + 1) % 2 ^ 64 → record { session = record { floor = a.floor; plan = s.plan; records = t.records; reasons = a.report.reasons; missing = a.report.missing; entries = s.entries; lines = s.lines; rounds = k; made = s.made; going = s.going }; report = a.report; refusal = 0; closed = t.closed } ≡ stepped_by s b
unfolding stepped_by moved
step_accepted s a b t k e n q h = rw (sym e, n, sym q, sym h)

stays : (s : Session) (a : Rounded) → a.refusal ≢ 0 → (stepped_by s a).session ≡ s
unfolding stepped_by
stays s a n = rw (ne_eqb a.refusal 0 n)

goes : (s : Session) (a : Rounded) → a.refusal ≡ 0 → (stepped_by s a).session ≡ moved s a
unfolding stepped_by
goes s a n = rw n

refusal_is : (s : Session) (a : Rounded) (d : Stepped) → d ≡ stepped_by s a → d.refusal ≡ a.refusal
unfolding stepped_by
refusal_is s a d e = ap (λ (x : Stepped). x.refusal) e

report_is : (s : Session) (a : Rounded) (d : Stepped) → d ≡ stepped_by s a → d.report ≡ a.report
unfolding stepped_by
report_is s a d e = ap (λ (x : Stepped). x.report) e

pub round_refused : (s r : Session) (d : Stepped) → d ≡ stepped_by s (round_answer s.floor) → d.refusal ≢ 0 → r ≡ d.session → r ≡ round_typed s
unfolding round_typed
round_refused s r d e n p =
    let a = round_answer s.floor in
    let m : a.refusal ≢ 0 = λ z. n (refusal_is s a d e ∙ z) in
    rw (ne_eqb a.refusal 0 m) (p ∙ (ap (λ (x : Stepped). x.session) e ∙ stays s a m))

pub round_accepted : (s r : Session) (d : Stepped) → d ≡ stepped_by s (round_answer s.floor) → d.refusal ≡ 0 → r ≡ report_told d.session d.report → r ≡ round_typed s
unfolding round_typed
round_accepted s r d e n p =
    let a = round_answer s.floor in
    let m : a.refusal ≡ 0 = sym (refusal_is s a d e) ∙ n in
    let there : d.session ≡ moved s a = ap (λ (x : Stepped). x.session) e ∙ goes s a m in
    p ∙ (λ i. report_told (there i) (report_is s a d e i)) ∙ pick_yes (report_told (moved s a) a.report) s (eq-eqb a.refusal 0 m)
