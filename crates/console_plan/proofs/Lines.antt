-- A plan's typed calls: refused, accepted, and lines that can't be read.
use mathlib.Core.Path.{◌≡◌, sym, ap, ◌∙◌}
use mathlib.Core.Logic.{◌≢◌}
use mathlib.Core.Bool.{Bool, true, false, not, ◌&&◌}
use mathlib.Core.List.{List}
use Prim.Native.Nat.{ℕ, ◌<◌, ◌≤◌, ◌+◌, min}
use native.Mathlib.Omega.{arith}
use lib.Dec.{eqb}
use lib.ListN.{get_or, set}
use borrow.Author.Tests.{ne_eqb, lt-ltb, le-ltb}
use Rattle.laws.proofs.Tests.{pick_yes, pick_no}
use Rattle.plan.specs.declared.Entry.{Entry}
use Rattle.plan.specs.declared.Plan.{Plan}
use Rattle.plan.specs.declared.Offered.{Offered}
use Rattle.plan.specs.declared.Planned.{Planned}
use Rattle.plan.specs.declared.Released.{Released}
use Rattle.plan.specs.Plans.{offer_answer, release_answer}
use Rattle.std.proofs.Common.{Option, None, Some}
use Rattle.console_parse.specs.Line.{ends_by, arguments_of}
use Rattle.console_session.specs.declared.Session.{Session}
use Rattle.console_session.specs.Sessions.{no_plan, with_floor, with_plan}
use Rattle.console_plan.specs.Typed.{plan_with, added, entry_numbers, entry_typed, after_release, release_typed}

pub plan_begun : (s r : Session) (p : Plan) → p ≡ no_plan → r ≡ with_plan s p → r ≡ with_plan s no_plan
plan_begun s r p e q = rw (sym e) q

pub plan_followed : (s r : Session) (a b : Planned) → a ≡ b → r ≡ with_plan s a.plan → r ≡ with_plan s b.plan
plan_followed s r a b e q = rw (sym e) q

pub entry_room : (p : Plan) (e : Entry) → p.count < 64 → record { entries = set p.entries p.count e; count = p.count + 1 } ≡ plan_with p e
unfolding plan_with
entry_room p e h = rw (lt-ltb p.count 64 h)

pub entry_full : (p : Plan) (e : Entry) → 64 ≤ p.count → p ≡ plan_with p e
unfolding plan_with
entry_full p e h = rw (le-ltb p.count 64 h)

pub add_full : (s r : Session) (e : Entry) → 63 < s.plan.count → r ≡ s → r ≡ added s e
unfolding added
add_full s r e h p = rw (le-ltb s.plan.count 64 (omega (arith, h))) p

pub add_refused : (s r : Session) (e : Entry) (q : Plan) (a : Offered) → s.plan.count ≤ 63 → q ≡ plan_with s.plan e → a ≡ offer_answer q → a.refusal ≢ 0 → r ≡ s → r ≡ added s e
unfolding added
add_refused s r e q a h f g n p = rw (lt-ltb s.plan.count 64 (omega (arith, h)), sym f, sym g, ne_eqb a.refusal 0 n) p

pub add_accepted : (s r : Session) (e : Entry) (q : Plan) (a : Offered) → s.plan.count ≤ 63 → q ≡ plan_with s.plan e → a ≡ offer_answer q → a.refusal ≡ 0 → r ≡ with_plan s q → r ≡ added s e
unfolding added
add_accepted s r e q a h f g n p = rw (lt-ltb s.plan.count 64 (omega (arith, h)), sym f, sym g, n) p

pub entry_unread : (s r : Session) (line : List ℕ) (k : ℕ) → k ≡ entry_numbers line → None ≡ arguments_of line k → r ≡ s → r ≡ entry_typed s line
unfolding entry_typed
entry_unread s r line k e f p = rw (sym e, sym f) p

pub entry_read : (s r : Session) (line : List ℕ) (k : ℕ) (n : List ℕ) (x y z : ℕ) → k ≡ entry_numbers line → Some n ≡ arguments_of line k → x ≡ min (get_or n 0 0) 255 → y ≡ min (get_or n 2 0) 255 → z ≡ min (get_or n 3 0) 255 → r ≡ added s (record { tile = get_or n 1 0; number = 0; label = x; first = y; second = z; stage = 0 }) → r ≡ entry_typed s line
unfolding entry_typed
entry_read s r line k n x y z e f u v w p = rw (sym e, sym f, sym u, sym v, sym w) p

pub release_unread : (s r : Session) (line : List ℕ) → None ≡ arguments_of line 1 → r ≡ s → r ≡ release_typed s line
unfolding release_typed
release_unread s r line e p = rw (sym e) p

pub release_floorless : (s r : Session) (line n : List ℕ) → Some n ≡ arguments_of line 1 → s.made ≡ false → r ≡ s → r ≡ release_typed s line
unfolding release_typed after_release
release_floorless s r line n e h p =
    let a = release_answer s.plan s.floor (get_or n 0 0) in
    let off : (s.made && eqb a.refusal 0) ≡ false = rw h in
    rw (sym e) (p ∙ pick_no (with_plan (with_floor s a.floor) a.plan) s off)

pub release_refused : (s r : Session) (line n : List ℕ) (a : Released) → Some n ≡ arguments_of line 1 → s.made ≡ true → a ≡ release_answer s.plan s.floor (get_or n 0 0) → a.refusal ≢ 0 → r ≡ s → r ≡ release_typed s line
unfolding release_typed after_release
release_refused s r line n a e h f z p =
    let off : (s.made && eqb a.refusal 0) ≡ false = rw (h, ne_eqb a.refusal 0 z) in
    rw (sym e, sym f) (p ∙ pick_no (with_plan (with_floor s a.floor) a.plan) s off)

pub release_accepted : (s t r : Session) (line n : List ℕ) (a : Released) → Some n ≡ arguments_of line 1 → s.made ≡ true → a ≡ release_answer s.plan s.floor (get_or n 0 0) → a.refusal ≡ 0 → t ≡ with_floor s a.floor → r ≡ with_plan t a.plan → r ≡ release_typed s line
unfolding release_typed after_release
release_accepted s t r line n a e h f z q p =
    let both : (s.made && eqb a.refusal 0) ≡ true = rw (h, z) in
    rw (sym e, sym f) (p ∙ ap (λ (x : Session). with_plan x a.plan) q ∙ pick_yes (with_plan (with_floor s a.floor) a.plan) s both)

pub numbers_two : (line : List ℕ) (b : Bool) → b ≡ ends_by 3 line → b ≡ true → 2 ≡ entry_numbers line
unfolding entry_numbers
numbers_two line b e g = rw (sym e, g)

pub numbers_three : (line : List ℕ) (b d : Bool) → b ≡ ends_by 3 line → b ≡ false → d ≡ ends_by 4 line → d ≡ true → 3 ≡ entry_numbers line
unfolding entry_numbers
numbers_three line b d e g f h = rw (sym e, g, sym f, h)

pub numbers_four : (line : List ℕ) (b d : Bool) → b ≡ ends_by 3 line → b ≡ false → d ≡ ends_by 4 line → d ≡ false → 4 ≡ entry_numbers line
unfolding entry_numbers
numbers_four line b d e g f h = rw (sym e, g, sym f, h)
