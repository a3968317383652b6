use mathlib.Core.Path.{ap}
use native.Mathlib.Omega.{arith}
use Rattle.floor.specs.Numbers.{refusal_number}
use Rattle.book_anywhere.proofs.Tests.{not_34, corner_number, corner_place, none_number, found_number}
use Rattle.book_anywhere.proofs.find.Goals as goal

pub returns-in-Ok-clause-number : goal.returns-in-Ok-clause-number
returns-in-Ok-clause-number c = let g = c.args in corner_number g.s g.last g.tile g.number g.running g.own.now 0 c.in-Ok.ensures (λ e. absurd (omega arith))

pub returns-in-Ok-clause-place : goal.returns-in-Ok-clause-place
returns-in-Ok-clause-place c = let g = c.args in corner_place g.s g.last g.tile g.number g.running g.own.now 0 c.in-Ok.ensures (omega arith)

pub returns-in-Some-clause-number : goal.returns-in-Some-clause-number
returns-in-Some-clause-number c = let g = c.args in let p = c.in-Some.ensures in
    found_number g.s g.last g.tile g.number g.running g.own.now _ c.in-Err.ensures (ap refusal_number c.in-TooClose.is) (omega (arith, p.0, p.1))

pub returns-in-None-clause-number : goal.returns-in-None-clause-number
returns-in-None-clause-number c = let g = c.args in
    none_number g.s g.last g.tile g.number g.running g.own.now _ c.in-Err.ensures (ap refusal_number c.in-TooClose.is) (omega (arith, c.in-None.ensures))

pub returns-in_default : goal.returns-in_default
returns-in_default c = let g = c.args in
    record { number = corner_number g.s g.last g.tile g.number g.running g.own.now _ c.in-Err.ensures (not_34 c.in-Err.why c.in_default.not-TooClose); place = tt }
