use Rattle.std.proofs.Common.{◌≡◌, ◌&&◌, not, eqb, take}
use Rattle.laws.specs.Define.{all_of, pairs_of}
use Rattle.plan_check.proofs.all_differ.Given as goal

abbrev pub invariant-loop-x : goal.invariant-loop-x
invariant-loop-x l = l.ok ≡ (pairs_of (λ x y. not (eqb x y)) (take l.j l.numbers) && all_of (λ x. not (eqb x l.y)) (take l.x-index (take l.j l.numbers)))

abbrev pub invariant-loop-j : goal.invariant-loop-j
invariant-loop-j l = l.ok ≡ pairs_of (λ x y. not (eqb x y)) (take l.j l.numbers)
