use Rattle.std.proofs.Common.{◌≡◌, ◌∙◌, ◌&&◌, ℕ, List, not, eqb, get_or, take, refl, sym, ap, arith}
use Rattle.std.proofs.Math.Seq.{take_all}
use Rattle.laws.specs.Define.{all_of, pairs_of}
use Rattle.laws.proofs.Tables.{pairs_zero, pairs_more, with_zero, with_step}
use Rattle.plan_check.proofs.all_differ.Goals as goal

pub loop-j-init : goal.loop-j-init
loop-j-init c = sym (pairs_zero (λ x y. not (eqb x y)) c.args.numbers.now)

pub loop-x-init : goal.loop-x-init
loop-x-init c =
    let l = c.loop-j in
    let ns = c.args.numbers.now in
    with_zero (λ x. not (eqb x (get_or ns l.j 0))) (take l.j ns) l.invariant

pub loop-x-preserved : goal.loop-x-preserved
loop-x-preserved c =
    let l = c.loop-x in
    let o = c.loop-j in
    let ns = c.args.numbers.now in
    with_step (pairs_of (λ x y. not (eqb x y)) (take o.j ns)) (λ x. not (eqb x (get_or ns o.j 0))) (take o.j ns) l.x-index 0 (omega arith) l.invariant refl

pub loop-j-preserved : goal.loop-j-preserved
loop-j-preserved c =
    let l = c.loop-x in
    let o = c.loop-j in
    let ns = c.args.numbers.now in
    let all : take l.x-index (take o.j ns) ≡ take o.j ns = take_all l.x-index (take o.j ns) (omega arith) in
    l.invariant ∙ ap (λ (xs : List ℕ). pairs_of (λ x y. not (eqb x y)) (take o.j ns) && all_of (λ x. not (eqb x (get_or ns o.j 0))) xs) all
    ∙ sym (pairs_more (λ x y. not (eqb x y)) ns o.j 0 (omega arith))
