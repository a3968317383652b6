use mathlib.Core.Path.{sym, ◌∙◌}
use mathlib.Core.Bool.{◌&&◌}
use Prim.Native.Nat.{ℕ, ◌<◌}
use native.Mathlib.Omega.{arith}
use lib.ListN.{take, get_or}
use Rattle.std.proofs.lemmas.List.{take_all, get_or-take, length-take-le}
use Rattle.laws.specs.Define.{all_of, pairs_of}
use Rattle.laws.proofs.Tables.{pairs_zero, pairs_more, with_zero, with_step, ended}
use Rattle.floor.specs.Memory.{zero_canister}
use Rattle.floor.specs.Well.{in_order}
use Rattle.check_places.proofs.few_ok.Goals as goal

pub loop-j-init : goal.loop-j-init
loop-j-init c = record { below = omega arith; ordered = sym (pairs_zero (in_order c.args.s) c.args.members.now) }

pub loop-x-init : goal.loop-x-init
loop-x-init c =
    let l = c.loop-j in
    let members = c.args.members.now in
    record {
      below = omega arith;
      here = omega arith;
      ordered = with_zero (λ x. in_order c.args.s x (get_or members l.j zero_canister)) members l.invariant.ordered;
    }

pub loop-x-preserved : goal.loop-x-preserved
loop-x-preserved c =
    let l = c.loop-x in
    let j = c.loop-j.j in
    let s = c.args.s in
    let members = c.args.members.now in
    let y = get_or members j zero_canister in
    let here : l.x-index < j = omega (arith, length-take-le j members (omega arith)) in
    record {
      below = omega arith;
      here = l.invariant.here;
      ordered = with_step (pairs_of (in_order s) (take j members)) (λ x. in_order s x y) members l.x-index zero_canister (omega arith) l.invariant.ordered (rw (get_or-take j members l.x-index zero_canister here) at c.pair_ok-ok.ensures);
    }

pub loop-j-preserved : goal.loop-j-preserved
loop-j-preserved c =
    let l = c.loop-x in
    let j = c.loop-j.j in
    let s = c.args.s in
    let members = c.args.members.now in
    let y = get_or members j zero_canister in
    let e = ended (λ (i : ℕ). pairs_of (in_order s) (take j members) && all_of (λ x. in_order s x y) (take i members)) (omega (arith, length-take-le j members (omega arith))) l.invariant.below l.invariant.ordered in
    record { below = omega arith; ordered = e ∙ sym (pairs_more (in_order s) members j zero_canister (omega arith)) }

pub returns : goal.returns
returns c = let e = take_all c.loop-j.j c.args.members.now (omega arith) in rw e at c.loop-j.invariant.ordered
