use mathlib.Core.Path.{refl, ap}
use mathlib.Core.List.{List}
use Prim.Native.Nat.{ℕ}
use native.Mathlib.Omega.{arith}
use lib.ListN.{get_or, length-set}
use Rattle.laws.proofs.Tables.{upto_turn, filled}
use Rattle.floor.specs.Memory.{zero_canister}
use Rattle.round_parts.proofs.delivery.Goals as goal

pub loop-k-init : goal.loop-k-init
loop-k-init c = (refl, λ i h. absurd (omega arith))

pub loop-k-preserved : goal.loop-k-preserved
loop-k-preserved c =
    let l = c.loop-k in
    let m = c.args.m in
    (simp length-set l.invariant.0, upto_turn l.k (λ j. (get_or m.items j zero_canister).number) 0 l.numbers (get_or m.items l.k zero_canister).number (omega arith) l.invariant.1 refl)

pub returns : goal.returns
returns c =
    let l = c.loop-k in
    let m = c.args.m in
    ap (λ (x : List ℕ). record { numbers = x; count = m.count }) (filled 4 (λ j. (get_or m.items j zero_canister).number) 0 l.numbers l.invariant.0 (λ i h. l.invariant.1 i (omega arith)))
