use Prim.Native.Nat.{◌+◌}
use mathlib.Core.Path.{refl, ap, ◌∙◌}
use native.Mathlib.Omega.{arith}
use lib.ListN.{get_or, length-set}
use Rattle.laws.proofs.Lists.{get_same}
use Rattle.laws.proofs.Tables.{upto_turn, filled}
use Rattle.floor.specs.declared.Delivery.{Delivery}
use Rattle.floor.specs.Move.{with_delivered}
use Rattle.floor.specs.Calls.{no_delivery}
use Rattle.round_parts.proofs.Delivered.{beyond}
use Rattle.round_parts.proofs.raise.Goals as goal

pub loop-k-init : goal.loop-k-init
loop-k-init c = (refl, λ i h. absurd (omega arith))

pub loop-k-preserved : goal.loop-k-preserved
loop-k-preserved c =
    let l = c.loop-k in
    let g = c.args in (
      simp length-set l.invariant.0,
      upto_turn l.k (λ j. get_or g.c.delivered j 0 + (get_or g.d.now j no_delivery).count) 0 l.delivered _ (omega arith) l.invariant.1
          (ap (λ n. get_or g.c.delivered l.k 0 + n) (c.from.ensures ∙ ap (λ (x : Delivery). x.count) (get_same g.d.now l.k beyond no_delivery (omega arith)))),
    )

pub returns : goal.returns
returns c =
    let l = c.loop-k in
    let g = c.args in
    ap (with_delivered g.c) (filled 4 (λ j. get_or g.c.delivered j 0 + (get_or g.d.now j no_delivery).count) 0 l.delivered l.invariant.0 (λ i h. l.invariant.1 i (omega arith)))
