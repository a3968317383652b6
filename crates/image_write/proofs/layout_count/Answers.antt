use mathlib.Core.Path.{◌≡◌, ◌∙◌, sym}
use native.Mathlib.Omega.{arith}
use Rattle.image_write.proofs.ImageBytes.{used_stop, used_turn, used_all}
use Rattle.image_write.proofs.layout_count.Goals as goal

pub loop-k-init : goal.loop-k-init
loop-k-init c = record {
  below = omega arith;
  all_length = c.well_formed.0.1.0.1;
  counted = omega arith;
}

pub returns-then-x-eq0 : goal.returns-then-x-eq0
returns-then-x-eq0 c = let l = c.loop-k in (used_stop _ l.k (omega arith) l.invariant.counted c.if-x-eq0.true, l.invariant.below)

pub loop-k-preserved : goal.loop-k-preserved
loop-k-preserved c =
    let l = c.loop-k in
    record {
      below = omega arith;
      all_length = l.invariant.all_length;
      counted = used_turn _ l.k (omega arith) l.invariant.counted c.if-x-eq0.false;
    }

pub returns : goal.returns
returns c =
    let l = c.loop-k in
    let e : l.k ≡ 8 = omega (arith, l.invariant.all_length) in
    (sym e ∙ used_all _ l.k (omega arith) l.invariant.counted, omega arith)
