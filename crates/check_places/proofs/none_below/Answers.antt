use mathlib.Core.Path.{refl, sym}
use native.Mathlib.Omega.{arith}
use lib.Dec.{leb}
use Rattle.std.proofs.lemmas.List.{take_all}
use Rattle.laws.proofs.Tables.{all_zero, all_step}
use Rattle.check_places.proofs.none_below.Goals as goal

pub loop-x-init : goal.loop-x-init
loop-x-init c = sym (all_zero (λ x. leb c.args.d x) c.args.least.now)

pub loop-x-preserved : goal.loop-x-preserved
loop-x-preserved c = all_step (λ x. leb c.args.d x) c.args.least.now c.loop-x.x-index 0 (omega arith) c.loop-x.invariant refl

pub returns : goal.returns
returns c = let e = take_all c.loop-x.x-index c.args.least.now (omega arith) in rw e at c.loop-x.invariant
