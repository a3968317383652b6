use native.Mathlib.Omega.{arith}
use Rattle.check_floor.proofs.Blocks.{listed}
use Rattle.check_floor.proofs.list_numbers.Goals as goal

pub loop-k-preserved : goal.loop-k-preserved
loop-k-preserved c = listed c.args.canisters.now c.loop-k.k c.loop-k.keys c.told-canisters (omega arith) c.loop-k.invariant
