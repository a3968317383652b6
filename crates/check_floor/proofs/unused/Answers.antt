use mathlib.Core.Path.{sym}
use native.Mathlib.Omega.{arith}
use Rattle.laws.proofs.Tables.{all_zero, all_step}
use Rattle.floor.specs.Memory.{zero_canister, is_zero_canister}
use Rattle.check_floor.proofs.unused.Goals as goal

pub loop-c-init : goal.loop-c-init
loop-c-init c = sym (all_zero is_zero_canister c.args.places.now)

pub loop-c-preserved : goal.loop-c-preserved
loop-c-preserved c = all_step is_zero_canister c.args.places.now c.loop-c.c-index zero_canister (omega arith) c.loop-c.invariant c.is_zero_canister-ok.ensures
