use mathlib.Core.Path.{◌≡◌}
use lib.ListN.{take}
use Rattle.laws.specs.Define.{all_of}
use Rattle.floor.specs.Memory.{is_zero_canister}
use Rattle.check_floor.proofs.unused.Given as goal

abbrev pub invariant-loop-c : goal.invariant-loop-c
invariant-loop-c l = l.ok ≡ all_of is_zero_canister (take l.c-index l.places)
