use mathlib.Core.Path.{◌≡◌}
use lib.ListN.{length, get_or}
use Rattle.laws.specs.InternalFilled.{Upto}
use Rattle.floor.specs.Memory.{zero_canister}
use Rattle.round_parts.proofs.delivery.Given as goal

abbrev pub invariant-loop-k : goal.invariant-loop-k
invariant-loop-k l = (length l.numbers ≡ 4) × Upto l.k (λ j. (get_or l.m.items j zero_canister).number) 0 l.numbers
