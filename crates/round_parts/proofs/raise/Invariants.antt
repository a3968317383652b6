use Prim.Native.Nat.{◌+◌}
use mathlib.Core.Path.{◌≡◌}
use lib.ListN.{length, get_or}
use Rattle.laws.specs.InternalFilled.{Upto}
use Rattle.floor.specs.Calls.{no_delivery}
use Rattle.round_parts.proofs.raise.Given as goal

abbrev pub invariant-loop-k : goal.invariant-loop-k
invariant-loop-k l = (length l.delivered ≡ 4) × Upto l.k (λ j. get_or l.c.delivered j 0 + (get_or l.d j no_delivery).count) 0 l.delivered
