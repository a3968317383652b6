use mathlib.Core.Path.{◌≡◌}
use lib.ListN.{length}
use Rattle.laws.specs.InternalFilled.{Upto}
use Rattle.round_route.specs.InternalRouted.{within, distance_in}
use Rattle.round_route.proofs.distances.Given as goal

abbrev pub invariant-loop-t : goal.invariant-loop-t
invariant-loop-t l = (length l.d ≡ 65) × Upto 65 (within l.t (distance_in l.tiles) 255) 0 l.d
