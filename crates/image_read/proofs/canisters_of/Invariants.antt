use Rattle.image_read.proofs.Loops.{TilesPlaced, CanistersPlaced}
use Rattle.image_read.proofs.canisters_of.Given as goal

abbrev pub invariant-loop-j : goal.invariant-loop-j
invariant-loop-j l = CanistersPlaced l.s l.starts l.c l.t l.at l.n l.out l.j

abbrev pub invariant-loop-t : goal.invariant-loop-t
invariant-loop-t l = TilesPlaced l.s l.starts l.c l.out l.t
