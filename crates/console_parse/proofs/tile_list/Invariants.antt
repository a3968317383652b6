use Prim.Native.Nat.{◌-◌}
use lib.ListN.{length}
use Rattle.console_parse.proofs.Loops.{TilesRead}
use Rattle.console_parse.proofs.tile_list.Given as goal

abbrev pub invariant-loop-t : goal.invariant-loop-t
invariant-loop-t l = TilesRead l.word l.set l.at

abbrev pub decreases-loop-t : goal.decreases-loop-t
decreases-loop-t l = length l.word - l.at
