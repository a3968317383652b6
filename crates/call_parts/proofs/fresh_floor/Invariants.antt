use Rattle.call_parts.proofs.Loops.{Freshened}
use Rattle.call_parts.proofs.fresh_floor.Given as goal

abbrev pub invariant-loop-t : goal.invariant-loop-t
invariant-loop-t l = Freshened l.s l.all l.tiles l.t
