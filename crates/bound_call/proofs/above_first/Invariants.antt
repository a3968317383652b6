use Rattle.std.proofs.Common.{◌≡◌}
use Rattle.floor.specs.Layouts.{set_below}
use Rattle.bound_call.specs.Sets.{above_first}
use Rattle.bound_call.proofs.above_first.Given as goal

abbrev pub invariant-loop-t : goal.invariant-loop-t
invariant-loop-t l = l.set ≡ set_below (above_first l.s.rows) l.t
