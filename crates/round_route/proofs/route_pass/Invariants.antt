use Rattle.round_route.specs.InternalRouted.{routed_at, Redone}
use Rattle.round_route.proofs.route_pass.Given as goal

abbrev pub invariant-loop-t : goal.invariant-loop-t
invariant-loop-t l = Redone l.t (routed_at l.s l.tiles) l.tiles l.out
