use Rattle.check_floor.proofs.Loops.{Scanned, Seen}
use Rattle.check_floor.proofs.scan.Given as goal

abbrev pub invariant-loop-t : goal.invariant-loop-t
invariant-loop-t l = Scanned l.fn.f l.n l.t

abbrev pub invariant-loop-u : goal.invariant-loop-u
invariant-loop-u l = Seen l.fn.f l.u
