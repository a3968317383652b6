use Rattle.check_places.proofs.Loops.{Paired, PairedWith}
use Rattle.check_places.proofs.few_ok.Given as goal

abbrev pub invariant-loop-x : goal.invariant-loop-x
invariant-loop-x l = PairedWith l.s l.members l.j l.y l.ok l.x-index

abbrev pub invariant-loop-j : goal.invariant-loop-j
invariant-loop-j l = Paired l.s l.members l.ok l.j
