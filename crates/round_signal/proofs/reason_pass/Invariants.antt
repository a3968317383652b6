use Rattle.round_signal.proofs.Loops.{Reasoned}
use Rattle.round_signal.proofs.reason_pass.Given as goal

abbrev pub invariant-loop-i : goal.invariant-loop-i
invariant-loop-i l = Reasoned l.s l.tiles l.turns l.lacks l.reasons l.missing l.i
