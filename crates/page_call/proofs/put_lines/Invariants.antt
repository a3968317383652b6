use Rattle.page_call.proofs.Loops.{LinesPut}
use Rattle.page_call.proofs.put_lines.Given as goal

abbrev pub invariant-loop-k : goal.invariant-loop-k
invariant-loop-k l = LinesPut l.initial.s l.tiles l.w l.h l.s l.k
