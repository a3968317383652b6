use Rattle.page_call.proofs.Loops.{CellsPut}
use Rattle.page_call.proofs.put_cells.Given as goal

abbrev pub invariant-loop-k : goal.invariant-loop-k
invariant-loop-k l = CellsPut l.initial.s l.at l.w l.h l.r l.tiles l.s l.k
