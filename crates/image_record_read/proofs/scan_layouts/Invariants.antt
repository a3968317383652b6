use Rattle.image_record_read.proofs.Loops.{LayoutsScanned}
use Rattle.image_record_read.proofs.scan_layouts.Given as goal

abbrev pub invariant-loop-n : goal.invariant-loop-n
invariant-loop-n l = LayoutsScanned l.s l.from l.layouts l.at l.n
