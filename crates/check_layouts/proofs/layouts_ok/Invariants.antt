use Rattle.check_layouts.proofs.Loops.{PlacesPassed}
use Rattle.check_layouts.proofs.layouts_ok.Given as goal

abbrev pub invariant-loop-x : goal.invariant-loop-x
invariant-loop-x l = PlacesPassed l.s l.fn.layouts l.x-iterator.iter.rest.now l.above
