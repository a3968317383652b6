use Rattle.image_record_write.proofs.Loops.{CountsPut}
use Rattle.image_record_write.proofs.put_counters.Given as goal

abbrev pub invariant-loop-k : goal.invariant-loop-k
invariant-loop-k l = CountsPut l.initial.s l.at l.fn.x.delivered l.h l.s l.k
