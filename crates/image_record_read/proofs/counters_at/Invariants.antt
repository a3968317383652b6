use Rattle.image_record_read.proofs.Loops.{CountersRead}
use Rattle.image_record_read.proofs.counters_at.Given as goal

abbrev pub invariant-loop-k : goal.invariant-loop-k
invariant-loop-k l = CountersRead l.s l.at l.h l.k-end l.delivered l.k
