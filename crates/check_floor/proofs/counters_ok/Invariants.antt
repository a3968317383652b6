use Rattle.check_floor.proofs.Counts.{Added}
use Rattle.check_floor.proofs.counters_ok.Given as goal

abbrev pub invariant-loop-k : goal.invariant-loop-k
invariant-loop-k l = Added l.h l.fn.n l.fn.c.delivered l.spare l.sum l.k
