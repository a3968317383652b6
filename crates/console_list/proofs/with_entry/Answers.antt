use Rattle.std.proofs.Common.{arith, le-ltb, lt-ltb}
use Rattle.console_list.specs.Entries.{with_entry}
use Rattle.console_list.proofs.with_entry.Goals as goal

pub returns-then-k-lt64 : goal.returns-then-k-lt64
unfolding with_entry
returns-then-k-lt64 c = rw (lt-ltb c.args.e.count 64 (omega arith))

pub returns-else-k-lt64 : goal.returns-else-k-lt64
unfolding with_entry
returns-else-k-lt64 c = rw (le-ltb c.args.e.count 64 (omega arith))
