use Rattle.std.proofs.Common.{sym, ap}
use lib.Ieee.{of_bits}
use Rattle.throughput.specs.Window.{values_by, values_of}
use Rattle.throughput.proofs.values_of.Goals as goal

pub returns-in-Open : goal.returns-in-Open
unfolding values_of of_bits
returns-in-Open c = ap (values_by c.args.feeding.throughput) (sym c.in-Open.is)

pub returns-in-Closed : goal.returns-in-Closed
unfolding values_of of_bits
returns-in-Closed c = ap (values_by c.args.feeding.throughput) (sym c.in-Closed.is)

pub returns-in-Refused : goal.returns-in-Refused
unfolding values_of of_bits
returns-in-Refused c = ap (values_by c.args.feeding.throughput) (sym c.in-Refused.is)
