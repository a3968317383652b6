use lib.Ieee.{of_bits}
use Rattle.throughput.specs.Lists.{zero_throughput}
use Rattle.std.proofs.Common.{rules}
use Rattle.throughput.proofs.empty.Goals as goal

pub returns : goal.returns
unfolding of_bits zero_throughput
returns c = search rules
