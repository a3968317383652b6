use lib.Ieee.{div}
use Rattle.throughput.specs.Rate.{rate_of}
use Rattle.std.proofs.Common.{rules}
use Rattle.throughput.proofs.rate.Goals as goal

pub returns : goal.returns
unfolding div rate_of
returns c = search rules
