use Rattle.laws.proofs.Bits.{test_bit}
use Rattle.sets.proofs.has.Goals as goal

pub returns : goal.returns
returns c = test_bit c.args.s c.args.t
