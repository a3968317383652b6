use Rattle.laws.proofs.SetBits.{minus_bit}
use Rattle.sets.proofs.minus.Goals as goal

pub returns : goal.returns
returns c = λ k. minus_bit c.args.s c.args.other k
