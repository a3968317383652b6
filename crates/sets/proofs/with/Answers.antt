use Rattle.laws.proofs.Bits.{one_shl, with_bit}
use Rattle.sets.proofs.with.Goals as goal

pub returns : goal.returns
returns c = λ k. rw (one_shl c.args.t c.requires) (with_bit c.args.s c.args.t k)
