use Rattle.floor.proofs.SideTables.{in_set_lem}
use Rattle.floor.proofs.Side.among.Goals as goal

pub returns : goal.returns
returns c = let s = c in in_set_lem s.args.self.code s.args.set s.requires.0 s.requires.1
