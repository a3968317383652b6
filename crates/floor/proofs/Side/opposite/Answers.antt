use native.Mathlib.Omega.{arith}
use Rattle.floor.proofs.GridBranches.{opposite_of, no_opposite}
use Rattle.floor.proofs.Side.opposite.Goals as goal

pub returns-in-1-to-4 : goal.returns-in-1-to-4
returns-in-1-to-4 c = opposite_of c.args.self.code (omega arith) (omega arith)

pub returns-in_default : goal.returns-in_default
returns-in_default c = no_opposite c.args.self.code (λ h k. omega arith)

pub returns-in_default-2 : goal.returns-in_default-2
returns-in_default-2 c = no_opposite c.args.self.code (λ h k. omega arith)
