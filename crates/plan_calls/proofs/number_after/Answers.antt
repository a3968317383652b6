use Rattle.std.proofs.Common.{arith}
use Rattle.plan_calls.proofs.Answers.{number_next}
use Rattle.plan_calls.proofs.number_after.Goals as goal

pub returns : goal.returns
returns c = number_next c.args.floor (omega arith) _ c.saturating_add.ensures
