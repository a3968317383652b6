use Rattle.std.proofs.Common.{rules, arith}
use Rattle.std.proofs.lemmas.Grind.{common_steps}
use Rattle.plan.specs.Entries.{stage_of}
use Rattle.plan.proofs.Entry.stage.Goals as goal

pub returns-in-0 : goal.returns-in-0
unfolding stage_of
returns-in-0 c = grind (arith, common_steps)

pub returns-in-2 : goal.returns-in-2
unfolding stage_of
returns-in-2 c = grind (arith, common_steps)

pub returns-in_default : goal.returns-in_default
unfolding stage_of
returns-in_default c = grind (arith, common_steps)
