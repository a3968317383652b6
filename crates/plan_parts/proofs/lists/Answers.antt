use Rattle.std.proofs.Common.{◌∙◌}
use Rattle.plan_parts.proofs.Chains.{contains_chain}
use Rattle.plan_parts.proofs.lists.Goals as goal

pub returns : goal.returns
returns c = c.contains.ensures.value ∙ contains_chain c.args.number c.args.numbers.now
