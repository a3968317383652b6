use Rattle.console_plan.proofs.Lines.{plan_begun}
use borrow.Author.Rules.{rules}
use Rattle.console_plan.proofs.plan.Goals as goal

pub returns : goal.returns
returns g c = search (plan_begun, rules)
