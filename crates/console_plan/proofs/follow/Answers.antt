use Rattle.console_plan.proofs.Lines.{plan_followed}
use borrow.Author.Rules.{rules}
use Rattle.console_plan.proofs.follow.Goals as goal

pub returns : goal.returns
returns g c = search (plan_followed, rules)
