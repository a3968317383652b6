use Rattle.check_settings.proofs.Groups.{rules_are}
use borrow.Author.Rules.{rules}
use Rattle.check_settings.proofs.rules_wrong.Goals as goal

pub returns : goal.returns
returns c = search (rules_are, rules)
