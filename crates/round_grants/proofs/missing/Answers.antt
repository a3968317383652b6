use borrow.Author.Rules.{rules}
use Rattle.round_grants.proofs.SignalLaws.{missing_zero, missing_step}
use Rattle.round_grants.proofs.missing.Goals as goal

pub loop-c-init : goal.loop-c-init
loop-c-init c = missing_zero c.args.s c.args.side.code

pub loop-c-preserved : goal.loop-c-preserved
loop-c-preserved c = search (missing_step, rules)
