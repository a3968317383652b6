use Rattle.std.proofs.Common.{rules}
use Rattle.laws.specs.Define.{any_of}
use Rattle.plan.specs.Entries.{reported}
use Rattle.plan_parts.proofs.Changed.{reported_code}
use Rattle.plan_parts.proofs.plan_reported.Goals as goal

pub returns : goal.returns
unfolding reported any_of
returns c = c.changed_by.ensures (reported c.args.numbers.now) (λ e r k. search (rules, reported_code))
