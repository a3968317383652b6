use Rattle.plan_parts.proofs.Changed.{listed_yes, listed_no}
use Rattle.plan_parts.proofs.entry_reported.Goals as goal

pub returns-then-is_booked-listed : goal.returns-then-is_booked-listed
returns-then-is_booked-listed c = listed_yes c.args.e c.is_booked.result c.args.listed c.is_booked.ensures c.if-is_booked-listed.true

pub returns : goal.returns
returns c = listed_no c.args.e c.is_booked.result c.args.listed c.is_booked.ensures c.if-is_booked-listed.false
