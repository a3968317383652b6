use Rattle.console_barge.proofs.Aboard.{at_first}
use Rattle.std.proofs.Common.{rules}
use Rattle.console_barge.proofs.begin.Goals as goal

pub returns : goal.returns
returns c = search (at_first, rules)
