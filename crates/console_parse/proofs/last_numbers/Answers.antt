use Rattle.std.proofs.Common.{rules}
use Rattle.console_parse.proofs.Line.{only_ended, only_read}
use Rattle.console_parse.proofs.last_numbers.Goals as goal

pub returns-then-not-ended : goal.returns-then-not-ended
returns-then-not-ended c = search (only_ended, rules)

pub returns : goal.returns
returns c = search (only_read, rules)
