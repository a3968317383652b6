use Rattle.std.proofs.Common.{rules}
use Rattle.console_parse.proofs.Line.{word_ended}
use Rattle.console_parse.proofs.ended.Goals as goal

pub returns : goal.returns
returns c = search (word_ended, rules)
