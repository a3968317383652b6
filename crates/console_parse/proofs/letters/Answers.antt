use Rattle.std.proofs.Common.{rules}
use Rattle.console_parse.proofs.Line.{name_long, name_copied}
use Rattle.console_parse.proofs.letters.Goals as goal

pub returns-then-word-gt8 : goal.returns-then-word-gt8
returns-then-word-gt8 c = name_long _ c.if-word-gt8.true

pub returns : goal.returns
returns c = search (name_copied, rules)
