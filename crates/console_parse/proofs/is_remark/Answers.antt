use Rattle.std.proofs.Common.{rules}
use Rattle.console_parse.proofs.Line.{remark_none, remark_first}
use Rattle.console_parse.proofs.is_remark.Goals as goal

pub returns-then-is_empty : goal.returns-then-is_empty
returns-then-is_empty c = search (remark_none, rules)

pub returns : goal.returns
returns c = search (remark_first, rules)
