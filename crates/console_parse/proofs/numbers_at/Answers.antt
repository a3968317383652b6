use Rattle.std.proofs.Common.{rules}
use Rattle.console_parse.proofs.Line.{values_zero, all_zero, all_turn, values_turn, not_all, all_read}
use Rattle.console_parse.proofs.numbers_at.Goals as goal

pub loop-k-init : goal.loop-k-init
loop-k-init c = (all_zero _ _, values_zero _ _)

pub returns-in_err-all : goal.returns-in_err-all
returns-in_err-all c = search (not_all, rules)

pub loop-k-preserved : goal.loop-k-preserved
loop-k-preserved c = search (all_turn, values_turn, rules)

pub returns : goal.returns
returns c = search (all_read, rules)
