use Rattle.std.proofs.Common.{rules}
use Rattle.console_words.proofs.Text.{number_none, number_start, number_turn, number_low, number_high, number_over, number_whole}
use Rattle.console_words.proofs.number.Goals as goal
use Rattle.console_words.proofs.number.Goals.{then-b-lt48-via-then-b-lt48, then-b-lt48-via-else-b-lt48+then-b-gt57}

pub returns-then-is_empty : goal.returns-then-is_empty
returns-then-is_empty c = search (number_none, rules)

pub loop-b-init : goal.loop-b-init
loop-b-init c = search (number_start, rules)

pub returns-then-b-lt48 : goal.returns-then-b-lt48
returns-then-b-lt48 c = elim c.then-b-lt48.branch [ then-b-lt48-via-then-b-lt48 w ↦ search (number_low, rules) | then-b-lt48-via-else-b-lt48+then-b-gt57 w ↦ search (number_high, rules) ]

pub returns-then-from-n : goal.returns-then-from-n
returns-then-from-n c = search (number_over, rules)

pub loop-b-preserved : goal.loop-b-preserved
loop-b-preserved c = search (number_turn, rules)

pub returns : goal.returns
returns c = search (number_whole, rules)
