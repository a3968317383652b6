use Rattle.std.proofs.Common.{rules}
use Rattle.console_words.proofs.Text.{next_word, last_word}
use Rattle.console_words.proofs.nth.Goals as goal

pub loop-preserved : goal.loop-preserved
loop-preserved c = search (next_word, rules)

pub returns : goal.returns
returns c = search (last_word, rules)
