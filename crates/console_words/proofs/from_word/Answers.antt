use Rattle.std.proofs.Common.{rules}
use Rattle.console_words.proofs.Text.{text_from_word}
use Rattle.console_words.proofs.from_word.Goals as goal

pub returns : goal.returns
returns c = search (text_from_word, rules)
