use Rattle.console_words.proofs.Text.{word_split}
use Rattle.console_words.proofs.split_word.Goals as goal

pub returns : goal.returns
returns c = word_split _ _ _ _ c.word_length.ensures c.split_at.ensures.front c.split_at.ensures.back
