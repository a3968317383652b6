use Rattle.console_words.proofs.Text.{blanks_skipped}
use Rattle.console_words.proofs.skip_blanks.Goals as goal

pub returns : goal.returns
returns c = blanks_skipped _ _ _ c.requires c.blanks.ensures
