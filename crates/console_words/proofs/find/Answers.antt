use Rattle.console_words.proofs.Text.{found}
use Rattle.console_words.proofs.find.Goals as goal

pub returns-clause-by_index : goal.returns-clause-by_index
returns-clause-by_index c = (found _ _ _ _ c.requires c.before-2.ensures).1

pub returns-clause-result_value : goal.returns-clause-result_value
returns-clause-result_value c = (found _ _ _ _ c.requires c.before-2.ensures).2
