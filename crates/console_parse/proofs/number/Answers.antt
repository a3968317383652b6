use Rattle.std.proofs.Common.{ap, ◌∙◌}
use Rattle.console_words.specs.Text.{number_of}
use Rattle.console_parse.specs.Line.{number_at}
use Rattle.console_parse.proofs.number.Goals as goal

pub returns : goal.returns
unfolding number_at
returns c = c.number.ensures ∙ ap number_of c.nth.ensures
