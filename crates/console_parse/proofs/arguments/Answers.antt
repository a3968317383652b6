use Rattle.console_parse.specs.Line.{arguments_of}
use Rattle.console_parse.proofs.arguments.Goals as goal

pub returns : goal.returns
unfolding arguments_of
returns c = c.last_numbers.ensures
