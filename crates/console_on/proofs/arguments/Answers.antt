use Rattle.console_on.specs.Typed.{arguments_on}
use Rattle.console_on.proofs.arguments.Goals as goal

pub returns : goal.returns
unfolding arguments_on
returns c = c.last_numbers.ensures
