use Rattle.std.proofs.Common.{ap, ◌∙◌}
use Rattle.throughput.specs.Window.{values_of, feed_values}
use Rattle.throughput.proofs.feed_values.Goals as goal

pub returns : goal.returns
unfolding feed_values
returns c = c.values_of.ensures ∙ ap values_of c.feed.ensures
