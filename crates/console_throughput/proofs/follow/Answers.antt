use Rattle.console_throughput.proofs.Feeding.{fed_four}
use Rattle.console_throughput.proofs.follow.Goals as goal

pub returns : goal.returns
returns c = rw (c.feed_values-told.ensures, c.from.ensures, c.fed-second.ensures, c.fed-third.ensures, c.fed-fourth.ensures) (fed_four c.args.records c.args.deliveries c.well_formed.0.1.0.1 c.well_formed.1.0.1.0.1)
