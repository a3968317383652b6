use Rattle.console_throughput.proofs.fed.Goals as goal

pub returns : goal.returns
returns c = rw (c.feed_values-told.ensures, c.from.ensures)
