use Rattle.console_throughput.proofs.begin.Goals as goal

pub returns : goal.returns
returns c = rw c.empty-none.ensures
