use Rattle.plan_check.proofs.entry_fits.Goals as goal

pub returns : goal.returns
returns c = rw c.both-after.ensures
