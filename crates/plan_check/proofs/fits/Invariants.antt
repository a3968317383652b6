use Rattle.plan.specs.Entries.{present, entry_fits}
use Rattle.plan_check.proofs.Loops.{Tested}
use Rattle.plan_check.proofs.fits.Given as goal

abbrev pub invariant-loop-e : goal.invariant-loop-e
invariant-loop-e l = Tested l.entries (present l.entries) (entry_fits l.entries) l.present l.ok l.e-index
