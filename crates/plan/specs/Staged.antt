-- A stage as the code has it.
use Rattle.plan.specs.declared.Stage as D
use Rattle.plan.specs.declared.Stage.TheVariants as V
use Rattle.plan.specs.Entries.{Stage, waiting, booked, delivered}

abbrev pub shown : D.Stage → Stage
shown V.Waiting = waiting
shown (V.Booked n) = booked n
shown V.Delivered = delivered
