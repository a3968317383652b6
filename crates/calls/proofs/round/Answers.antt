use mathlib.Core.Path.{sym, ◌∙◌}
use Rattle.floor.specs.Calls.{zero_report}
use Rattle.calls.proofs.Answers.{round_refused}
use Rattle.calls.proofs.round.Goals as goal

pub returns-then-not-well_formed : goal.returns-then-not-well_formed
unfolding zero_report
returns-then-not-well_formed c = rw c.from.ensures (round_refused c.args.floor (sym c.well_formed-2.ensures ∙ c.if-not-well_formed.true))
