use mathlib.Core.Path.{◌∙◌}
use Rattle.check_places.proofs.Pairs.{in_order_made}
use Rattle.check_places.proofs.pairs_ok.Goals as goal

pub returns-in-Ok : goal.returns-in-Ok
returns-in-Ok c = let d = c.in-Ok.ensures in in_order_made c.args.s c.args.members.now c.in-Ok.d (d.1 ∙ c.spacing.ensures) c.numbers_rise.ensures c.all_apart.ensures
