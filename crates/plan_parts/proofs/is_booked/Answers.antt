use Rattle.std.proofs.Common.{◌∙◌, ℕ, [], ◌∷◌, sym, ap}
use Rattle.plan.proofs.Stages.{booked_number_lem}
use Rattle.plan.specs.Entries.{number_in}
use Rattle.plan_parts.proofs.is_booked.Goals as goal

pub returns-in-Booked : goal.returns-in-Booked
returns-in-Booked c = ap (λ (n : ℕ). n ∷ []) (booked_number_lem c.args.e _ (sym c.in-Booked.ensures)) ∙ ap number_in c.in-Booked.ensures
