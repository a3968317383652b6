use Rattle.std.proofs.Common.{◌≡◌}
use Rattle.plan.specs.declared.Entry.{Entry}
use Rattle.plan_parts.proofs.Changed.{map_upto}
use Rattle.plan_parts.proofs.changed_by.Given as goal

abbrev pub invariant-loop-e : goal.invariant-loop-e
invariant-loop-e g l = (h : Entry → Entry) → ((e r : Entry) → goal.F-post g l.change e r → r ≡ h e) → l.e-items ≡ map_upto l.e-index h l.initial.e-items
