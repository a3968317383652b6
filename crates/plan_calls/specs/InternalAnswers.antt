-- The answers of a plan's calls, by what their parts found.
use Rattle.std.specs.Prelude.{Result, Ok, Err, ℕ}
use Rattle.floor.specs.declared.Floor.{Floor}
use Rattle.floor.specs.declared.refusal.Refusal.{Refusal}
use Rattle.floor.specs.Numbers.{refusal_number}
use Rattle.plan.specs.declared.Plan.{Plan}
use Rattle.plan.specs.declared.Offered.{Offered}
use Rattle.plan.specs.declared.Planned.{Planned}
use Rattle.plan.specs.declared.Released.{Released}

abbrev pub offer_shown : Result ℕ Refusal → Offered
offer_shown (Ok n) = record { label = n; refusal = 0 }
offer_shown (Err why) = record { label = 0; refusal = refusal_number why }

abbrev pub report_shown : Plan → Result Plan Refusal → Planned
report_shown p (Ok q) = record { plan = q; refusal = 0 }
report_shown p (Err why) = record { plan = p; refusal = refusal_number why }

abbrev pub refused_as : Plan → Floor → ℕ → Released
refused_as p f n = record { floor = f; plan = p; number = 0; a = 0; b = 0; refusal = n }
