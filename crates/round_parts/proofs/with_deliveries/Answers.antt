use mathlib.Core.Path.{ap}
use Rattle.floor.specs.declared.Counters.{Counters}
use Rattle.floor.specs.Memory.{refilled}
use Rattle.round_parts.proofs.with_deliveries.Goals as goal

pub returns : goal.returns
returns c =
    let a = c.args in
    let f = a.f in
    ap
    (λ (x : Counters). record {
      refusal = 0;
      floor = refilled f x f.tiles f.canisters;
      report = record { grants = a.grants; reasons = a.reasons; missing = a.missing; deliveries = a.intake.deliveries };
    })
    c.raise-f.ensures
