use Rattle.std.proofs.Common.{◌*◌, ◌≤◌}
use Rattle.trials.proofs.full.emptied.Given as goal

abbrev pub invariant-loop : goal.invariant-loop
invariant-loop l =
    (l.e.reported ≤ 255 * l.counter) × (l.e.sum ≤ 17179869180 * l.counter) × (l.e.rounds ≤ l.counter)
