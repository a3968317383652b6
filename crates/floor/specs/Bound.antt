-- The bound of demand 3: (C - 1) × (1 + K × M).
use Rattle.std.specs.Prelude.{ℕ, ◌+◌, ◌-◌, ◌*◌, ◌/◌}
use Rattle.floor.specs.declared.Settings.{Settings}
use Rattle.floor.specs.Settings.{total, span}

-- "M = (U - l) div v + 1"
unfoldable pub crossing : Settings → ℕ
crossing s = span s / s.travel + 1

-- K: canisters on tiles with a live path
unfoldable pub bound : Settings → ℕ → ℕ
bound s K = (total s - 1) * (1 + K * crossing s)
