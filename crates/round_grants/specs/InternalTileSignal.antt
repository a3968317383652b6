-- Signal on one tile, from what its four neighbours show.
use Rattle.std.specs.Prelude.{ℕ, List, eqb}
use Rattle.floor.specs.declared.Canister.{Canister}
use Rattle.floor.specs.declared.Settings.{Settings}
use Rattle.floor.specs.Signal.{Signal, requests, signal_by}

-- one tile, l its canisters, from what its neighbours show
abbrev pub signal_from : Settings → ℕ → ℕ → List Canister → ℕ → ℕ → ℕ → ℕ → Signal
signal_from s running token l west south north east = signal_by s (eqb running 1) token l (requests west south north east)
