-- What holds at the heads of the loops: over the tiles, for those above row 0 and for the canisters of a set; over the passes.
use mathlib.Core.Path.{◌≡◌}
use mathlib.Core.List.{List}
use Prim.Native.Nat.{ℕ, ◌*◌, ◌-◌, ◌^◌, ◌≤◌, ◌<◌}
use Rattle.floor.specs.declared.Settings.{Settings}
use Rattle.floor.specs.declared.Tile.{Tile}
use Rattle.floor.specs.Settings.{total, Ranged}
use Rattle.floor.specs.Layouts.{set_below}
use Rattle.bound_call.specs.Sets.{above_first, canisters_in}
use Rattle.bound_call.proofs.Passes.{Reaches}

-- n passes are made
pub record PathsFound (s : Settings) (running above passes found n : ℕ) : Type 0 where
  pub ranged : Ranged s
  pub all : passes ≡ total s - 1
  pub running_fits : running < 2 ^ total s
  pub above_is : above ≡ set_below (above_first s.rows) (total s)
  pub found_fits : found < 2 ^ total s
  pub reaches : Reaches s running n found

pub record CanistersCounted (tiles : List Tile) (set sum t : ℕ) : Type 0 where
  pub small : sum ≤ 255 * t
  pub counted : sum ≡ canisters_in t tiles set
