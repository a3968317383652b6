-- What holds at the heads of the loops of `fresh_floor`, over the tiles, and of `tile_members`, over a tile's places.
use mathlib.Core.Path.{◌≡◌}
use mathlib.Core.List.{List}
use Prim.Native.Nat.{ℕ, ◌+◌, ◌*◌, ◌≤◌, ◌<◌}
use lib.ListN.{length, get_or}
use Rattle.laws.specs.InternalFilled.{Upto, From}
use Rattle.floor.specs.declared.Canister.{Canister}
use Rattle.floor.specs.declared.Settings.{Settings}
use Rattle.floor.specs.declared.Tile.{Tile}
use Rattle.floor.specs.Memory.{zero_tile, zero_canister, head}
use Rattle.floor.specs.Calls.{fresh_tile}

pub record Freshened (s : Settings) (all : ℕ) (tiles : List Tile) (t : ℕ) : Type 0 where
  pub below : t ≤ all
  pub few : all ≤ 64
  pub tiles_length : length tiles ≡ 64
  pub fresh : Upto t (λ k. head (fresh_tile s k)) zero_tile tiles
  pub rest : From t (λ k. zero_tile) zero_tile tiles

pub record Copied (canisters : List Canister) (tile : ℕ) (items : List Canister) (k : ℕ) : Type 0 where
  pub below : k ≤ 16
  pub here : tile < 64
  pub canisters_length : length canisters ≡ 1024
  pub items_length : length items ≡ 16
  pub copied : Upto k (λ j. get_or canisters (16 * tile + j) zero_canister) zero_canister items
