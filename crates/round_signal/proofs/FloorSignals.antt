-- Signal over a floor in memory: each tile's new token, grant, turn and missing millimetres, and what the pass asks of the tiles.
use Prim.Native.Nat.{ℕ, ◌*◌, ◌^◌, ◌≤◌, ◌<◌}
use mathlib.Core.List.{List}
use lib.ListN.{get_or, take, drop}
use Rattle.floor.specs.declared.Canister.{Canister}
use Rattle.floor.specs.declared.Settings.{Settings}
use Rattle.floor.specs.declared.Side.{Side}
use Rattle.floor.specs.declared.Tile.{Tile}
use Rattle.floor.specs.Settings.{total}
use Rattle.floor.specs.Grid.{around}
use Rattle.floor.specs.Memory.{zero_tile}
use Rattle.floor.specs.Signal.{Signal}
use Rattle.round_route.specs.InternalRouted.{within}
use Rattle.round_grants.specs.InternalTileSignal.{signal_from}
use Rattle.round_signal.specs.InternalSignalling.{shown_in, tokened, reason_by, lack_by}

-- every token is a side or none
abbrev pub Ready : Settings → List Tile → Type 0
Ready s ts = (t : ℕ) → t < total s → (get_or ts t zero_tile).token.code ≤ 4

-- no tile has more canisters than places
abbrev pub Roomy : Settings → List Tile → Type 0
Roomy s ts = (t : ℕ) → t < total s → (get_or ts t zero_tile).count ≤ 16

-- tile t of the floor
unfoldable pub signal_at_lem : Settings → List Tile → List Canister → ℕ → Signal
signal_at_lem s ts cs t =
    let h = get_or ts t zero_tile in
    around s (within (total s) (shown_in ts) 0) t (signal_from s h.running h.token.code (take h.count (drop (16 * t) cs)))

unfoldable pub tile_at : Settings → List Tile → List Canister → ℕ → Tile
tile_at s ts cs t = tokened (get_or ts t zero_tile) (signal_at_lem s ts cs t).token

unfoldable pub grant_at : Settings → List Tile → List Canister → ℕ → ℕ
grant_at s ts cs t = (signal_at_lem s ts cs t).grant

unfoldable pub turn_at_lem : Settings → List Tile → List Canister → ℕ → ℕ
turn_at_lem s ts cs t = (signal_at_lem s ts cs t).turn

-- as a side
abbrev pub side : ℕ → Side
side k = record { code = k }

abbrev pub turn_side : Settings → List Tile → List Canister → ℕ → Side
turn_side s ts cs t = side (turn_at_lem s ts cs t)

unfoldable pub lack_at : Settings → List Tile → List Canister → ℕ → ℕ
lack_at s ts cs t = (signal_at_lem s ts cs t).missing

-- every tile's turn before it passed on, and the millimetres missing there; none at the number of no tile
abbrev pub turns_at : Settings → List Tile → List Canister → ℕ → ℕ
turns_at s ts cs = within (total s) (turn_at_lem s ts cs) 0

abbrev pub lacks_at : Settings → List Tile → List Canister → ℕ → ℕ
lacks_at s ts cs = within (total s) (lack_at s ts cs) 0

-- they fit in two bytes
abbrev pub Slight : Settings → List Tile → List Canister → Type 0
Slight s ts cs = (u : ℕ) → lacks_at s ts cs u < 2 ^ 16

abbrev pub reason_at : Settings → List Tile → List Canister → ℕ → ℕ
reason_at s ts cs = reason_by s ts (turns_at s ts cs) (lacks_at s ts cs)

abbrev pub beside_at : Settings → List Tile → List Canister → ℕ → ℕ
beside_at s ts cs = lack_by s ts (turns_at s ts cs) (lacks_at s ts cs)
