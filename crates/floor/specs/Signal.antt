-- Signal ("running tiles, hopper too").
use Rattle.std.specs.Prelude.{Bool, false, cond, ◌&&◌, List, [], ◌∷◌, ℕ, ◌+◌, ◌-◌, max, ltb, eqb, length}
use Rattle.laws.specs.Define.{tab}
use Rattle.floor.specs.declared.Canister.{Canister}
use Rattle.floor.specs.declared.Settings.{Settings}
use Rattle.floor.specs.Sides.{west, south, north, east, by_side, following, chosen}
use Rattle.floor.specs.Settings.{total, spacing}
use Rattle.floor.specs.Grid.{around}
use Rattle.floor.specs.Model.{TileState, Model, tile_of, runs, with_tiles}

-- what Signal gives a tile: its new turn, the side that it grants, the turn before it passed on, and the millimetres that are missing there
pub record Signal : Type 0 where
  pub token : ℕ
  pub grant : ℕ
  pub turn : ℕ
  pub missing : ℕ

-- what a tile shows its neighbours: its new arrow if it has canisters, else none
abbrev pub shown_next : ℕ → ℕ → ℕ
shown_next count next = cond (ltb 0 count) next 0

-- "A side wants if the neighbour there has canisters and its new arrow faces here": which sides do, from what the neighbours show
unfoldable pub requests : ℕ → ℕ → ℕ → ℕ → ℕ → Bool
requests atWest atSouth atNorth atEast = by_side false (eqb atWest east) (eqb atSouth north) (eqb atNorth south) (eqb atEast west)

-- how many millimetres a canister is short of the gap at side k: "a ≥ d for a west turn, b ≥ d for south, b + l + d ≤ U for north, a + l + d ≤ U for east"
unfoldable pub lack : Settings → ℕ → Canister → ℕ
lack s k c = by_side 0 (spacing s - c.a) (spacing s - c.b) (c.b + s.length + spacing s - s.width) (c.a + s.length + spacing s - s.width) k

-- "The gap test now says how many millimetres are missing, the worst canister's, 0 for a gap"
unfoldable pub missing : Settings → ℕ → List Canister → ℕ
missing s k [] = 0
missing s k (c ∷ l) = max (lack s k c) (missing s k l)

-- n millimetres missing. "With the gap the tile grants that side, and its turn passes to the first wanting side strictly after it, coming round to itself if it is alone."
abbrev pub granting : (ℕ → Bool) → ℕ → ℕ → Signal
granting p k n = record { token = following p k; grant = k; turn = k; missing = n }

-- "Without, no grant, and the turn stays."
abbrev pub waiting : ℕ → ℕ → Signal
waiting k n = record { token = k; grant = 0; turn = k; missing = n }

-- k the turn just chosen. "None wants: turn none, no grant."
unfoldable pub signal_with : Settings → List Canister → (ℕ → Bool) → ℕ → Signal
signal_with s l p k =
    let n = missing s k l in
    cond (ltb 0 k && eqb n 0) (granting p k n) (waiting k n)

-- one tile's, from what its neighbours show; a stopped tile keeps its turn and grants nothing
unfoldable pub signal_by : Settings → Bool → ℕ → List Canister → (ℕ → Bool) → Signal
signal_by s running token l p = cond running (signal_with s l p (chosen p token)) (waiting token 0)

unfoldable pub signal_tile : Settings → TileState → ℕ → ℕ → ℕ → ℕ → Signal
signal_tile s x atWest atSouth atNorth atEast = signal_by s (runs x) x.token x.members (requests atWest atSouth atNorth atEast)

unfoldable pub shown_of : Model → ℕ → ℕ
shown_of m t = shown_next (length (tile_of m t).members) (tile_of m t).next

unfoldable pub signal_of : Model → ℕ → Signal
signal_of m t = around m.settings (shown_of m) t (signal_tile m.settings (tile_of m t))

abbrev pub grant_of : Model → ℕ → ℕ
grant_of m t = (signal_of m t).grant

abbrev pub with_token : TileState → ℕ → TileState
with_token x k = record { running = x.running; distance = x.distance; next = x.next; token = k; members = x.members }

-- "for all tiles together"
unfoldable pub signal : Model → Model
signal m = with_tiles m (tab (total m.settings) (λ t. with_token (tile_of m t) (signal_of m t).token))
