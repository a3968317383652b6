-- Route ("running tiles but the hopper").
use Rattle.std.specs.Prelude.{Bool, false, cond, not, ◌||◌, ℕ, ◌+◌, ltb, eqb}
use Rattle.laws.specs.Define.{tab}
use Rattle.floor.specs.declared.Settings.{Settings}
use Rattle.floor.specs.Sides.{west, south, north, east, by_side}
use Rattle.floor.specs.Settings.{total, is_hopper}
use Rattle.floor.specs.Grid.{around}
use Rattle.floor.specs.Model.{TileState, Model, tile_of, runs, distance_of, with_tiles}

-- a distance, and the side that it was read on
pub record Heading : Type 0 where
  pub distance : ℕ
  pub side : ℕ

-- the nearer of two; the earlier one where they are as near
unfoldable pub nearer : Heading → ℕ → ℕ → Heading
nearer b d k = cond (ltb d b.distance) (record { distance = d; side = k }) b

-- "the neighbour of least old distance. Ties: the lower tile number, so west, south, north, east."
unfoldable pub nearest : ℕ → ℕ → ℕ → ℕ → Heading
nearest w s n e = nearer (nearer (nearer (record { distance = w; side = west }) s south) n north) e east

-- whether the neighbour on side k is at distance d; on side none there is no neighbour
unfoldable pub lies_at : ℕ → ℕ → ℕ → ℕ → ℕ → ℕ → Bool
lies_at atWest atSouth atNorth atEast d k = by_side false (eqb atWest d) (eqb atSouth d) (eqb atNorth d) (eqb atEast d) k

-- "Among neighbours of equal least distance, a tile now keeps its present arrow if that is one of them. Otherwise the old order of ties holds"; own: the arrow before the round
unfoldable pub kept : ℕ → ℕ → ℕ → ℕ → ℕ → Heading
kept own atWest atSouth atNorth atEast =
    let b = nearest atWest atSouth atNorth atEast in
    cond (lies_at atWest atSouth atNorth atEast b.distance own) (record { distance = b.distance; side = own }) b

-- "Distance = 1 + the least old distance among the neighbours; at C or more it is none. With distance none the arrow is none; otherwise it faces the neighbour of least old distance."
unfoldable pub onward : ℕ → Heading → Heading
onward C b = cond (ltb (b.distance + 1) C) (record { distance = b.distance + 1; side = b.side }) (record { distance = 255; side = 0 })

-- one tile's, from its own old arrow and its neighbours' old distances; a hopper and a stopped tile keep what they have
unfoldable pub heading_of : Settings → ℕ → Bool → Heading → ℕ → ℕ → ℕ → ℕ → Heading
heading_of s t running own atWest atSouth atNorth atEast = cond (is_hopper s t || not running) own (onward (total s) (kept own.side atWest atSouth atNorth atEast))

abbrev pub with_heading : TileState → Heading → TileState
with_heading x b = record { running = x.running; distance = b.distance; next = b.side; token = x.token; members = x.members }

unfoldable pub route_tile : Settings → ℕ → TileState → ℕ → ℕ → ℕ → ℕ → TileState
route_tile s t x atWest atSouth atNorth atEast = with_heading x (heading_of s t (runs x) (record { distance = x.distance; side = x.next }) atWest atSouth atNorth atEast)

-- "for all tiles together"
unfoldable pub route : Model → Model
route m = with_tiles m (tab (total m.settings) (λ t. around m.settings (distance_of m) t (route_tile m.settings t (tile_of m t))))
