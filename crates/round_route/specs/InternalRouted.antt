-- Route in memory: a tile without its canisters, from what its four neighbours show, and the tiles of a floor.
use Rattle.std.specs.Prelude.{◌≡◌, cond, List, ℕ, ltb, eqb, length, get_or}
use Rattle.laws.specs.InternalFilled.{Upto, From}
use Rattle.floor.specs.declared.Settings.{Settings}
use Rattle.floor.specs.declared.Tile.{Tile}
use Rattle.floor.specs.Settings.{total}
use Rattle.floor.specs.Grid.{around}
use Rattle.floor.specs.Memory.{zero_tile}
use Rattle.floor.specs.Route.{Heading, heading_of}
use Rattle.round_route.specs.declared.Heading as H

-- the first n of the 64 tiles made anew by g, the others as they were
abbrev pub Redone : ℕ → (ℕ → Tile) → List Tile → List Tile → Type 0
Redone n g old new = (length new ≡ 64) × Upto n g zero_tile new × From n (λ t. get_or old t zero_tile) zero_tile new

-- what the n tiles show, g; z where no tile is
unfoldable pub within : ℕ → (ℕ → ℕ) → ℕ → ℕ → ℕ
within n g z u = cond (ltb u n) (g u) z

abbrev pub distance_in : List Tile → ℕ → ℕ
distance_in ts u = (get_or ts u zero_tile).distance

-- a heading in memory as a value
abbrev pub heading : H.Heading → Heading
heading b = record { distance = b.distance; side = b.side.code }

abbrev pub headed : Tile → Heading → Tile
headed h b = record { running = h.running; distance = b.distance; next = record { code = b.side }; token = h.token; count = h.count }

-- one tile, from its own old arrow and its neighbours' old distances
unfoldable pub routed_tile : Settings → ℕ → Tile → ℕ → ℕ → ℕ → ℕ → Tile
routed_tile s t h west south north east = headed h (heading_of s t (eqb h.running 1) (record { distance = h.distance; side = h.next.code }) west south north east)

-- tile t of the floor, all neighbours read in the old tiles
unfoldable pub routed_at : Settings → List Tile → ℕ → Tile
routed_at s ts t = around s (within (total s) (distance_in ts) 255) t (routed_tile s t (get_or ts t zero_tile))
