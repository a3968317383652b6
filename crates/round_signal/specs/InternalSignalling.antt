-- Signal in memory: what the tiles show, a tile with its new token, and why each tile stood.
use Rattle.std.specs.Prelude.{◌≡◌, true, cond, not, List, [], ◌∷◌, ℕ, ◌<◌, ltb, eqb, get_or, Option, Some, None}
use Rattle.laws.specs.Define.{refusal}
use Rattle.floor.specs.declared.Settings.{Settings}
use Rattle.floor.specs.declared.Side.{Side}
use Rattle.floor.specs.declared.Tile.{Tile}
use Rattle.floor.specs.declared.reason.Reason.{Reason}
use Rattle.floor.specs.Numbers.{reason_number}
use Rattle.floor.specs.Sides.{opposite}
use Rattle.floor.specs.Grid.{neighbour}
use Rattle.floor.specs.Memory.{zero_tile}
use Rattle.floor.specs.Signal.{shown_next}
use Rattle.round_route.specs.InternalRouted.{within}

abbrev pub no_side : Side
no_side = record { code = 0 }

-- the side at place u of an array, none beyond its end
abbrev pub side_in : List Side → ℕ → ℕ
side_in l u = (get_or l u no_side).code

-- the side that a tile shows its neighbours
abbrev pub shown_in : List Tile → ℕ → ℕ
shown_in ts u = shown_next (get_or ts u zero_tile).count (get_or ts u zero_tile).next.code

-- an array of what the first n tiles show; none at the others and at the number of no tile
abbrev pub ShownUpto : List Tile → ℕ → List Side → Type 0
ShownUpto ts n l = (u : ℕ) → u < 65 → side_in l u ≡ within n (shown_in ts) 0 u

unfoldable pub tokened : Tile → ℕ → Tile
tokened h k = record { running = h.running; distance = h.distance; next = h.next; token = record { code = k }; count = h.count }

-- why a tile stood, as far as it tells by itself, else 0; and from the turn and the millimetres missing of the tile that its arrow leads to
unfoldable pub own_reason : Tile → ℕ
own_reason h = refusal ((not (eqb h.running 1), 1) ∷ (eqb h.count 0, 2) ∷ (eqb h.next.code 0, 3) ∷ [])

-- the number of a reason that a tile tells by itself, 0 where it tells none
abbrev pub told : Option Reason → ℕ
told None = 0
told (Some why) = reason_number why

unfoldable pub ahead_reason : ℕ → ℕ → ℕ → ℕ
ahead_reason next turn lack = refusal ((not (eqb next (opposite turn)), 4) ∷ (ltb 0 lack, 5) ∷ (true, 6) ∷ [])

unfoldable pub reason_from : Tile → ℕ → ℕ → ℕ
reason_from h turn lack = let n = own_reason h in cond (eqb n 0) (ahead_reason h.next.code turn lack) n

-- turn and lack: those of all tiles
unfoldable pub reason_by : Settings → List Tile → (ℕ → ℕ) → (ℕ → ℕ) → ℕ → ℕ
reason_by s ts turn lack t = let h = get_or ts t zero_tile in let u = neighbour s h.next.code t in reason_from h (turn u) (lack u)

unfoldable pub lack_by : Settings → List Tile → (ℕ → ℕ) → (ℕ → ℕ) → ℕ → ℕ
lack_by s ts turn lack t = cond (eqb (reason_by s ts turn lack t) 5) (lack (neighbour s (get_or ts t zero_tile).next.code t)) 0
