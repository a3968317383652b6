-- The grid: "Column 0 is west, row 0 is south. Tile number = column × H + row."
use Rattle.std.specs.Prelude.{cond, ℕ, ◌+◌, ◌-◌, ◌%◌, leb, ltb}
use Rattle.floor.specs.declared.Settings.{Settings}
use Rattle.floor.specs.Sides.{west, south, north, east, by_side}
use Rattle.floor.specs.Settings.{total}

-- the tile beside t on side k; the number C where there is none
unfoldable pub neighbour : Settings → ℕ → ℕ → ℕ
neighbour s k t =
    by_side (total s)
    (cond (leb s.rows t) (t - s.rows) (total s))
    (cond (ltb 0 (t % s.rows)) (t - 1) (total s))
    (cond (ltb (t % s.rows + 1) s.rows) (t + 1) (total s))
    (cond (ltb (t + s.rows) (total s)) (t + s.rows) (total s))
    k

-- each tile decides from its four neighbours: g of what the neighbours of t to the west, south, north and east show
abbrev pub around : {A B : Type 0} → Settings → (ℕ → A) → ℕ → (A → A → A → A → B) → B
around s show t g = g (show (neighbour s west t)) (show (neighbour s south t)) (show (neighbour s north t)) (show (neighbour s east t))
