-- "Column 0 is west, row 0 is south. Tile number = column × H + row." The theorem is `numbered` of proofs/Numbering.
use Rattle.std.specs.Prelude.{◌≡◌, cond, ℕ, ◌+◌, ◌-◌, ◌*◌, ◌<◌, leb, ltb}
use Rattle.floor.specs.declared.Settings.{Settings}
use Rattle.floor.specs.Settings.{total}
use Rattle.floor.specs.Grid.{neighbour}

-- the number of the tile in column c and row r
abbrev pub number_of : Settings → ℕ → ℕ → ℕ
number_of s c r = c * s.rows + r

-- its neighbours: one column less, one row less, one row more, one column more; C where there is none
pub record Numbered (s : Settings) (c r : ℕ) : Type 0 where
  pub on_floor : number_of s c r < total s
  pub west : neighbour s 1 (number_of s c r) ≡ cond (leb 1 c) (number_of s (c - 1) r) (total s)
  pub south : neighbour s 2 (number_of s c r) ≡ cond (leb 1 r) (number_of s c (r - 1)) (total s)
  pub north : neighbour s 3 (number_of s c r) ≡ cond (ltb (r + 1) s.rows) (number_of s c (r + 1)) (total s)
  pub east : neighbour s 4 (number_of s c r) ≡ cond (ltb (c + 1) s.columns) (number_of s (c + 1) r) (total s)

-- every tile is in one column and row, and in no other
pub record Numbering (s : Settings) : Type 0 where
  pub at : (c r : ℕ) → c < s.columns → r < s.rows → Numbered s c r
  pub each : (t : ℕ) → t < total s → (c : ℕ) × (r : ℕ) × (c < s.columns) × (r < s.rows) × (t ≡ number_of s c r)
  pub one : (c r d q : ℕ) → r < s.rows → q < s.rows → number_of s c r ≡ number_of s d q → (c ≡ d) × (r ≡ q)

abbrev pub TileNumbers : Type 0
TileNumbers = (s : Settings) → Numbering s
