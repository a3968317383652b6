-- What holds at the heads of the page's loops: over the cells of a row; over the lines.
use mathlib.Core.Path.{◌≡◌}
use mathlib.Core.List.{List}
use Prim.Native.Nat.{ℕ, ◌+◌, ◌*◌, ◌-◌, ◌≤◌, ◌<◌}
use lib.ListN.{length, get_or}
use Rattle.image_bytes.specs.InternalPut.{put}
use Rattle.floor.specs.declared.Tile.{Tile}
use Rattle.floor.specs.Memory.{zero_tile}
use Rattle.page_call.specs.Page.{cell, line}
use Rattle.page_call.proofs.Pieces.{up_to}

-- the cell in column c of row r
abbrev pub cell_at : List Tile → ℕ → ℕ → ℕ → List ℕ
cell_at tiles h r c = cell (get_or tiles (c * h + r) zero_tile)

-- line k, the north row first
abbrev pub line_at : List Tile → ℕ → ℕ → ℕ → List ℕ
line_at tiles w h k = line (λ t. get_or tiles t zero_tile) w h (h - 1 - k)

pub record CellsPut (s₀ : List ℕ) (at w h r : ℕ) (tiles : List Tile) (s : List ℕ) (k : ℕ) : Type 0 where
  pub below : k ≤ w
  pub columns_few : w ≤ 8
  pub rows_few : h ≤ 8
  pub row : r < h
  pub tiles_length : length tiles ≡ 64
  pub room : at + 8 * w ≤ length s₀
  pub buffer_length : length s ≡ length s₀
  pub written : s ≡ put s₀ at (up_to k (cell_at tiles h r))

pub record LinesPut (s₀ : List ℕ) (tiles : List Tile) (w h : ℕ) (s : List ℕ) (k : ℕ) : Type 0 where
  pub below : k ≤ h
  pub columns_few : w ≤ 8
  pub rows_few : h ≤ 8
  pub room : h * (8 * w + 2) ≤ length s₀
  pub buffer_length : length s ≡ length s₀
  pub written : s ≡ put s₀ 0 (up_to k (line_at tiles w h))
