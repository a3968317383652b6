-- Tiles read from a table, and off the floor.
use mathlib.Core.Path.{◌≡◌, ap}
use mathlib.Core.Bool.{true}
use Prim.Native.Nat.{ℕ, suc, ◌≤◌, ◌<◌}
use native.Mathlib.Omega.{arith}
use native.Mathlib.Decide.{dec_le}
use lib.ListN.{length, get_or, get_or-eq_default}
use Rattle.laws.specs.Define.{tab}
use Rattle.laws.proofs.Tests.{not_both}
use Rattle.laws.proofs.Tables.{tab_at, tab_off}
use Rattle.floor.specs.Settings.{total}
use Rattle.floor.specs.Model.{TileState, Model, no_tile_of, tile_of, runs, runs_of_of}

-- a floor with all its tiles, and none more
abbrev pub Whole : Model → Type 0
Whole m = length m.tiles ≡ total m.settings

pub off_floor : (m : Model) → Whole m → (t : ℕ) → total m.settings ≤ t → tile_of m t ≡ no_tile_of
off_floor m w t h = get_or-eq_default m.tiles no_tile_of (omega (arith, w))

pub run_on : (m : Model) → Whole m → (t : ℕ) → runs_of_of m t ≡ true → t < total m.settings
run_on m w t r = go (dec_le (suc t) (total m.settings))
  where
    go : Dec (t < total m.settings) → t < total m.settings
    go (yes h) = h
    go (no h) = not_both r (ap (λ (x : TileState). runs x) (off_floor m w t (omega arith)))

-- what holds of each tile of a table and of none
pub table_each : (P : ℕ → TileState → Type 0) (n : ℕ) (g : ℕ → TileState) → ((t : ℕ) → t < n → P t (g t)) → ((t : ℕ) → n ≤ t → P t no_tile_of) → (t : ℕ) → P t (get_or (tab n g) t no_tile_of)
table_each P n g p q t = go (dec_le (suc t) n)
  where
    go : Dec (t < n) → P t (get_or (tab n g) t no_tile_of)
    go (yes h) = rw (tab_at n g t no_tile_of h) (p t h)
    go (no h) = rw (tab_off n g t no_tile_of (omega arith)) (q t (omega arith))
