-- The counts of the tiles together, in the words of the code.
use Rattle.std.specs.Prelude.{List, ℕ, zero, suc, ◌+◌, get_or}
use Rattle.floor.specs.declared.Tile.{Tile}
use Rattle.floor.specs.Memory.{zero_tile}

-- the counts of the first n tiles together
unfoldable pub counted : List Tile → ℕ → ℕ
counted ts zero = 0
counted ts (suc n) = counted ts n + (get_or ts n zero_tile).count
