-- What the parts of the call bound compute: sets of tiles, and the canisters on the tiles of a set.
use Rattle.std.specs.Prelude.{Bool, cond, List, ℕ, ◌%◌, ltb, get_or}
use Rattle.laws.specs.Define.{tab, sum, bit}
use Rattle.floor.specs.declared.Tile.{Tile}
use Rattle.floor.specs.Memory.{zero_tile}

-- whether tile t is above row 0
abbrev pub above_first : ℕ → ℕ → Bool
above_first rows t = ltb 0 (t % rows)

-- the canisters on those of the first n tiles that are in the set
unfoldable pub canisters_in : ℕ → List Tile → ℕ → ℕ
canisters_in n ts set = sum (tab n (λ t. cond (bit set t) (get_or ts t zero_tile).count 0))
