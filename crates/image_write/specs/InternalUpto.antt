-- The records of the tiles below t, as the writer puts them.
use Rattle.std.specs.Prelude.{List, [], ◌++◌, ℕ, zero, suc, ◌*◌, get_or, take, drop}
use Rattle.floor.specs.declared.Canister.{Canister}
use Rattle.floor.specs.declared.Tile.{Tile}
use Rattle.floor.specs.Model.{TileState}
use Rattle.floor.specs.Memory.{zero_tile, state_from}
use Rattle.image.specs.Image.{record_of, tile_body}

-- tile t of a floor whose arrays are hs and cs, and how many canisters it has
abbrev pub count_at : List Tile → ℕ → ℕ
count_at hs t = (get_or hs t zero_tile).count

abbrev pub tile_for : List Tile → List Canister → ℕ → TileState
tile_for hs cs t = state_from (get_or hs t zero_tile) (take (count_at hs t) (drop (16 * t) cs))

abbrev pub tile_record : List Tile → List Canister → ℕ → List ℕ
tile_record hs cs t = record_of 3 (tile_body t (tile_for hs cs t))

-- the records of the tiles below t
unfoldable pub upto : List Tile → List Canister → ℕ → List ℕ
upto hs cs zero = []
upto hs cs (suc t) = upto hs cs t ++ tile_record hs cs t
