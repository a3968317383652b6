-- The bytes of a canister, and the front of a tile's record.
use Rattle.std.specs.Prelude.{List, ◌++◌, ℕ, ◌+◌, ◌*◌}
use Rattle.image_bytes.specs.Bytes.{bytes, bytes_of}
use Rattle.floor.specs.declared.Canister.{Canister}
use Rattle.floor.specs.declared.Settings.{Settings}
use Rattle.floor.specs.declared.Tile.{Tile}
use Rattle.image.specs.Image.{lowest, canister_widths, canister_values}

abbrev pub canister_bytes : Canister → List ℕ
canister_bytes c = bytes_of canister_widths (canister_values c)

-- the ten bytes of a tile's record before its canisters
unfoldable pub tile_bytes : ℕ → Tile → List ℕ
tile_bytes t h =
    (bytes 2 (6 + 8 * h.count) ++ bytes 2 3)
    ++ ((bytes 1 t ++ (bytes 1 h.running ++ bytes 1 h.distance)) ++ (bytes 1 h.next.code ++ (bytes 1 h.token.code ++ bytes 1 h.count)))

-- U, l, r, v and the fill set
abbrev pub measures_bytes : Settings → List ℕ
measures_bytes x = (bytes 2 x.width ++ bytes 2 x.length) ++ ((bytes 2 x.gap ++ bytes 2 x.travel) ++ bytes 8 x.sources)

-- the first 24 bytes of record 1, whose body has n bytes
unfoldable pub head_bytes : Settings → ℕ → List ℕ
head_bytes x n = (bytes 2 n ++ bytes 2 1) ++ ((bytes 1 x.columns ++ (bytes 1 x.rows ++ bytes 1 (lowest x.hoppers))) ++ (bytes 1 0 ++ measures_bytes x))
