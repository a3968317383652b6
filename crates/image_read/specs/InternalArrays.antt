-- The canisters of a floor in memory, by the places where the bodies of the records start.
use Rattle.std.specs.Prelude.{Bool, cond, ◌&&◌, List, ℕ, ◌+◌, ◌*◌, ◌/◌, ◌%◌, ltb, drop, get_or}
use Rattle.image_bytes.specs.Bytes.{field}
use Rattle.floor.specs.declared.Canister.{Canister}
use Rattle.floor.specs.Memory.{zero_canister}
use Rattle.image.specs.Image.{tile_widths, canister_in}

-- what memory holds of place j of the tile whose body starts at p; zeros where it isn't used
unfoldable pub canister_at : List ℕ → ℕ → Bool → ℕ → Canister
canister_at s p used j = cond (used && ltb j (field tile_widths 5 (drop p s))) (canister_in (drop (p + 6 + 8 * j) s)) zero_canister

-- place k of the 1,024, of n tiles
abbrev pub canister_from : List ℕ → List ℕ → ℕ → ℕ → Canister
canister_from s starts n k = canister_at s (get_or starts (k / 16) 0) (ltb (k / 16) n) (k % 16)
