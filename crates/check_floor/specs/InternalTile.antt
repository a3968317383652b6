-- The tests of one tile in the words of the code: of its head, of its sixteen places, of both, and of what is tested first.
use Rattle.std.specs.Prelude.{Bool, not, ◌&&◌, ◌||◌, List, ℕ, eqb, leb, ltb, take, drop, get_or}
use Rattle.laws.specs.Define.{all_of, pairs_of}
use Rattle.floor.specs.declared.Canister.{Canister}
use Rattle.floor.specs.declared.Settings.{Settings}
use Rattle.floor.specs.declared.Tile.{Tile}
use Rattle.floor.specs.Settings.{total}
use Rattle.floor.specs.Memory.{zero_tile, is_zero_canister, block, head_fits, tile_fits}
use Rattle.floor.specs.Well.{head_sound, in_order}
use Rattle.check_places.specs.InternalPlace.{member_sound}

-- the first n of the places l
unfoldable pub used_sound : Settings → ℕ → ℕ → List Canister → Bool
used_sound s last n l = all_of (member_sound s last) (take n l) && pairs_of (in_order s) (take n l)

-- a tile without its canisters
unfoldable pub head_test : Settings → ℕ → Tile → Bool
head_test s t h = head_fits s t h && (not (ltb t (total s)) || head_sound s t h)

-- its sixteen places, n of them used
unfoldable pub places_test : Settings → ℕ → ℕ → List Canister → Bool
places_test s last n l = leb n 16 && (all_of is_zero_canister (drop n l) && used_sound s last n l)

-- what is tested first: its head and, where it holds nothing, its places
unfoldable pub front_test : Settings → ℕ → Tile → List Canister → Bool
front_test s t h l = head_test s t h && (not (eqb h.count 0) || all_of is_zero_canister l)

-- and then: its places where it holds n canisters
unfoldable pub back_test : Settings → ℕ → ℕ → List Canister → Bool
back_test s last n l = eqb n 0 || places_test s last n l

-- one tile, from its head and its sixteen places
unfoldable pub tile_test : Settings → ℕ → ℕ → Tile → List Canister → Bool
tile_test s last t h l = tile_fits s t h l && (not (ltb t (total s)) || (head_sound s t h && used_sound s last h.count l))

-- tile t of the arrays
unfoldable pub tiles_test : Settings → ℕ → List Tile → List Canister → ℕ → Bool
tiles_test s last ts cs t = tile_test s last t (get_or ts t zero_tile) (block cs t)
