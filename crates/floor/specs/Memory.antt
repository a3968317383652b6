-- A floor in memory: what it shows, how a floor as a value lies in it, and "unused places in memory are zero".
use Rattle.std.specs.Prelude.{Bool, true, cond, ◌&&◌, List, [], ◌∷◌, ◌++◌, ℕ, zero, suc, ◌*◌, leb, ltb, eqb, length, get_or, take, drop, replicate}
use Rattle.laws.specs.Define.{tab, all_of}
use Rattle.floor.specs.declared.Canister.{Canister}
use Rattle.floor.specs.declared.Settings.{Settings}
use Rattle.floor.specs.declared.Counters.{Counters}
use Rattle.floor.specs.declared.Tile.{Tile}
use Rattle.floor.specs.declared.Layout.{Layout}
use Rattle.floor.specs.declared.Floor.{Floor}
use Rattle.floor.specs.Settings.{total}
use Rattle.floor.specs.Model.{TileState, Model}

abbrev pub zero_settings : Settings
zero_settings = record { columns = 0; rows = 0; hoppers = 0; sources = 0; width = 0; length = 0; gap = 0; travel = 0 }

abbrev pub zero_counters : Counters
zero_counters = record { last = 0; booked = 0; delivered = replicate 4 0 }

abbrev pub zero_tile : Tile
zero_tile = record { running = 0; distance = 0; next = record { code = 0 }; token = record { code = 0 }; count = 0 }

abbrev pub zero_canister : Canister
zero_canister = record { number = 0; a = 0; b = 0 }

abbrev pub zero_layout : Layout
zero_layout = record { name = 0; set = 0 }

-- "the all-zero floor"
unfoldable pub zero_floor : Floor
zero_floor = record {
  settings = zero_settings;
  counters = zero_counters;
  tiles = replicate 64 zero_tile;
  canisters = replicate 1024 zero_canister;
  layouts = replicate 8 zero_layout;
}

-- ---- what memory shows: tile t, its canisters the first `count` of the sixteen places from 16 × t on
abbrev pub head_of : Floor → ℕ → Tile
head_of f t = get_or f.tiles t zero_tile

abbrev pub state_from : Tile → List Canister → TileState
state_from h l = record { running = h.running; distance = h.distance; next = h.next.code; token = h.token.code; members = l }

unfoldable pub state_of : Floor → ℕ → TileState
state_of f t =
    let h = head_of f t in
    let l = take h.count (drop (16 * t) f.canisters) in
    state_from h l

-- the layouts in use: those before the first place without a name
unfoldable pub used_layouts : List Layout → List Layout
used_layouts [] = []
used_layouts (x ∷ l) = let r = used_layouts l in cond (eqb x.name 0) [] (x ∷ r)

unfoldable pub view : Floor → Model
view f =
    let ts = tab (total f.settings) (state_of f) in
    let ls = used_layouts f.layouts in
    record { settings = f.settings; counters = f.counters; tiles = ts; layouts = ls }

-- ---- how a floor as a value lies in memory: 64 tiles, "sixteen places for each", zeros where nothing is
-- what memory holds of a tile from C on: all zero, its distance too; `no_tile_of`, which is read where no tile is, has distance none
abbrev pub unused : TileState
unused = record { running = 0; distance = 0; next = 0; token = 0; members = [] }

unfoldable pub head : TileState → Tile
head x = record { running = x.running; distance = x.distance; next = record { code = x.next }; token = record { code = x.token }; count = length x.members }

-- n places for the list l: its canisters, then zeros
unfoldable pub places : ℕ → List Canister → List Canister
places zero l = []
places (suc n) [] = zero_canister ∷ places n []
places (suc n) (c ∷ l) = c ∷ places n l

-- sixteen places for each of n tiles from k on, g t being tile t
unfoldable pub rows : ℕ → ℕ → (ℕ → TileState) → List Canister
rows zero k g = []
rows (suc n) k g = places 16 (g k).members ++ rows n (suc k) g

-- n places for the layouts l: they, then zeros
unfoldable pub layout_places : ℕ → List Layout → List Layout
layout_places zero l = []
layout_places (suc n) [] = zero_layout ∷ layout_places n []
layout_places (suc n) (x ∷ l) = x ∷ layout_places n l

unfoldable pub build : Settings → Counters → (ℕ → TileState) → List Layout → Floor
build s c g l =
    let ts = tab 64 (λ t. head (g t)) in
    let cs = rows 64 0 g in
    let ls = layout_places 8 l in
    record { settings = s; counters = c; tiles = ts; canisters = cs; layouts = ls }

unfoldable pub pack : Model → Floor
pack m = let ts = m.tiles in build m.settings m.counters (λ t. get_or ts t unused) m.layouts

-- ---- "Unused places in memory are zero", and the lengths that the arrays have by their type
unfoldable pub is_zero_canister : Canister → Bool
is_zero_canister c = eqb c.number 0 && (eqb c.a 0 && eqb c.b 0)

unfoldable pub is_zero_tile : Tile → Bool
is_zero_tile h = eqb h.running 0 && (eqb h.distance 0 && (eqb h.next.code 0 && (eqb h.token.code 0 && eqb h.count 0)))

-- "Each tile holds at most 16 canisters"; a tile from C on is zero
unfoldable pub head_fits : Settings → ℕ → Tile → Bool
head_fits s t h = cond (ltb t (total s)) (leb h.count 16) (is_zero_tile h)

unfoldable pub tile_fits : Settings → ℕ → Tile → List Canister → Bool
tile_fits s t h l = head_fits s t h && all_of is_zero_canister (drop h.count l)

-- tile after tile from t on, sixteen places each
unfoldable pub tiles_fit : Settings → ℕ → List Tile → List Canister → Bool
tiles_fit s t [] cs = true
tiles_fit s t (h ∷ hs) cs = tile_fits s t h (take 16 cs) && tiles_fit s (suc t) hs (drop 16 cs)

unfoldable pub state_fits : Floor → Bool
state_fits f = eqb (length f.tiles) 64 && (eqb (length f.canisters) 1024 && tiles_fit f.settings 0 f.tiles f.canisters)

unfoldable pub is_zero_layout : Layout → Bool
is_zero_layout x = eqb x.name 0 && eqb x.set 0

-- the layouts in use, then zeros
unfoldable pub layouts_fit : List Layout → Bool
layouts_fit l = eqb (length l) 8 && all_of is_zero_layout (drop (length (used_layouts l)) l)

unfoldable pub fits : Floor → Bool
fits f = state_fits f && layouts_fit f.layouts

-- ---- for contracts and proofs; a reader of document 01 may pass over the rest of this file
-- the sixteen places of tile t
abbrev pub block : List Canister → ℕ → List Canister
block cs t = take 16 (drop (16 * t) cs)

-- a tile in memory with another count; stopped; repaired
abbrev pub with_count : Tile → ℕ → Tile
with_count h n = record { running = h.running; distance = h.distance; next = h.next; token = h.token; count = n }

abbrev pub stopped_head : Tile → Tile
stopped_head h = record { running = 0; distance = 255; next = record { code = 0 }; token = record { code = 0 }; count = h.count }

abbrev pub repaired_head : Tile → Tile
repaired_head h = record { running = 1; distance = h.distance; next = h.next; token = h.token; count = h.count }

-- ---- the memory of a floor with other counters, tiles and canisters; with other tiles; with other layouts; with other settings
abbrev pub refilled : Floor → Counters → List Tile → List Canister → Floor
refilled f c ts cs = record { settings = f.settings; counters = c; tiles = ts; canisters = cs; layouts = f.layouts }

abbrev pub retiled : Floor → List Tile → Floor
retiled f ts = refilled f f.counters ts f.canisters

abbrev pub relaid : Floor → List Layout → Floor
relaid f ls = record { settings = f.settings; counters = f.counters; tiles = f.tiles; canisters = f.canisters; layouts = ls }

abbrev pub refitted : Floor → Settings → Floor
refitted f s = record { settings = s; counters = f.counters; tiles = f.tiles; canisters = f.canisters; layouts = f.layouts }
