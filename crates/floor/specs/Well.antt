-- Well formed, clause by clause.
use Rattle.std.specs.Prelude.{Bool, cond, not, ◌&&◌, ◌||◌, List, ℕ, suc, ◌+◌, ◌^◌, leb, ltb, eqb, length, get_or, drop}
use Rattle.laws.specs.Define.{all_of, pairs_of, all_below, sum}
use Rattle.floor.specs.declared.Canister.{Canister}
use Rattle.floor.specs.declared.Settings.{Settings}
use Rattle.floor.specs.declared.Counters.{Counters}
use Rattle.floor.specs.declared.Tile.{Tile}
use Rattle.floor.specs.declared.Layout.{Layout}
use Rattle.floor.specs.declared.Floor.{Floor}
use Rattle.floor.specs.Settings.{total, spacing, span, is_hopper, hoppers_of, settings_pass}
use Rattle.floor.specs.Grid.{neighbour}
use Rattle.floor.specs.Layouts.{layout_ok, layouts_sound}
use Rattle.floor.specs.Model.{TileState, Model, tile_of, numbers_on}
use Rattle.floor.specs.Memory.{zero_layout, used_layouts, view, head, state_fits, layouts_fit, fits}

-- each hopper: "The hopper runs, has distance 0, arrow none and no canisters."
unfoldable pub hopper_sound : Tile → Bool
hopper_sound h = eqb h.running 1 && (eqb h.distance 0 && (eqb h.next.code 0 && eqb h.count 0))

-- "Another running tile has distance 1 to C - 1 or none; its arrow is none exactly when its distance is none."
unfoldable pub running_sound : Settings → Tile → Bool
running_sound s h = (eqb h.distance 255 && eqb h.next.code 0) || (leb 1 h.distance && (ltb h.distance (total s) && ltb 0 h.next.code))

-- "A stopped tile has distance, arrow and turn none."
unfoldable pub stopped_sound : Tile → Bool
stopped_sound h = eqb h.running 0 && (eqb h.distance 255 && (eqb h.next.code 0 && eqb h.token.code 0))

-- "An arrow or turn that isn't none faces a tile of the floor."
unfoldable pub faces : Settings → ℕ → ℕ → Bool
faces s t k = eqb k 0 || ltb (neighbour s k t) (total s)

-- a tile without the sides that it faces
abbrev pub own_sound : Settings → ℕ → Tile → Bool
own_sound s t h = cond (is_hopper s t) (hopper_sound h) (cond (eqb h.running 1) (running_sound s h) (stopped_sound h))

unfoldable pub head_sound : Settings → ℕ → Tile → Bool
head_sound s t h = own_sound s t h && (faces s t h.next.code && faces s t h.token.code)

-- "Canisters lie within their tile": "0 to U - l on each axis"
unfoldable pub inside : Settings → Canister → Bool
inside s c = leb c.a (span s) && leb c.b (span s)

-- two canisters "differ by at least d in a or in b"
unfoldable pub apart : ℕ → Canister → Canister → Bool
apart d x y = (leb (x.a + d) y.a || leb (y.a + d) x.a) || (leb (x.b + d) y.b || leb (y.b + d) x.b)

-- "Numbers rise within a tile"; "two of one tile differ by at least d"
unfoldable pub in_order : Settings → Canister → Canister → Bool
in_order s x y = ltb x.number y.number && apart (spacing s) x y

unfoldable pub members_sound : Settings → List Canister → Bool
members_sound s l = all_of (inside s) l && pairs_of (in_order s) l

-- the clauses on running, distance, arrow, turn and count are said once, of a tile in memory; a tile of the value is judged by the head that it has in memory
unfoldable pub tile_sound : Settings → ℕ → TileState → Bool
tile_sound s t x = head_sound s t (head x) && members_sound s x.members

-- "Numbers … occur on one tile only, and don't exceed the last booked"; a number is "never 0"
unfoldable pub numbers_sound : ℕ → List ℕ → Bool
numbers_sound last l = all_of (λ n. ltb 0 n && leb n last) l && pairs_of (λ x y. not (eqb x y)) l

-- h hoppers, n canisters on the floor. One delivered counter for each hopper, unused ones zero; "Booked = delivered + those on the floor", "over all", "and booked is at most the last number"; "counters of 32 bits"
unfoldable pub counters_sound : ℕ → Counters → ℕ → Bool
counters_sound h c n =
    eqb (length c.delivered) 4 && (all_of (λ k. eqb k 0) (drop h c.delivered)
    && (eqb c.booked (sum c.delivered + n) && (leb c.booked c.last && ltb c.last (2 ^ 32))))

-- the value but for its layouts: its settings, C tiles, each tile, the numbers, the counters
unfoldable pub state_sound : Model → Bool
state_sound m =
    settings_pass m.settings
    && (eqb (length m.tiles) (total m.settings)
    && (all_below (λ t. tile_sound m.settings t (tile_of m t)) (total m.settings)
    && (numbers_sound m.counters.last (numbers_on m) && counters_sound (length (hoppers_of m.settings)) m.counters (length (numbers_on m)))))

unfoldable pub sound : Model → Bool
sound m = state_sound m && layouts_sound m.settings m.layouts

-- a floor in memory but for its layouts, and its layouts: well formed is both (`well_parts` of proofs/Pack)
unfoldable pub state_well : Floor → Bool
state_well f = let m = view f in state_sound m && state_fits f

unfoldable pub layouts_well : Floor → Bool
layouts_well f = layouts_sound f.settings (used_layouts f.layouts) && layouts_fit f.layouts

-- "Well formed": the value is, and "unused places in memory are zero"
unfoldable pub well_formed : Floor → Bool
well_formed f = let m = view f in sound m && fits f

-- ---- the layouts in memory place by place, for the code; all eight together are `layouts_well` (`layouts_code` of proofs/LayoutPlaces)
-- one place; `above` is the name in the place after it, 0 after the last
unfoldable pub place_ok : Settings → Layout → ℕ → Bool
place_ok s x above = cond (eqb x.name 0) (eqb x.set 0 && eqb above 0) (layout_ok s x && (eqb above 0 || ltb x.name above))

abbrev pub name_at : List Layout → ℕ → ℕ
name_at l k = (get_or l k zero_layout).name

abbrev pub place_test : Settings → List Layout → ℕ → Bool
place_test s l k = place_ok s (get_or l k zero_layout) (name_at l (suc k))
