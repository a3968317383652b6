-- A floor as a value.
use Rattle.std.specs.Prelude.{Bool, List, [], map, ℕ, eqb, get_or, set}
use Rattle.laws.specs.Define.{cat}
use Rattle.floor.specs.declared.Canister.{Canister}
use Rattle.floor.specs.declared.Settings.{Settings}
use Rattle.floor.specs.declared.Counters.{Counters}
use Rattle.floor.specs.declared.Layout.{Layout}
use Rattle.floor.specs.Settings.{total}

-- "A tile has: running or stopped; distance; arrow (a side); turn (a side); canisters." Running is 1, stopped 0; distance none is 255; `next` is the arrow, `token` the turn, `members` the canisters.
pub record TileState : Type 0 where
  pub running : ℕ
  pub distance : ℕ
  pub next : ℕ
  pub token : ℕ
  pub members : List Canister

-- the settings, the counters of 32 bits: "last number booked, booked", and delivered "for each hopper in tile order", the C tiles by their number, and the layouts "by rising name"
pub record Model : Type 0 where
  pub settings : Settings
  pub counters : Counters
  pub tiles : List TileState
  pub layouts : List Layout

-- what is read where no tile is: stopped, distance none, no sides, no canisters
abbrev pub no_tile_of : TileState
no_tile_of = record { running = 0; distance = 255; next = 0; token = 0; members = [] }

abbrev pub tile_of : Model → ℕ → TileState
tile_of m t = get_or m.tiles t no_tile_of

abbrev pub runs : TileState → Bool
runs x = eqb x.running 1

abbrev pub runs_of_of : Model → ℕ → Bool
runs_of_of m t = runs (tile_of m t)

abbrev pub distance_of : Model → ℕ → ℕ
distance_of m t = (tile_of m t).distance

abbrev pub next_of : Model → ℕ → ℕ
next_of m t = (tile_of m t).next

abbrev pub token_of : Model → ℕ → ℕ
token_of m t = (tile_of m t).token

abbrev pub members_of : Model → ℕ → List Canister
members_of m t = (tile_of m t).members

-- the numbers of a list of canisters
abbrev pub numbers : List Canister → List ℕ
numbers l = map (λ c. c.number) l

-- the numbers on the floor
unfoldable pub numbers_on : Model → List ℕ
numbers_on m = cat (total m.settings) (λ t. numbers (members_of m t))

-- the floor with other tiles, with one tile anew, with other counters, with other layouts
abbrev pub with_tiles : Model → List TileState → Model
with_tiles m ts = record { settings = m.settings; counters = m.counters; tiles = ts; layouts = m.layouts }

abbrev pub with_tile : Model → ℕ → TileState → Model
with_tile m t x = with_tiles m (set m.tiles t x)

abbrev pub with_counters : Model → Counters → Model
with_counters m c = record { settings = m.settings; counters = c; tiles = m.tiles; layouts = m.layouts }

abbrev pub with_layouts : Model → List Layout → Model
with_layouts m l = record { settings = m.settings; counters = m.counters; tiles = m.tiles; layouts = l }

abbrev pub with_members : TileState → List Canister → TileState
with_members x l = record { running = x.running; distance = x.distance; next = x.next; token = x.token; members = l }
