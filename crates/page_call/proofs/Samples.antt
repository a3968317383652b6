-- Pages computed through the definition: the request's example, and rows that tell a wrong definition.
use mathlib.Core.Path.{◌≡◌, refl}
use mathlib.Core.Bool.{true}
use mathlib.Core.List.{List, [], ◌∷◌, ◌++◌}
use Prim.Native.Nat.{ℕ}
use lib.ListN.{length, replicate}
use Rattle.laws.specs.Define.{tab, join, bit}
use Rattle.floor.specs.declared.Floor.{Floor}
use Rattle.floor.specs.declared.Settings.{Settings}
use Rattle.floor.specs.declared.Tile.{Tile}
use Rattle.floor.specs.Settings.{is_hopper}
use Rattle.floor.specs.Model.{TileState, Model}
use Rattle.floor.specs.Memory.{zero_counters, zero_canister, zero_layout, head, relaid}
use Rattle.floor.specs.Calls.{fresh_tile, fresh_floor}
use Rattle.floor.proofs.Calling.{fresh, Table, holds}
use Rattle.page_call.specs.Page.{two, letter, distance_text, cell, cells, line, lines, page, page_refusal, page_answer, paged}
use Rattle.page_call.proofs.Pieces.{page_length}

small : Settings
small = record { columns = 2; rows = 1; hoppers = 2; sources = 1; width = 100; length = 30; gap = 10; travel = 20 }

-- | 0 - --| 0 -  0|
fresh_page : page (fresh_floor small) ≡ 124 ∷ 32 ∷ 48 ∷ 32 ∷ 45 ∷ 32 ∷ 45 ∷ 45 ∷ 124 ∷ 32 ∷ 48 ∷ 32 ∷ 45 ∷ 32 ∷ 32 ∷ 48 ∷ 124 ∷ 10 ∷ []
unfolding page lines line cells cell distance_text letter two join head fresh_floor fresh_tile is_hopper bit tab small
fresh_page = refl

square : Settings
square = record { columns = 2; rows = 2; hoppers = 8; sources = 1; width = 100; length = 30; gap = 10; travel = 20 }

-- north row first: the hopper, tile 3, stands in the north-east
square_page : page (fresh_floor square) ≡
    124 ∷ 32 ∷ 48 ∷ 32 ∷ 45 ∷ 32 ∷ 45 ∷ 45 ∷ 124 ∷ 32 ∷ 48 ∷ 32 ∷ 45 ∷ 32 ∷ 32 ∷ 48 ∷ 124 ∷ 10
    ∷ 124 ∷ 32 ∷ 48 ∷ 32 ∷ 45 ∷ 32 ∷ 45 ∷ 45 ∷ 124 ∷ 32 ∷ 48 ∷ 32 ∷ 45 ∷ 32 ∷ 45 ∷ 45 ∷ 124 ∷ 10 ∷ []
unfolding page lines line cells cell distance_text letter two join head fresh_floor fresh_tile is_hopper bit tab square
square_page = refl

-- 3 × 2, hopper 0; every tile differs from the others: n canisters, arrow, distance
oblong : Settings
oblong = record { columns = 3; rows = 2; hoppers = 1; sources = 62; width = 100; length = 30; gap = 10; travel = 20 }

shown : ℕ → ℕ → ℕ → ℕ → TileState
shown running n arrow distance = record { running = running; distance = distance; next = arrow; token = 0; members = replicate n zero_canister }

varied : Model
varied = record {
  settings = oblong;
  counters = zero_counters;
  tiles = shown 1 0 0 0 ∷ shown 1 9 2 1 ∷ shown 1 10 1 9 ∷ shown 1 16 3 10 ∷ shown 0 1 0 255 ∷ shown 1 2 0 255 ∷ [];
  layouts = [];
}

-- tiles 1, 3 and 5 in the north, 0, 2 and 4 in the south
-- | 9 S  1|16 N 10| 2 - --|
-- | 0 -  0|10 W  9| 1 - XX|
varied_page : page varied ≡
    124 ∷ 32 ∷ 57 ∷ 32 ∷ 83 ∷ 32 ∷ 32 ∷ 49 ∷ 124 ∷ 49 ∷ 54 ∷ 32 ∷ 78 ∷ 32 ∷ 49 ∷ 48 ∷ 124 ∷ 32 ∷ 50 ∷ 32 ∷ 45 ∷ 32 ∷ 45 ∷ 45 ∷ 124 ∷ 10
    ∷ 124 ∷ 32 ∷ 48 ∷ 32 ∷ 45 ∷ 32 ∷ 32 ∷ 48 ∷ 124 ∷ 49 ∷ 48 ∷ 32 ∷ 87 ∷ 32 ∷ 32 ∷ 57 ∷ 124 ∷ 32 ∷ 49 ∷ 32 ∷ 45 ∷ 32 ∷ 88 ∷ 88 ∷ 124 ∷ 10 ∷ []
unfolding page lines line cells cell distance_text letter two join head tab oblong shown varied
varied_page = refl

-- `page_length` there, and on a value without tiles, which is no floor's
varied_length : length (page varied) ≡ 52
unfolding varied oblong
varied_length = page_length varied

bare_length : length (page (record { settings = oblong; counters = zero_counters; tiles = []; layouts = [] })) ≡ 52
unfolding oblong
bare_length = page_length (record { settings = oblong; counters = zero_counters; tiles = []; layouts = [] })

-- the arrows
west_letter : letter 1 ≡ 87
unfolding letter
west_letter = refl

south_letter : letter 2 ≡ 83
unfolding letter
south_letter = refl

north_letter : letter 3 ≡ 78
unfolding letter
north_letter = refl

east_letter : letter 4 ≡ 69
unfolding letter
east_letter = refl

-- one digit and two, at the border
nine : two 9 ≡ 32 ∷ 57 ∷ []
unfolding two
nine = refl

ten : two 10 ≡ 49 ∷ 48 ∷ []
unfolding two
ten = refl

-- two digits: the most canisters and the greatest distance
sixteen : two 16 ≡ 49 ∷ 54 ∷ []
unfolding two
sixteen = refl

sixty_three : two 63 ≡ 54 ∷ 51 ∷ []
unfolding two
sixty_three = refl

-- a stopped tile
stopped_text : (h : Tile) → h.running ≡ 0 → distance_text h ≡ 88 ∷ 88 ∷ []
unfolding distance_text
stopped_text h e = rw e refl

-- ---- writing the page of 18 bytes into a buffer of n nines, on the fresh W 2 floor, hopper 1, and on the same malformed by a set without a name
unfoldable malformed : Floor
malformed = relaid (fresh 2 1 1) (record { name = 0; set = 1 } ∷ replicate 7 zero_layout)

unfoldable answered : Floor → ℕ → List ℕ
unfolding holds two letter distance_text cell cells line lines page page_refusal page_answer paged
answered f n = let a = page_answer f n in a.refusal ∷ a.length ∷ paged f (replicate n 9)

unfoldable small_text : List ℕ
small_text = 124 ∷ 32 ∷ 48 ∷ 32 ∷ 45 ∷ 32 ∷ 45 ∷ 45 ∷ 124 ∷ 32 ∷ 48 ∷ 32 ∷ 45 ∷ 32 ∷ 32 ∷ 48 ∷ 124 ∷ 10 ∷ []

unfoldable writing : Table
writing =
    -- 43, a byte too few and none at all: the buffer is as it was
    (answered (fresh 2 1 1) 17, 43 ∷ 0 ∷ replicate 17 9)
    ∷ (answered (fresh 2 1 1) 0, 43 ∷ 0 ∷ [])
    -- the exact length; a longer buffer keeps the bytes after it
    ∷ (answered (fresh 2 1 1) 18, 0 ∷ 18 ∷ small_text)
    ∷ (answered (fresh 2 1 1) 20, 0 ∷ 18 ∷ small_text ++ (9 ∷ 9 ∷ []))
    -- 30, also where the buffer is too short
    ∷ (answered malformed 17, 30 ∷ 0 ∷ replicate 17 9)
    ∷ (answered malformed 20, 30 ∷ 0 ∷ replicate 20 9)
    ∷ []

written_pages : holds writing ≡ true
unfolding holds malformed answered small_text writing
written_pages = refl
