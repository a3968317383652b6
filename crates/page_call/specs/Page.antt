-- The page of a floor, and what writing it answers.
use Rattle.std.specs.Prelude.{◌≡◌, cond, not, List, [], ◌∷◌, ◌++◌, ℕ, ◌+◌, ◌-◌, ◌*◌, ◌/◌, ◌%◌, ltb, eqb, length, drop}
use Rattle.laws.specs.Define.{tab, join, refusal}
use Rattle.floor.specs.declared.Tile.{Tile}
use Rattle.floor.specs.declared.Floor.{Floor}
use Rattle.floor.specs.Sides.{by_side}
use Rattle.floor.specs.Model.{Model, tile_of}
use Rattle.floor.specs.Memory.{view, head}
use Rattle.floor.specs.Well.{well_formed}
use Rattle.image.specs.declared.Written.{Written}

-- ---- bytes of text
abbrev pub blank : ℕ
blank = 32

abbrev pub dash : ℕ
dash = 45

-- the digit n
abbrev pub digit : ℕ → ℕ
digit n = 48 + n

abbrev pub cross : ℕ
cross = 88

abbrev pub bar : ℕ
bar = 124

-- ---- a tile; `head` is a tile without its canisters: running or not, distance, arrow, how many canisters
-- "in two", "Numbers are right-aligned."
unfoldable pub two : ℕ → List ℕ
two n = cond (ltb n 10) (blank ∷ digit n ∷ []) (digit (n / 10) ∷ digit (n % 10) ∷ [])

-- "arrow letter W, S, N, E or -": 87, 83, 78, 69
unfoldable pub letter : ℕ → ℕ
letter k = by_side dash 87 83 78 69 k

-- "distance in two"; "Distance none is --, a stopped tile's XX."
unfoldable pub distance_text : Tile → List ℕ
distance_text h = cond (eqb h.running 1) (cond (eqb h.distance 255) (dash ∷ dash ∷ []) (two h.distance)) (cross ∷ cross ∷ [])

-- "for each tile seven columns and a bar: count in two, blank, arrow letter …, blank, distance in two"
unfoldable pub cell : Tile → List ℕ
cell h = two h.count ++ ((blank ∷ letter h.next.code ∷ blank ∷ []) ++ (distance_text h ++ (bar ∷ [])))

-- ---- W columns, H rows; g t is tile t
-- the tiles of row r: "Column 0 is west", "Tile number = column × H + row."
unfoldable pub cells : (ℕ → Tile) → ℕ → ℕ → ℕ → List ℕ
cells g w h r = join (tab w (λ c. cell (g (c * h + r))))

-- "Each line is a bar, then for each tile …"; "A line ends in byte 10."
unfoldable pub line : (ℕ → Tile) → ℕ → ℕ → ℕ → List ℕ
line g w h r = (bar ∷ []) ++ (cells g w h r ++ (10 ∷ []))

-- "north row first"; "row 0 is south"
unfoldable pub lines : (ℕ → Tile) → ℕ → ℕ → List ℕ
lines g w h = join (tab h (λ k. line g w h (h - 1 - k)))

unfoldable pub page : Model → List ℕ
page m = lines (λ t. head (tile_of m t)) m.settings.columns m.settings.rows

-- ---- writing it into a buffer of n bytes
-- "43, buffer shorter than the page, checked after 30"
unfoldable pub page_refusal : Floor → ℕ → ℕ
page_refusal f n = refusal ((not (well_formed f), 30) ∷ (ltb n (length (page (view f))), 43) ∷ [])

-- "The library call writes H × (8 × W + 2) bytes": the page of every floor has so many. The whole type of the theorem `page_length`
abbrev pub PageLength : Type 0
PageLength = (m : Model) → length (page m) ≡ m.settings.rows * (8 * m.settings.columns + 2)

-- "answers how many"
unfoldable pub page_answer : Floor → ℕ → Written
page_answer f n = let k = page_refusal f n in record { refusal = k; length = cond (eqb k 0) (length (page (view f))) 0 }

-- the buffer afterwards: "and leaves the others"; refused, "untouched buffers"
unfoldable pub paged : Floor → List ℕ → List ℕ
paged f buffer = let p = page (view f) in cond (eqb (page_refusal f (length buffer)) 0) (p ++ drop (length p) buffer) buffer
