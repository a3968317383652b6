-- Numbers as little-endian bytes, and rows of fields of given widths.
use Rattle.std.specs.Prelude.{List, [], ◌∷◌, ◌++◌, ℕ, zero, suc, ◌+◌, ◌*◌, ◌/◌, ◌%◌, ◌<◌, drop, get_or}

-- the number that the first n bytes hold, the low byte first; a byte that isn't there counts as 0
unfoldable pub le : ℕ → List ℕ → ℕ
le zero xs = 0
le (suc n) [] = 0
le (suc n) (x ∷ xs) = le n xs * 256 + x

-- a number as n bytes, the low byte first
unfoldable pub bytes : ℕ → ℕ → List ℕ
bytes zero x = []
bytes (suc n) x = x % 256 ∷ bytes n (x / 256)

-- the fields of these widths that stand at the front, one after the other
unfoldable pub fields_of : List ℕ → List ℕ → List ℕ
fields_of [] xs = []
fields_of (w ∷ ws) xs = le w xs ∷ fields_of ws (drop w xs)

-- the values as fields of these widths, one after the other
unfoldable pub bytes_of : List ℕ → List ℕ → List ℕ
bytes_of [] vs = []
bytes_of (w ∷ ws) [] = []
bytes_of (w ∷ ws) (v ∷ vs) = bytes w v ++ bytes_of ws vs

-- field k of a row
abbrev pub field : List ℕ → ℕ → List ℕ → ℕ
field ws k b = get_or (fields_of ws b) k 0

abbrev pub width : List ℕ → ℕ
width [] = 0
width (w ∷ ws) = w + width ws

-- every number of the list is a byte
abbrev pub Bytes : List ℕ → Type 0
Bytes [] = Unit {0}
Bytes (x ∷ xs) = (x < 256) × Bytes xs
