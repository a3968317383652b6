-- What the program prints for the bytes of its input.
use Rattle.std.specs.Prelude.{◌≡◌, cond, List, [], ◌∷◌, ◌++◌, ℕ, ◌/◌, ◌%◌, ltb, eqb, take}
use Rattle.image_bytes.specs.Bytes.{Bytes}
use Rattle.floor.specs.Memory.{view}
use Rattle.image.specs.Image.{load_answer}
use Rattle.page_call.specs.Page.{digit, page}
use Rattle.image_input.specs.Enough.{enough}

-- for a number below a hundred; a load's are 1, 2, 3 and 9 to 12
unfoldable pub decimal : ℕ → List ℕ
decimal n = cond (ltb n 10) (digit n ∷ []) (digit (n / 10) ∷ digit (n % 10) ∷ [])

-- "A refused image prints `refused `, its number and byte 10.": the letters by their bytes
unfoldable pub refused_text : ℕ → List ℕ
refused_text n = 114 ∷ 101 ∷ 102 ∷ 117 ∷ 115 ∷ 101 ∷ 100 ∷ 32 ∷ (decimal n ++ (10 ∷ []))

-- "A program reads an image from standard input and prints the floor", and nothing else
unfoldable pub printed : List ℕ → List ℕ
printed xs = let a = load_answer xs in cond (eqb a.refusal 0) (page (view a.floor)) (refused_text a.refusal)

-- and no byte after the first 74,591 changes it; the whole type of the theorem `printed_front`
abbrev pub PrintedFront : Type 0
PrintedFront = (xs : List ℕ) → Bytes xs → printed (take enough xs) ≡ printed xs
