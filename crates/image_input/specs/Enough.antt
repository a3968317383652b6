-- How much of an input decides what it answers as an image.
use Rattle.std.specs.Prelude.{◌≡◌, List, ℕ, take}
use Rattle.image_bytes.specs.Bytes.{Bytes}
use Rattle.image.specs.Image.{load_answer}

-- before its last record an image without a fault so far has at most 9,052 bytes, and a record at most 65,539
abbrev pub enough : ℕ
enough = 74591

-- no byte after the first 74,591 changes the answer; the whole type of the theorem `loaded_front`
abbrev pub LoadedFront : Type 0
LoadedFront = (xs : List ℕ) → Bytes xs → load_answer (take enough xs) ≡ load_answer xs
