-- Bytes put into a buffer at a place; those around them stay.
use Rattle.std.specs.Prelude.{List, ◌++◌, ℕ, ◌+◌, length, take, drop}

-- the buffer l with bs from place `at` on
unfoldable pub put : List ℕ → ℕ → List ℕ → List ℕ
put l at bs = take at l ++ (bs ++ drop (at + length bs) l)
