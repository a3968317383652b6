-- What a typed call on a floor of the barge leaves: the call's own answer, and nothing where the line can't be read.
use Rattle.std.specs.Prelude.{ℕ, List, Option, slice_index}
use Rattle.barge.specs.declared.Barge.{Barge}
use Rattle.barge.specs.declared.BargeAnswer.{BargeAnswer}
use Rattle.barge.specs.declared.BargePlaced.{BargePlaced}
use Rattle.barge.specs.Barges.{barge_book, barge_book_anywhere, barge_stop, barge_repair}
use Rattle.console_parse.specs.Line.{only_numbers, read}
use Rattle.console_book.specs.Typed.{canister_typed}
use Rattle.console_barge.specs.declared.WithBarge.{WithBarge}
use Rattle.console_barge.specs.Aboard.{after_on}

-- the `count` numbers after the call's name, where no word stands after them
unfoldable pub arguments_on : List ℕ → ℕ → Option (List ℕ)
arguments_on line count = only_numbers line 3 count

-- after an answer
abbrev pub answered_on : WithBarge → BargeAnswer → WithBarge
answered_on a x = after_on a x.refusal x.barge

abbrev pub placed_on : WithBarge → BargePlaced → WithBarge
placed_on a x = after_on a x.refusal x.barge

-- a call with one number, the tile's, on floor k
abbrev pub tile_on : (Barge → ℕ → ℕ → BargeAnswer) → WithBarge → List ℕ → ℕ → WithBarge
tile_on call a line k = read (arguments_on line 1) (λ n. answered_on a (call a.barge k (slice_index n 0))) a

unfoldable pub stop_on : WithBarge → List ℕ → ℕ → WithBarge
stop_on a line k = tile_on barge_stop a line k

unfoldable pub repair_on : WithBarge → List ℕ → ℕ → WithBarge
repair_on a line k = tile_on barge_repair a line k

-- a booking with two numbers, or with four
unfoldable pub book_on : WithBarge → List ℕ → ℕ → WithBarge
book_on a line k =
    read (arguments_on line 2) (λ two. placed_on a (barge_book_anywhere a.barge k (slice_index two 0) (slice_index two 1)))
    (read (arguments_on line 4) (λ four. answered_on a (barge_book a.barge k (slice_index four 0) (canister_typed four))) a)
