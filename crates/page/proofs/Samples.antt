-- What the program prints, computed through the definition, and `printed_front` on an input longer than the program reads.
use mathlib.Core.Path.{◌≡◌, refl, ◌∙◌}
use mathlib.Core.Bool.{true}
use mathlib.Core.List.{[], ◌∷◌}
use lib.ListN.{set, take}
use Rattle.floor.proofs.Calling.{Table, holds}
use Rattle.image.proofs.Trials.{shows, good}
use Rattle.image.proofs.Instances.{good_bytes}
use Rattle.image_input.proofs.Instances.{long, long_bytes, long_answer}
use Rattle.page_call.specs.Page.{two, letter, distance_text, cell, cells, line, lines, page}
use Rattle.page.specs.Printed.{decimal, refused_text, printed}
use Rattle.page.proofs.Front.{printed_front}

-- `refused 9` and byte 10: one digit
refused_9 : refused_text 9 ≡ 114 ∷ 101 ∷ 102 ∷ 117 ∷ 115 ∷ 101 ∷ 100 ∷ 32 ∷ 57 ∷ 10 ∷ []
unfolding refused_text decimal
refused_9 = refl

refused_10 : refused_text 10 ≡ 114 ∷ 101 ∷ 102 ∷ 117 ∷ 115 ∷ 101 ∷ 100 ∷ 32 ∷ 49 ∷ 48 ∷ 10 ∷ []
unfolding refused_text decimal
refused_10 = refl

-- `refused 12` and byte 10, whole
refused_12 : refused_text 12 ≡ 114 ∷ 101 ∷ 102 ∷ 117 ∷ 115 ∷ 101 ∷ 100 ∷ 32 ∷ 49 ∷ 50 ∷ 10 ∷ []
unfolding refused_text decimal
refused_12 = refl

-- the fresh W 2 floor; its image with a tile that runs by 2; one byte
unfoldable table : Table
table =
    (printed good, 124 ∷ 32 ∷ 48 ∷ 32 ∷ 45 ∷ 32 ∷ 45 ∷ 45 ∷ 124 ∷ 32 ∷ 48 ∷ 32 ∷ 45 ∷ 32 ∷ 32 ∷ 48 ∷ 124 ∷ 10 ∷ [])
    ∷ (printed (set good 45 2), 114 ∷ 101 ∷ 102 ∷ 117 ∷ 115 ∷ 101 ∷ 100 ∷ 32 ∷ 49 ∷ 50 ∷ 10 ∷ [])
    ∷ (printed (0 ∷ []), 114 ∷ 101 ∷ 102 ∷ 117 ∷ 115 ∷ 101 ∷ 100 ∷ 32 ∷ 57 ∷ 10 ∷ [])
    ∷ []

texts : holds table ≡ true
unfolding holds shows good two letter distance_text cell cells line lines page decimal refused_text printed table
texts = refl

-- ---- `printed_front`: a short input, and one of over 74,591 bytes, which is refused by 9
short_front : printed (take 74591 good) ≡ printed good
short_front = printed_front good good_bytes

long_printed : printed long ≡ refused_text 9
unfolding printed
long_printed = rw long_answer

long_front : printed (take 74591 long) ≡ refused_text 9
long_front = printed_front long long_bytes ∙ long_printed
