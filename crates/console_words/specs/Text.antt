-- What a text says: its words, and the number that a word writes. Assumes nothing.
use Rattle.std.specs.Prelude.{Bool, true, false, cond, ◌&&◌, List, [], ◌∷◌, ℕ, zero, suc, ◌+◌, ◌*◌, ◌-◌, leb, Option, None, Some}

-- the text from its first byte that is no blank; a space and every byte below it is a blank
unfoldable pub after_blanks : List ℕ → List ℕ
after_blanks [] = []
after_blanks (b ∷ s) = cond (leb b 32) (after_blanks s) (b ∷ s)

-- the bytes before the first blank
unfoldable pub word : List ℕ → List ℕ
word [] = []
word (b ∷ s) = cond (leb b 32) [] (b ∷ word s)

-- the text from its first blank
unfoldable pub after_word : List ℕ → List ℕ
after_word [] = []
after_word (b ∷ s) = cond (leb b 32) (b ∷ s) (after_word s)

-- the word with k words before it; empty where there is none
unfoldable pub nth_word : ℕ → List ℕ → List ℕ
nth_word zero s = word (after_blanks s)
nth_word (suc k) s = nth_word k (after_word (after_blanks s))

-- only the bytes of the digits 0 to 9
unfoldable pub only_digits : List ℕ → Bool
only_digits [] = true
only_digits (b ∷ s) = (leb 48 b && leb b 57) && only_digits s

-- the number that the digits write after those of n
unfoldable pub value_after_of : ℕ → List ℕ → ℕ
value_after_of n [] = n
value_after_of n (b ∷ s) = value_after_of (10 * n + (b - 48)) s

unfoldable pub has_some : List ℕ → Bool
has_some [] = false
has_some (b ∷ s) = true

unfoldable pub value_if : Bool → ℕ → Option ℕ
value_if true n = Some n
value_if false n = None

-- the number that a word writes: some digits, nothing else, within 32 bits
unfoldable pub number_of : List ℕ → Option ℕ
number_of s = value_if (has_some s && (only_digits s && leb (value_after_of 0 s) 4294967295)) (value_after_of 0 s)
