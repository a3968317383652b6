-- What a typed line says: its words as names, numbers and sets of tiles. Assumes nothing.
use Rattle.std.specs.Prelude.{◌≡◌, ◌≢◌, Bool, true, false, cond, not, List, [], ◌∷◌, ℕ, ◌+◌, leb, ltb, eqb, length, get_or, replicate, Option, None, Some}
use Rattle.laws.specs.Define.{tab, all_of, any_of, all_below, bit}
use Rattle.console_words.specs.Text.{nth_word, has_some, number_of}
use Rattle.console_parse.specs.declared.Sources.{Sources}
use Rattle.console_parse.specs.declared.Sources.TheVariants.{All, Set}

-- the line has at most k words
unfoldable pub ends_by : ℕ → List ℕ → Bool
ends_by k line = not (has_some (nth_word k line))

-- the word is empty or begins with #
unfoldable pub remark : List ℕ → Bool
remark [] = true
remark (b ∷ w) = eqb b 35

-- the number that the line's word with k words before it writes
unfoldable pub number_at : List ℕ → ℕ → Option ℕ
number_at line k = number_of (nth_word k line)

-- a word was a number
abbrev pub is_value : Option ℕ → Bool
is_value (Some x) = true
is_value None = false

-- the number that a word was, or 0
abbrev pub value_of : Option ℕ → ℕ
value_of (Some x) = x
value_of None = 0

-- each of the `count` words from word `first` on is a number
unfoldable pub all_numbers : List ℕ → ℕ → ℕ → Bool
all_numbers line first count = all_below (λ k. is_value (number_at line (first + k))) count

-- the value of word first + k; 0 where it is no number, or k is not below count
unfoldable pub value_at : List ℕ → ℕ → ℕ → ℕ → ℕ
value_at line first count k = cond (ltb k count) (value_of (number_at line (first + k))) 0

-- the `count` numbers from word `first` on, each a number, then zeros
unfoldable pub numbers_of : List ℕ → ℕ → ℕ → Option (List ℕ)
numbers_of line first count = cond (all_numbers line first count) (Some (tab 4 (value_at line first count))) None

-- the same, where no word stands after them
unfoldable pub only_numbers : List ℕ → ℕ → ℕ → Option (List ℕ)
only_numbers line first count = cond (ends_by (first + count) line) (numbers_of line first count) None

-- the `count` numbers after the line's first word, where no word stands after them
unfoldable pub arguments_of : List ℕ → ℕ → Option (List ℕ)
arguments_of line count = only_numbers line 1 count

-- what a call does with its numbers, and what where they can't be read
abbrev pub read : {A : Type 0} → Option (List ℕ) → (List ℕ → A) → A → A
read (Some n) f x = f n
read None f x = x

-- one byte more at the front of the first part
abbrev pub longer : ℕ → List (List ℕ) → List (List ℕ)
longer b [] = (b ∷ []) ∷ []
longer b (p ∷ ps) = (b ∷ p) ∷ ps

-- the parts of a word between its commas
unfoldable pub parts : List ℕ → List (List ℕ)
parts [] = [] ∷ []
parts (b ∷ s) = cond (eqb b 44) ([] ∷ parts s) (longer b (parts s))

-- the number of a tile, 0 to 63
abbrev pub is_tile : Option ℕ → Bool
is_tile (Some t) = leb t 63
is_tile None = false

-- every part is the number of a tile
unfoldable pub only_tiles : List (List ℕ) → Bool
only_tiles ps = all_of (λ p. is_tile (number_of p)) ps

-- some part is the number t
unfoldable pub lists : List (List ℕ) → ℕ → Bool
lists ps t = any_of (λ p. eqb t (value_of (number_of p))) ps

-- what tiles with commas between them are read as: their set
unfoldable pub TilesIn : List ℕ → Option ℕ → Type 0
TilesIn word (Some s) = (only_tiles (parts word) ≡ true) × ((t : ℕ) → bit s t ≡ lists (parts word) t)
TilesIn word None = only_tiles (parts word) ≡ false

-- the same of fill tiles
abbrev pub FillTilesIn : List ℕ → Option Sources → Type 0
FillTilesIn word (Some All) = ⊥
FillTilesIn word (Some (Set s)) = TilesIn word (Some s)
FillTilesIn word None = TilesIn word None

-- the bytes of `all`
abbrev pub all_word : List ℕ
all_word = 97 ∷ 108 ∷ 108 ∷ []

-- the bytes of `none`
abbrev pub none_word : List ℕ
none_word = 110 ∷ 111 ∷ 110 ∷ 101 ∷ []

-- what the word of fill tiles is read as: all, none, or tiles
pub record SourcesIn (word : List ℕ) (r : Option Sources) : Type 0 where
  pub all : word ≡ all_word → r ≡ Some All
  pub none : word ≡ none_word → r ≡ Some (Set 0)
  pub tiles : word ≢ all_word → word ≢ none_word → FillTilesIn word r

-- a word as the eight bytes of a name; a longer one is none
unfoldable pub name_in : List ℕ → List ℕ
name_in word = cond (ltb 8 (length word)) (replicate 8 0) (tab 8 (λ i. get_or word i 0))
