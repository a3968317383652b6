-- The settings of a floor, and the refusals 1 to 3 of settings.
use Rattle.std.specs.Prelude.{Bool, List, [], ◌∷◌, ℕ, ◌+◌, ◌-◌, ◌*◌, ◌/◌, ◌^◌, ◌≤◌, leb, ltb, eqb, length}
use Rattle.laws.specs.Define.{bit, bits_below, any_of, refusal}
use Rattle.floor.specs.declared.Settings.{Settings}

-- "W columns, H rows, … C = W × H"
abbrev pub total : Settings → ℕ
total s = s.columns * s.rows

-- "d = l + r"
abbrev pub spacing : Settings → ℕ
spacing s = s.length + s.gap

-- U - l: a place is "0 to U - l on each axis"
abbrev pub span : Settings → ℕ
span s = s.width - s.length

-- "Up to four hoppers": the set of them is 64 bits, bit t for tile t
unfoldable pub is_hopper : Settings → ℕ → Bool
is_hopper s t = bit s.hoppers t

-- the hoppers "in tile order"
unfoldable pub hoppers_of : Settings → List ℕ
hoppers_of s = bits_below s.hoppers (total s)

-- "1. W, H or C outside its range."
abbrev pub size_tests : Settings → List (Bool × ℕ) → List (Bool × ℕ)
size_tests s rest = (ltb s.columns 1, 1) ∷ (ltb 8 s.columns, 1) ∷ (ltb s.rows 1, 1) ∷ (ltb 8 s.rows, 1) ∷ (ltb (total s) 2, 1) ∷ rest

-- "2. Hopper not on the floor, or a fill bit for the hopper or for no tile."; "rules 2 and 8 … cover all of them. A fresh floor takes one to four, else 2." A set of 2 ^ C or more has a bit for no tile.
abbrev pub set_tests : Settings → List (Bool × ℕ) → List (Bool × ℕ)
set_tests s rest =
    (leb (2 ^ total s) s.hoppers, 2) ∷ (ltb (length (hoppers_of s)) 1, 2) ∷ (ltb 4 (length (hoppers_of s)), 2)
    ∷ (any_of (bit s.sources) (hoppers_of s), 2) ∷ (leb (2 ^ total s) s.sources, 2) ∷ rest

-- "3. A measure breaks the rules above."
abbrev pub measure_tests : Settings → List (Bool × ℕ)
measure_tests s =
    (ltb s.width 2, 3) ∷ (ltb 60000 s.width, 3) ∷ (ltb s.travel 1, 3) ∷ (leb s.length s.travel, 3)
    ∷ (leb s.width (spacing s), 3) ∷ (ltb 3 (span s / spacing s), 3) ∷ []

unfoldable pub settings_tests : Settings → List (Bool × ℕ)
settings_tests s = size_tests s (set_tests s (measure_tests s))

-- "Fresh: 1, 2, 3."
unfoldable pub settings_refusal : Settings → ℕ
settings_refusal s = refusal (settings_tests s)

-- "the settings pass 1 to 3"
unfoldable pub settings_pass : Settings → Bool
settings_pass s = eqb (settings_refusal s) 0

-- what a pass over the tiles in memory asks of the settings; settings that pass have it
abbrev pub Ranged : Settings → Type 0
Ranged s = (1 ≤ s.rows) × (s.rows ≤ 8) × (total s ≤ 64)
