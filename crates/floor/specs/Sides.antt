-- Sides: none 0, west 1, south 2, north 3, east 4. Their cyclic order is 1, 2, 3, 4, then 1.
use Rattle.std.specs.Prelude.{Bool, false, cond, List, [], ◌∷◌, ℕ, zero, suc}
use Rattle.laws.specs.Define.{first_of, bit}

-- a choice by side; what is no side counts as none
abbrev pub by_side : {A : Type 0} → A → A → A → A → A → ℕ → A
by_side z w s n e zero = z
by_side z w s n e (suc zero) = w
by_side z w s n e (suc (suc zero)) = s
by_side z w s n e (suc (suc (suc zero))) = n
by_side z w s n e (suc (suc (suc (suc zero)))) = e
by_side z w s n e (suc (suc (suc (suc (suc k))))) = z

abbrev pub west : ℕ
west = 1

abbrev pub south : ℕ
south = 2

abbrev pub north : ℕ
north = 3

abbrev pub east : ℕ
east = 4

unfoldable pub sides : List ℕ
sides = west ∷ south ∷ north ∷ east ∷ []

-- the side that a neighbour has here
unfoldable pub opposite : ℕ → ℕ
opposite k = by_side 0 east north south west k

-- the sides strictly after k in cyclic order, coming round to k; after none, from west
unfoldable pub after : ℕ → List ℕ
after k =
    by_side (west ∷ south ∷ north ∷ east ∷ []) (south ∷ north ∷ east ∷ west ∷ []) (north ∷ east ∷ west ∷ south ∷ [])
    (east ∷ west ∷ south ∷ north ∷ []) (west ∷ south ∷ north ∷ east ∷ []) k

-- "the first side that wants, strictly after it", coming round to itself if it is alone; p: which sides want
unfoldable pub following : (ℕ → Bool) → ℕ → ℕ
following p k = first_of p (after k)

-- "the turn, if none, becomes the first wanting side in order from west; if it no longer wants, the first side that wants, strictly after it"; none (0) never wants, so a turn that is none goes to `following`, which then begins at west, and the answer is none where no side wants
unfoldable pub chosen : (ℕ → Bool) → ℕ → ℕ
chosen p k = cond (p k) k (following p k)

-- a set of sides as four bits, side k being bit k - 1; none is never in it
unfoldable pub in_set : ℕ → ℕ → Bool
in_set x = by_side false (bit x 0) (bit x 1) (bit x 2) (bit x 3)
