-- Named layouts: "Up to eight layouts are kept with the floor, each a name of 1 to 8 letters A to Z and the set of tiles that ran when it was kept."
use Rattle.std.specs.Prelude.{Bool, true, cond, not, ◌&&◌, ◌||◌, List, [], ◌∷◌, ℕ, zero, suc, ◌+◌, ◌*◌, ◌/◌, ◌%◌, ◌^◌, leb, ltb, eqb, length}
use Rattle.laws.specs.Define.{all_of, any_of, pairs_of, filter, bit}
use Rattle.floor.specs.declared.Settings.{Settings}
use Rattle.floor.specs.declared.Layout.{Layout}
use Rattle.floor.specs.Settings.{total, hoppers_of}

-- ---- names
-- a name's bytes as one number, the first in the highest byte: names rise as their numbers do
unfoldable pub name_number : List ℕ → ℕ
name_number [] = 0
name_number (x ∷ l) = x * 2 ^ (8 * length l) + name_number l

-- the lowest k bytes of a name, the highest of them first
unfoldable pub letters : ℕ → ℕ → List ℕ
letters zero n = []
letters (suc k) n = n / 2 ^ (8 * k) % 256 ∷ letters k n

-- "letters A to Z"
unfoldable pub is_letter : ℕ → Bool
is_letter x = leb 65 x && leb x 90

-- letters, then zeros
unfoldable pub spelled : List ℕ → Bool
spelled [] = true
spelled (x ∷ l) = (is_letter x && spelled l) || (eqb x 0 && all_of (λ y. eqb y 0) l)

-- "a name of 1 to 8 letters A to Z", "8 bytes, zero filled"
unfoldable pub name_ok : ℕ → Bool
name_ok n = ltb 0 n && (ltb n (2 ^ 64) && spelled (letters 8 n))

-- ---- what is kept
-- "Bad … names, a stopped hopper or a bit for no tile"
unfoldable pub layout_ok : Settings → Layout → Bool
layout_ok s x = name_ok x.name && (ltb x.set (2 ^ total s) && all_of (bit x.set) (hoppers_of s))

-- "Up to eight layouts"; "unsorted or repeated names"
unfoldable pub layouts_sound : Settings → List Layout → Bool
layouts_sound s l = leb (length l) 8 && (all_of (layout_ok s) l && pairs_of (λ x y. ltb x.name y.name) l)

-- the set of the numbers below n that pass, bit k for number k
unfoldable pub set_below : (ℕ → Bool) → ℕ → ℕ
set_below p zero = 0
set_below p (suc n) = cond (p n) (2 ^ n) 0 + set_below p n

-- ---- holding, keeping, forgetting
unfoldable pub name_held : List Layout → ℕ → Bool
name_held l name = any_of (λ x. eqb x.name name) l

-- the set kept under a name; 0 where it is not held
unfoldable pub set_of : List Layout → ℕ → ℕ
set_of [] name = 0
set_of (x ∷ l) name = let r = set_of l name in cond (eqb x.name name) x.set r

-- "Keeping under a held name replaces it"; by rising name
unfoldable pub keep_in : Layout → List Layout → List Layout
keep_in x [] = x ∷ []
keep_in x (y ∷ l) = let r = keep_in x l in cond (eqb x.name y.name) (x ∷ l) (cond (ltb x.name y.name) (x ∷ y ∷ l) (y ∷ r))

-- "forgetting a name frees its place"
unfoldable pub forget_in : ℕ → List Layout → List Layout
forget_in name l = filter (λ x. not (eqb x.name name)) l
