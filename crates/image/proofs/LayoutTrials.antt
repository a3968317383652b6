-- [8]: images with layouts. One table, one proof; each row is a test that must pass.
use mathlib.Core.Path.{◌≡◌, refl}
use mathlib.Core.Bool.{Bool, true}
use mathlib.Core.List.{List, [], ◌∷◌, ◌++◌}
use Prim.Native.Nat.{ℕ, zero, suc}
use lib.ListN.{length, set, take, drop, replicate}
use lib.Dec.{eqb}
use Rattle.laws.specs.Define.{all_of}
use Rattle.laws.proofs.Lists.{same}
use Rattle.floor.specs.declared.Floor.{Floor}
use Rattle.floor.specs.Memory.{view}
use Rattle.floor.specs.Calls.{fresh_answer}
use Rattle.floor.proofs.Calling.{got, several, fresh, stop, named, keeps, layouts_read_lem, same_floor_lem}
use Rattle.image.specs.Image.{encode, load_answer}
use Rattle.image.proofs.Trials.{shows}

-- W 2, hopper 1, and its image of 64 bytes: records 1 and 2 have 40, each tile's record 10
unfoldable blank : Floor
blank = fresh 2 1 1

unfoldable good : List ℕ
good = encode (view blank)

-- W 4, hoppers 0 and 3: records 1 and 2 have 52 bytes
unfoldable ends : Floor
ends = got (fresh_answer (several 4 1 9 20))

-- the record of a layout: the bytes of its name, zeros after them, and the lowest byte of its set
unfoldable layout : List ℕ → ℕ → List ℕ
layout name s = 16 ∷ 0 ∷ 5 ∷ 0 ∷ take 8 (name ++ replicate 8 0) ++ (s ∷ replicate 7 0)

-- records of A, B and so on, n of them, with the set s
unfoldable lettered : ℕ → ℕ → ℕ → List ℕ
lettered x s zero = []
lettered x s (suc n) = layout (x ∷ []) s ++ lettered (suc x) s n

-- the image with these bytes after its first n
unfoldable among : List ℕ → ℕ → List ℕ → List ℕ
among xs n l = take n xs ++ (l ++ drop n xs)

-- records between kinds 2 and 3
unfoldable with : List ℕ → List ℕ
with l = among good 40 l

unfoldable table : List Bool
table =
    -- an older image has no layouts, and is written as before
    same (layouts_read_lem (load_answer good).floor) (0 ∷ [])
    ∷ same_floor_lem (load_answer good).floor blank
    -- AB with both tiles, then B with the hopper alone: the first letter first, by rising name
    ∷ same (encode (view (keeps (named (65 ∷ 66 ∷ [])) blank))) (with (16 ∷ 0 ∷ 5 ∷ 0 ∷ 65 ∷ 66 ∷ 0 ∷ 0 ∷ 0 ∷ 0 ∷ 0 ∷ 0 ∷ 3 ∷ 0 ∷ 0 ∷ 0 ∷ 0 ∷ 0 ∷ 0 ∷ 0 ∷ []))
    ∷ same (encode (view (keeps (named (66 ∷ [])) (stop 0 (keeps (named (65 ∷ 66 ∷ [])) blank))))) (among (encode (view (stop 0 blank))) 40 (layout (65 ∷ 66 ∷ []) 3 ++ layout (66 ∷ []) 2))
    ∷ same_floor_lem (load_answer (with (layout (65 ∷ 66 ∷ []) 3))).floor (keeps (named (65 ∷ 66 ∷ [])) blank)
    ∷ shows (with (layout (65 ∷ 66 ∷ []) 3 ++ layout (66 ∷ []) 2)) 0
    ∷ shows (with (layout (replicate 8 90) 3)) 0
    -- 12: the same name twice, names that fall
    ∷ shows (with (layout (65 ∷ []) 3 ++ layout (65 ∷ []) 3)) 12
    ∷ shows (with (layout (66 ∷ []) 3 ++ layout (65 ∷ 66 ∷ []) 3)) 12
    -- 12: no name, sixteen zeros, these also before and after good ones
    ∷ shows (with (layout [] 3)) 12
    ∷ shows (with (layout [] 0)) 12
    ∷ shows (with (layout (65 ∷ []) 3 ++ layout [] 0)) 12
    ∷ shows (with (layout [] 0 ++ layout (65 ∷ []) 3)) 12
    ∷ shows (with (lettered 65 3 7 ++ layout [] 0)) 12
    -- 12: a letter after zeros, small letters, bytes beside A to Z
    ∷ shows (with (layout (0 ∷ 65 ∷ []) 3)) 12
    ∷ shows (with (layout (65 ∷ 0 ∷ 65 ∷ []) 3)) 12
    ∷ shows (with (layout (97 ∷ []) 3)) 12
    ∷ shows (with (layout (64 ∷ []) 3)) 12
    ∷ shows (with (layout (91 ∷ []) 3)) 12
    -- 12: the hopper stopped, a bit for no tile, the highest bit
    ∷ shows (with (layout (65 ∷ []) 2)) 0
    ∷ shows (with (layout (65 ∷ []) 1)) 12
    ∷ shows (with (layout (65 ∷ []) 7)) 12
    ∷ shows (set (with (layout (65 ∷ []) 3)) 59 128) 12
    -- 12: one of two hoppers stopped
    ∷ shows (among (encode (view ends)) 52 (layout (65 ∷ []) 9)) 0
    ∷ shows (among (encode (view ends)) 52 (layout (65 ∷ []) 8)) 12
    ∷ shows (among (encode (view ends)) 52 (layout (65 ∷ []) 1)) 12
    ∷ shows (among (encode (view ends)) 52 (layout (65 ∷ []) 7)) 12
    -- eight, bad or not; 10: a ninth, bad or not
    ∷ shows (with (lettered 65 3 8)) 0
    ∷ shows (with (lettered 97 3 8)) 12
    ∷ shows (with (lettered 65 3 9)) 10
    ∷ shows (with (lettered 97 3 9)) 10
    -- 11: a length of 15, of 17, of none; before the name is looked at
    ∷ shows (with (15 ∷ 0 ∷ 5 ∷ 0 ∷ 65 ∷ replicate 7 0 ++ (3 ∷ replicate 6 0))) 11
    ∷ shows (with (17 ∷ 0 ∷ 5 ∷ 0 ∷ 65 ∷ replicate 7 0 ++ (3 ∷ replicate 8 0))) 11
    ∷ shows (with (0 ∷ 0 ∷ 5 ∷ 0 ∷ [])) 11
    ∷ shows (with (layout [] 0 ++ (15 ∷ 0 ∷ 5 ∷ 0 ∷ replicate 15 0))) 11
    -- 9: the end within it, within its first four bytes, after it, within a ninth
    ∷ shows (take 59 (with (layout (65 ∷ []) 3))) 9
    ∷ shows (take 43 (with (layout (65 ∷ []) 3))) 9
    ∷ shows (take 60 (with (layout (65 ∷ []) 3))) 9
    ∷ shows (take 210 (with (lettered 65 3 9))) 9
    ∷ shows (with (layout (65 ∷ []) 3) ++ (0 ∷ [])) 9
    -- 10: before record 2, after the first tile's record, before the end, in place of the end
    ∷ shows (among good 24 (layout (65 ∷ []) 3)) 10
    ∷ shows (among good 50 (layout (65 ∷ []) 3)) 10
    ∷ shows (among good 60 (layout (65 ∷ []) 3)) 10
    ∷ shows (take 60 good ++ layout (65 ∷ []) 3) 10
    -- what is wrong in a name or a set is told last: 9, 10 and 11 of a later record stand before it
    ∷ shows (with (layout [] 0) ++ (0 ∷ [])) 9
    ∷ shows (set (with (layout [] 0)) 62 4) 10
    ∷ shows (set (with (layout (97 ∷ []) 3)) 64 1) 11
    ∷ eqb (length (with (lettered 65 3 8))) 224
    ∷ []

trials : all_of (λ b. b) table ≡ true
unfolding shows blank good ends layout lettered among with table
trials = refl
