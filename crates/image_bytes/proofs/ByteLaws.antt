-- Laws of bytes: one codec, and its two laws for every row of widths.
use mathlib.Core.Path.{◌≡◌, refl, sym, ap}
use mathlib.Core.List.{List, [], ◌∷◌, ◌++◌, append_assoc}
use Prim.Native.Nat.{ℕ, zero, suc, ◌/◌, ◌^◌, ◌≤◌, ◌<◌}
use native.Mathlib.Omega.{arith}
use native.Mathlib.Nat.{div-add-mod', div-lt_iff_lt-mul}
use lib.ListN.{length, take, drop, length-append, length-drop}
use lib.Seq.{drop_at, take-add}
use lib.Arith.{digits_div, digits_mod}
use Rattle.image_bytes.specs.Bytes.{le, bytes, fields_of, bytes_of, width, Bytes}

-- ---- one number
pub bytes_length : (n x : ℕ) → length (bytes n x) ≡ n
unfolding bytes
bytes_length zero x = refl
bytes_length (suc n) x = ap suc (bytes_length n (x / 256))

-- read after written
pub le_bytes : (n x : ℕ) (ys : List ℕ) → x < 256 ^ n → le n (bytes n x ++ ys) ≡ x
unfolding le bytes
le_bytes zero x ys h = omega arith
le_bytes (suc n) x ys h =
    let k : x / 256 < 256 ^ n = (div-lt_iff_lt-mul {k = 256} {x = x} {y = 256 ^ n} (omega arith)).1 (omega arith) in
    rw (le_bytes n (x / 256) ys k) (div-add-mod' x 256)

-- written after read
pub bytes_le : (n : ℕ) (xs : List ℕ) → Bytes xs → n ≤ length xs → bytes n (le n xs) ≡ take n xs
unfolding le bytes
bytes_le zero xs b h = refl
bytes_le (suc n) [] b h = absurd (omega arith)
bytes_le (suc n) (x ∷ xs) b h = rw (digits_mod (le n xs) b.0, digits_div (le n xs) b.0, bytes_le n xs b.1 (omega arith))

-- ---- lists of bytes
pub bytes_drop : (n : ℕ) (xs : List ℕ) → Bytes xs → Bytes (drop n xs)
bytes_drop zero xs b = b
bytes_drop (suc n) [] b = tt
bytes_drop (suc n) (x ∷ xs) b = bytes_drop n xs b.1

-- ---- a row of fields
pub row_length : (ws vs : List ℕ) → length vs ≡ length ws → length (bytes_of ws vs) ≡ width ws
unfolding bytes_of
row_length [] vs h = refl
row_length (w ∷ ws) [] h = absurd (omega arith)
row_length (w ∷ ws) (v ∷ vs) h = rw (length-append, bytes_length w v, row_length ws vs (omega arith))

-- each value fits its width
abbrev pub Fit : List ℕ → List ℕ → Type 0
Fit [] [] = Unit {0}
Fit [] (v ∷ vs) = ⊥
Fit (w ∷ ws) [] = ⊥
Fit (w ∷ ws) (v ∷ vs) = (v < 256 ^ w) × Fit ws vs

-- the fields of what was written are the values
pub fields_bytes : (ws vs ys : List ℕ) → Fit ws vs → fields_of ws (bytes_of ws vs ++ ys) ≡ vs
unfolding fields_of bytes_of
fields_bytes [] [] ys h = refl
fields_bytes [] (v ∷ vs) ys h = absurd h
fields_bytes (w ∷ ws) [] ys h = absurd h
fields_bytes (w ∷ ws) (v ∷ vs) ys h =
    rw (append_assoc (bytes w v) (bytes_of ws vs) ys, le_bytes w v (bytes_of ws vs ++ ys) h.0, drop_at (bytes w v) (bytes_of ws vs ++ ys) w (bytes_length w v), fields_bytes ws vs ys h.1)

-- the fields that were read, written again, are the bytes
pub bytes_fields : (ws xs : List ℕ) → Bytes xs → width ws ≤ length xs → bytes_of ws (fields_of ws xs) ≡ take (width ws) xs
unfolding fields_of bytes_of
bytes_fields [] xs b h = refl
bytes_fields (w ∷ ws) xs b h =
    let k : width ws ≤ length (drop w xs) = rw length-drop (omega arith) in
    rw (bytes_le w xs b (omega arith), bytes_fields ws (drop w xs) (bytes_drop w xs b) k) (sym (take-add w (width ws) xs))
