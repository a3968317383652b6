-- A number, and a field of a row, that stand at a place of a list of bytes; for the code that reads.
use mathlib.Core.Path.{◌≡◌, refl, sym, ◌∙◌}
use mathlib.Core.List.{List, [], ◌∷◌}
use Prim.Native.Nat.{ℕ, zero, suc, ◌+◌, ◌*◌, ◌^◌, ◌<◌}
use native.Mathlib.Omega.{arith}
use native.Mathlib.Nat.{suc-add, zero-add, pow-suc, mul_assoc}
use lib.ListN.{length, take, drop, get_or}
use lib.Seq.{drop-drop, drop-cons}
use Rattle.image_bytes.specs.Bytes.{le, fields_of, field, width}

pub le_one : (s : List ℕ) (at : ℕ) → at < length s → le 1 (drop at s) ≡ get_or s at 0
unfolding le
le_one s at h = rw (drop-cons s at 0 h) (omega arith)

-- the byte at `up` is the one after `at`
pub le_two : (s : List ℕ) (at up : ℕ) → up ≡ at + 1 → up < length s → le 2 (drop at s) ≡ get_or s at 0 + get_or s up 0 * 256
unfolding le
le_two s at up e h =
    let h1 : at < length s = omega arith in
    let h2 : suc at < length s = omega arith in
    let n : up ≡ suc at = omega arith in
    rw (n, drop-cons s at 0 h1, drop-cons s (suc at) 0 h2) (omega arith)

le_nil : (n : ℕ) → le n [] ≡ 0
unfolding le
le_nil zero = refl
le_nil (suc n) = refl

-- a wide number in two parts
pub le_add : (m n : ℕ) (xs : List ℕ) → le (m + n) xs ≡ le m xs + le n (drop m xs) * 256 ^ m
unfolding le
le_add zero n xs = rw (zero-add n) (omega arith)
le_add (suc m) n [] = rw (suc-add m n, le_nil n) (omega arith)
le_add (suc m) n (x ∷ xs) =
    let q : ℕ = le n (drop m xs) in
    let e : q * 256 ^ suc m ≡ q * 256 ^ m * 256 = rw pow-suc (sym (mul_assoc q (256 ^ m) 256)) in
    rw (suc-add m n, le_add m n xs) (omega (arith, e))

pub le_four : (s : List ℕ) (at : ℕ) → le 4 (drop at s) ≡ le 2 (drop at s) + le 2 (drop (at + 2) s) * 65536
le_four s at = le_add 2 2 (drop at s) ∙ rw (drop-drop 2 at s)

pub le_eight : (s : List ℕ) (at : ℕ) → le 8 (drop at s) ≡ le 4 (drop at s) + le 4 (drop (at + 4) s) * 4294967296
le_eight s at = le_add 4 4 (drop at s) ∙ rw (drop-drop 4 at s)

-- field k of a row: its width and its place follow from the widths
field_at : (ws : List ℕ) (k : ℕ) (b : List ℕ) → k < length ws → field ws k b ≡ le (get_or ws k 0) (drop (width (take k ws)) b)
unfolding fields_of
field_at [] k b h = absurd (omega arith)
field_at (w ∷ ws) zero b h = refl
field_at (w ∷ ws) (suc k) b h = field_at ws k (drop w b) (omega arith) ∙ rw (drop-drop (width (take k ws)) w b)

pub field_in : (ws : List ℕ) (k at : ℕ) (s : List ℕ) → k < length ws → field ws k (drop at s) ≡ le (get_or ws k 0) (drop (at + width (take k ws)) s)
field_in ws k at s h = rw (field_at ws k (drop at s) h, drop-drop (width (take k ws)) at s)
