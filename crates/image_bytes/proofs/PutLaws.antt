-- Laws of bytes put into a buffer.
use mathlib.Core.Path.{◌≡◌, refl, sym, ap, ◌∙◌}
use mathlib.Core.List.{List, [], ◌∷◌, ◌++◌, append_assoc}
use Prim.Native.Nat.{ℕ, zero, suc, ◌+◌, ◌-◌, ◌/◌, ◌%◌, ◌^◌, ◌≤◌, ◌<◌}
use native.Mathlib.Omega.{arith}
use native.Mathlib.Numerals.{add-one}
use native.Mathlib.Nat.{mod-eq_of_lt, pow-suc}
use lib.ListN.{length, take, drop, set, length-append, take-append-drop}
use lib.Seq.{set_split, drop-drop, take_at, length-take-le, drop-append-add}
use borrow.Rule.Slice.PartMut.{put_mid}
use Rattle.std.specs.Int.{bytes_low_first}
use Rattle.std.proofs.Math.Nat.{div-div-eq-div-mul}
use Rattle.image_bytes.specs.Bytes.{bytes}
use Rattle.image_bytes.proofs.ByteLaws.{bytes_length}
use Rattle.image_bytes.specs.InternalPut.{put}

pub put_none : (l : List ℕ) (at : ℕ) → put l at [] ≡ l
unfolding put
put_none l at = let e : at + 0 ≡ at = omega arith in rw e (take-append-drop at l)

pub put_one : (l : List ℕ) (at x : ℕ) → at < length l → set l at x ≡ put l at (x ∷ [])
unfolding put
put_one l at x h = rw (add-one at) (set_split l at x h)

-- ---- one after the other
put_put : (l : List ℕ) (at : ℕ) (xs ys : List ℕ) → at + length (xs ++ ys) ≤ length l → put (put l at xs) (at + length xs) ys ≡ put l at (xs ++ ys)
unfolding put
put_put l at xs ys h =
    let n : length (xs ++ ys) ≡ length xs + length ys = length-append xs ys in
    let a : length (take at l) ≡ at = length-take-le at l (omega arith) in
    let b : length (take at l ++ xs) ≡ at + length xs = rw (length-append, a) in
    let s : take at l ++ (xs ++ drop (at + length xs) l) ≡ (take at l ++ xs) ++ drop (at + length xs) l = sym (append_assoc (take at l) xs (drop (at + length xs) l)) in
    let t : take (at + length xs) ((take at l ++ xs) ++ drop (at + length xs) l) ≡ take at l ++ xs = take_at (take at l ++ xs) (drop (at + length xs) l) (at + length xs) b in
    let e : at + length xs + length ys ≡ at + (length xs + length ys) = omega arith in
    let d : drop (at + length xs + length ys) ((take at l ++ xs) ++ drop (at + length xs) l) ≡ drop (at + length (xs ++ ys)) l =
    rw (← b, drop-append-add (take at l ++ xs) (drop (length (take at l ++ xs)) l) (length ys), drop-drop (length ys) (length (take at l ++ xs)) l, b, n, e) in
    rw (s, t, d) (simp append_assoc)

pub put_two : (l m k : List ℕ) (at to : ℕ) (xs ys : List ℕ) → at + length xs + length ys ≤ length l → to ≡ at + length xs
    → m ≡ put l at xs → k ≡ put m to ys → k ≡ put l at (xs ++ ys)
put_two l m k at to xs ys h e p q = q ∙ rw (p, e) (put_put l at xs ys (rw length-append (omega arith)))

pub put_three : (l m k j : List ℕ) (at to up : ℕ) (xs ys zs : List ℕ) → at + length xs + length ys + length zs ≤ length l → to ≡ at + length xs → up ≡ at + length xs + length ys
    → m ≡ put l at xs → k ≡ put m to ys → j ≡ put k up zs → j ≡ put l at (xs ++ (ys ++ zs))
put_three l m k j at to up xs ys zs h e2 e3 p q r =
    let a : k ≡ put l at (xs ++ ys) = put_two l m k at to xs ys (omega arith) e2 p q in
    let n : length (xs ++ ys) ≡ length xs + length ys = length-append xs ys in
    let b : j ≡ put l at ((xs ++ ys) ++ zs) = put_two l k j at up (xs ++ ys) zs (rw n (omega arith)) (rw n (omega arith)) a r in
    rw (append_assoc xs ys zs) at b

pub bytes_one : (x : ℕ) → x < 256 → bytes 1 x ≡ x ∷ []
unfolding bytes
bytes_one x h = rw (mod-eq_of_lt h)

-- four writes in a row
pub put_four : (l m k j i : List ℕ) (at p2 p3 p4 : ℕ) (ws xs ys zs : List ℕ) → at + length ws + length xs + length ys + length zs ≤ length l
    → p2 ≡ at + length ws → p3 ≡ at + length ws + length xs → p4 ≡ at + length ws + length xs + length ys
    → m ≡ put l at ws → k ≡ put m p2 xs → j ≡ put k p3 ys → i ≡ put j p4 zs → i ≡ put l at (ws ++ (xs ++ (ys ++ zs)))
put_four l m k j i at p2 p3 p4 ws xs ys zs h e2 e3 e4 a b c d =
    let n : length (ws ++ xs) ≡ length ws + length xs = length-append ws xs in
    let p : k ≡ put l at (ws ++ xs) = put_two l m k at p2 ws xs (omega arith) e2 a b in
    let q : i ≡ put l at ((ws ++ xs) ++ (ys ++ zs)) = put_three l k j i at p3 p4 (ws ++ xs) ys zs (rw n (omega arith)) (rw n (omega arith)) (rw n (omega arith)) p c d in
    rw (append_assoc ws xs (ys ++ zs)) at q

-- ---- as std writes a number
bytes_from : (n i x : ℕ) → bytes n (x / 256 ^ suc i) ≡ bytes_low_first (suc i) n x
unfolding bytes
bytes_from zero i x = refl
bytes_from (suc n) i x =
    let e : x / 256 ^ suc i / 256 ≡ x / 256 ^ suc (suc i) = div-div-eq-div-mul x (256 ^ suc i) 256 ∙ ap (λ k. x / k) (sym (pow-suc 256 (suc i))) in
    rw (e, bytes_from n (suc i) x)

bytes_std : (n x : ℕ) → bytes n x ≡ bytes_low_first 0 n x
unfolding bytes
bytes_std zero x = refl
bytes_std (suc n) x = ap (λ (ys : List ℕ). x % 256 ∷ ys) (bytes_from n 0 x)

-- n bytes were written to the part from `at` on; and the n bytes of x
pub put_list : (l : List ℕ) (at n : ℕ) (ys bs : List ℕ) → ys ≡ bs → length bs ≡ n → put_mid at (at + n - at) l ys ≡ put l at bs
unfolding put
put_list l at n ys bs e m = let k : at + n - at ≡ n = omega arith in rw (k, e, m, drop-drop n at l)

pub put_part : (l : List ℕ) (at n x : ℕ) (ys : List ℕ) → ys ≡ bytes_low_first 0 n x → put_mid at (at + n - at) l ys ≡ put l at (bytes n x)
put_part l at n x ys e = put_list l at n ys (bytes n x) (e ∙ sym (bytes_std n x)) (bytes_length n x)
