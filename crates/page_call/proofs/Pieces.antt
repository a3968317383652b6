-- How long a page is, and its parts as the code puts them.
use mathlib.Core.Path.{◌≡◌, refl, sym, ap, ◌∙◌}
use mathlib.Core.Bool.{Bool, true, false, cond}
use mathlib.Core.List.{List, [], ◌∷◌, ◌++◌, append-nil, append_assoc}
use Prim.Native.Nat.{ℕ, zero, suc, ◌+◌, ◌*◌, ◌/◌, ◌%◌, ◌≤◌, ◌<◌}
use native.Mathlib.Omega.{arith}
use native.Mathlib.Numerals.{add-one}
use native.Mathlib.Nat.{mul-le-mul, mul-le-mul_right, suc-mul}
use lib.Dec.{ltb, eqb}
use mathlib.Core.Logic.{◌≢◌}
use borrow.Author.Tests.{lt-ltb, le-ltb, eq-eqb, ne_eqb}
use lib.ListN.{length, length-append, length-set, set}
use Rattle.laws.specs.Define.{tab, join}
use Rattle.laws.proofs.Tables.{tab_same}
use Rattle.image_bytes.specs.Bytes.{bytes}
use Rattle.image_bytes.specs.InternalPut.{put}
use Rattle.image_bytes.proofs.PutLaws.{put_one, put_two, put_three, bytes_one, put_four}
use Rattle.floor.specs.declared.Tile.{Tile}
use Rattle.floor.specs.Model.{tile_of}
use Rattle.floor.specs.Memory.{head}
use Rattle.page_call.specs.Page.{two, letter, distance_text, cell, cells, line, lines, page, PageLength}

-- f 0, f 1, .., f (n - 1), one after the other
abbrev pub up_to : ℕ → (ℕ → List ℕ) → List ℕ
up_to n f = join (tab n f)

pub up_to_none : (f : ℕ → List ℕ) → up_to 0 f ≡ []
unfolding tab join
up_to_none f = refl

up_to_last : (n : ℕ) (f : ℕ → List ℕ) → up_to (suc n) f ≡ up_to n f ++ f n
unfolding tab join
up_to_last zero f = append-nil (f 0)
up_to_last (suc n) f = ap (λ (l : List ℕ). f 0 ++ l) (up_to_last n (λ k. f (suc k))) ∙ sym (append_assoc (f 0) (up_to n (λ k. f (suc k))) (f (suc n)))

pub up_to_more : (n : ℕ) (f : ℕ → List ℕ) → up_to (n + 1) f ≡ up_to n f ++ f n
up_to_more n f = rw add-one (up_to_last n f)

pub up_to_length : (n w : ℕ) (f : ℕ → List ℕ) → ((k : ℕ) → length (f k) ≡ w) → length (up_to n f) ≡ n * w
unfolding tab join
up_to_length zero w f h = omega arith
up_to_length (suc n) w f h = rw (length-append, up_to_length n w (λ k. f (suc k)) (λ k. h (suc k)), h 0) (omega (arith, suc-mul n w))

pub up_to_same : (n : ℕ) (f g : ℕ → List ℕ) → ((k : ℕ) → k < n → f k ≡ g k) → up_to n f ≡ up_to n g
up_to_same n f g h = ap join (tab_same n f g h)

pub two_length : (n : ℕ) → length (two n) ≡ 2
unfolding two
two_length n = go (ltb n 10)
  where
    go : (b : Bool) → length (cond b (32 ∷ (48 + n) ∷ []) ((48 + n / 10) ∷ (48 + n % 10) ∷ [])) ≡ 2
    go true = refl
    go false = refl

pub distance_length : (h : Tile) → length (distance_text h) ≡ 2
unfolding distance_text
distance_length h = go (eqb h.running 1) (eqb h.distance 255)
  where
    go : (a b : Bool) → length (cond a (cond b (45 ∷ 45 ∷ []) (two h.distance)) (88 ∷ 88 ∷ [])) ≡ 2
    go true true = refl
    go true false = two_length h.distance
    go false b = refl

pub cell_length : (h : Tile) → length (cell h) ≡ 8
unfolding cell
cell_length h =
    let a = length-append (two h.count) ((32 ∷ letter h.next.code ∷ 32 ∷ []) ++ (distance_text h ++ (124 ∷ []))) in
    let b = length-append (distance_text h) (124 ∷ []) in
    omega (arith, a, b, two_length h.count, distance_length h)

pub cells_length : (g : ℕ → Tile) (w h r : ℕ) → length (cells g w h r) ≡ 8 * w
unfolding cells
cells_length g w h r = let e = up_to_length w 8 (λ c. cell (g (c * h + r))) (λ c. cell_length (g (c * h + r))) in omega (arith, e)

pub line_length : (g : ℕ → Tile) (w h r : ℕ) → length (line g w h r) ≡ 8 * w + 2
unfolding line
line_length g w h r = let a = length-append (cells g w h r) (10 ∷ []) in omega (arith, a, cells_length g w h r)

pub lines_length : (g : ℕ → Tile) (w h : ℕ) → length (lines g w h) ≡ h * (8 * w + 2)
unfolding lines
lines_length g w h = up_to_length h (8 * w + 2) _ (λ k. line_length g w h _)

-- "The library call writes H × (8 × W + 2) bytes"
pub page_length : PageLength
unfolding page
page_length m = lines_length (λ t. head (tile_of m t)) m.settings.columns m.settings.rows

-- ---- what the code puts
pub put_pair_is : (l : List ℕ) (at x y : ℕ) → at + 2 ≤ length l → set (set l at x) (at + 1) y ≡ put l at (x ∷ y ∷ [])
put_pair_is l at x y h =
    put_two l (set l at x) (set (set l at x) (at + 1) y) at (at + 1) (x ∷ []) (y ∷ []) (omega arith) (omega arith) (put_one l at x (omega arith))
    (put_one (set l at x) (at + 1) y (rw length-set (omega arith)))

pub put_three_is : (l : List ℕ) (at x y z : ℕ) → at + 3 ≤ length l → set (set (set l at x) (at + 1) y) (at + 2) z ≡ put l at (x ∷ y ∷ z ∷ [])
put_three_is l at x y z h =
    put_two l (set (set l at x) (at + 1) y) (set (set (set l at x) (at + 1) y) (at + 2) z) at (at + 2) (x ∷ y ∷ []) (z ∷ []) (omega arith) (omega arith)
    (put_pair_is l at x y (omega arith)) (put_one (set (set l at x) (at + 1) y) (at + 2) z (rw (length-set, length-set) (omega arith)))

-- l before, m after: the piece that stands in m is the one asked for
module _ (l m : List ℕ) (at n : ℕ) where
  pub two_small : n < 10 → m ≡ put l at (32 ∷ (48 + n) ∷ []) → m ≡ put l at (two n)
  unfolding two
  two_small h e = rw (lt-ltb n 10 h) e

  pub two_large : 10 ≤ n → m ≡ put l at ((48 + n / 10) ∷ (48 + n % 10) ∷ []) → m ≡ put l at (two n)
  unfolding two
  two_large h e = rw (le-ltb n 10 h) e

module _ (l m : List ℕ) (at : ℕ) (h : Tile) where
  pub distance_stopped : h.running ≢ 1 → m ≡ put l at (88 ∷ 88 ∷ []) → m ≡ put l at (distance_text h)
  unfolding distance_text
  distance_stopped n e = rw (ne_eqb h.running 1 n) e

  pub distance_none : h.running ≡ 1 → h.distance ≡ 255 → m ≡ put l at (45 ∷ 45 ∷ []) → m ≡ put l at (distance_text h)
  unfolding distance_text
  distance_none r d e = rw (eq-eqb h.running 1 r, eq-eqb h.distance 255 d) e

  pub distance_some : h.running ≡ 1 → h.distance ≢ 255 → m ≡ put l at (two h.distance) → m ≡ put l at (distance_text h)
  unfolding distance_text
  distance_some r d e = rw (eq-eqb h.running 1 r, ne_eqb h.distance 255 d) e

-- a cell, piece by piece; d: the arrow's letter
pub cell_put : (l m k j i : List ℕ) (at d : ℕ) (h : Tile) → at + 8 ≤ length l → m ≡ put l at (two h.count) → d ≡ letter h.next.code → k ≡ put m (at + 2) (32 ∷ d ∷ 32 ∷ [])
    → j ≡ put k (at + 5) (distance_text h) → i ≡ put j (at + 7) (bytes 1 124) → i ≡ put l at (cell h)
unfolding cell
cell_put l m k j i at d h room em ed ek ej ei =
    let n1 = two_length h.count in
    let n2 = distance_length h in
    put_four l m k j i at (at + 2) (at + 5) (at + 7) (two h.count) (32 ∷ letter h.next.code ∷ 32 ∷ []) (distance_text h) (124 ∷ [])
    (omega (arith, n1, n2)) (omega (arith, n1)) (omega (arith, n1)) (omega (arith, n1, n2))
    em (ek ∙ ap (λ (x : ℕ). put m (at + 2) (32 ∷ x ∷ 32 ∷ [])) ed) ej (ei ∙ ap (put j (at + 7)) (bytes_one 124 (omega arith)))

-- a line, piece by piece
pub line_put : (l m k j : List ℕ) (at w h r : ℕ) (g : ℕ → Tile) → at + (8 * w + 2) ≤ length l → m ≡ put l at (bytes 1 124) → k ≡ put m (at + 1) (cells g w h r)
    → j ≡ put k (at + 1 + 8 * w) (bytes 1 10) → j ≡ put l at (line g w h r)
unfolding line
line_put l m k j at w h r g room em ek ej =
    let n = cells_length g w h r in
    put_three l m k j at (at + 1) (at + 1 + 8 * w) (124 ∷ []) (cells g w h r) (10 ∷ []) (omega (arith, n, room)) (omega arith) (omega (arith, n))
    (em ∙ ap (put l at) (bytes_one 124 (omega arith))) ek (ej ∙ ap (put k (at + 1 + 8 * w)) (bytes_one 10 (omega arith)))

-- ---- a turn of a loop that puts pieces of n bytes one after the other
pub turn : (s₀ s s' : List ℕ) (from at n k : ℕ) (f : ℕ → List ℕ) → ((i : ℕ) → length (f i) ≡ n) → at ≡ from + k * n → at + n ≤ length s₀
    → s ≡ put s₀ from (up_to k f) → s' ≡ put s at (f k) → s' ≡ put s₀ from (up_to (k + 1) f)
turn s₀ s s' from at n k f h e r p q =
    let a = up_to_length k n f h in
    rw (up_to_more k f) (put_two s₀ s s' from at (up_to k f) (f k) (omega (arith, a, h k)) (omega (arith, a)) p q)

pub on_grid : (k w r h : ℕ) → k < w → w ≤ 8 → r < h → h ≤ 8 → k * h + r < 64
on_grid k w r h a b c d = let a' : k ≤ 7 = omega arith in
    let m : k * h ≤ 7 * 8 = mul-le-mul a' d in omega (arith, m)

pub letter_west : (k : ℕ) → k ≡ 1 → 87 ≡ letter k
unfolding letter
letter_west k e = rw e

pub letter_south : (k : ℕ) → k ≡ 2 → 83 ≡ letter k
unfolding letter
letter_south k e = rw e

pub letter_north : (k : ℕ) → k ≡ 3 → 78 ≡ letter k
unfolding letter
letter_north k e = rw e

pub letter_east : (k : ℕ) → k ≡ 4 → 69 ≡ letter k
unfolding letter
letter_east k e = rw e

pub letter_rest : (k : ℕ) → k ≢ 1 → k ≢ 2 → k ≢ 3 → k ≢ 4 → 45 ≡ letter k
unfolding letter
letter_rest zero a b c d = refl
letter_rest (suc zero) a b c d = absurd (a refl)
letter_rest (suc (suc zero)) a b c d = absurd (b refl)
letter_rest (suc (suc (suc zero))) a b c d = absurd (c refl)
letter_rest (suc (suc (suc (suc zero)))) a b c d = absurd (d refl)
letter_rest (suc (suc (suc (suc (suc k))))) a b c d = refl

-- ---- room for a line
pub row_room : (k h n : ℕ) → k < h → k * n + n ≤ h * n
row_room k h n t = let m : (k + 1) * n ≤ h * n = mul-le-mul_right n (omega arith) in omega (arith, m, suc-mul k n)

pub row_small : (k w h : ℕ) → k < h → h ≤ 8 → w ≤ 8 → k * (8 * w + 2) ≤ 8 * 66
row_small k w h t a b =
    let p : k ≤ 8 = omega arith in
    let q : 8 * w + 2 ≤ 66 = omega arith in
    mul-le-mul p q
