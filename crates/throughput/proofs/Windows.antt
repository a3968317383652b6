-- Counts cut into windows one by one, as feeding does, are the windows of the definition.
use Rattle.std.proofs.Common.{◌≡◌, ℕ, zero, suc, ◌+◌, ◌-◌, ◌*◌, ◌/◌, ◌<◌, ◌≤◌, true, false, cond, ltb, ◌⊎◌, List, [], ◌∷◌, ◌++◌, length, take, drop, sym, refl, ap, ◌∙◌, inl, inr, zero-add, arith, length-drop, take-append-drop, length-take-le, drop-drop, ltb-true, le-ltb, lt-ltb}
use Rattle.laws.specs.Define.{tab, sum}
use Rattle.laws.specs.Every.{All}
use Rattle.laws.proofs.Tables.{tab_same}
use Rattle.laws.proofs.Tests.{by_test}
use Rattle.throughput.specs.Lists.{windows, open_rounds_of, open_deliveries_of}

-- the deliveries of each full window, in order, after an open one of k rounds with s deliveries
unfoldable pub cuts : ℕ → ℕ → List ℕ → List ℕ
cuts k s [] = []
cuts k s (n ∷ l) = cond (ltb (k + 1) 256) (cuts (k + 1) (s + n) l) ((s + n) ∷ cuts 0 0 l)

-- the rounds and the deliveries of the window left open
unfoldable pub left_rounds : ℕ → List ℕ → ℕ
left_rounds k [] = k
left_rounds k (n ∷ l) = cond (ltb (k + 1) 256) (left_rounds (k + 1) l) (left_rounds 0 l)

unfoldable pub left_deliveries : ℕ → ℕ → List ℕ → ℕ
left_deliveries k s [] = s
left_deliveries k s (n ∷ l) = cond (ltb (k + 1) 256) (left_deliveries (k + 1) (s + n) l) (left_deliveries 0 0 l)

-- ---- fewer counts than the window has room for
abbrev Short : ℕ → ℕ → List ℕ → Type 0
Short k s l = (cuts k s l ≡ []) × (left_rounds k l ≡ k + length l) × (left_deliveries k s l ≡ s + sum l)

short : (l : List ℕ) (k s : ℕ) → k + length l < 256 → Short k s l
unfolding cuts left_rounds left_deliveries sum
short [] k s h = (refl, omega arith, omega arith)
short (n ∷ l) k s h =
    let i = short l (k + 1) (s + n) (omega arith) in
    rw (lt-ltb (k + 1) 256 (omega arith)) (i.0, omega (arith, i.1), omega (arith, i.2))

-- ---- the counts a that fill it, and the rest b
abbrev Full : ℕ → ℕ → List ℕ → List ℕ → Type 0
Full k s a b = (cuts k s (a ++ b) ≡ (s + sum a) ∷ cuts 0 0 b) × (left_rounds k (a ++ b) ≡ left_rounds 0 b) × (left_deliveries k s (a ++ b) ≡ left_deliveries 0 0 b)

full : (a b : List ℕ) (k s : ℕ) → k < 256 → k + length a ≡ 256 → Full k s a b
unfolding cuts left_rounds left_deliveries sum
full [] b k s h e = absurd (omega arith)
full (n ∷ []) b k s h e =
    let q : s + n ≡ s + (n + 0) = omega arith in
    rw (le-ltb (k + 1) 256 (omega arith)) (ap (λ (x : ℕ). x ∷ cuts 0 0 b) q, refl, refl)
full (n ∷ m ∷ a) b k s h e =
    let i = full (m ∷ a) b (k + 1) (s + n) (omega arith) (omega arith) in
    let q : s + n + sum (m ∷ a) ≡ s + sum (n ∷ m ∷ a) = omega arith in
    rw (lt-ltb (k + 1) 256 (omega arith)) (i.0 ∙ ap (λ (x : ℕ). x ∷ cuts 0 0 b) q, i.1, i.2)

-- ---- all of them
abbrev pub Cut : List ℕ → Type 0
Cut l = (cuts 0 0 l ≡ windows l) × (left_rounds 0 l ≡ open_rounds_of l) × (left_deliveries 0 0 l ≡ open_deliveries_of l)

cut_none : (l : List ℕ) → length l / 256 ≡ 0 → Cut l
unfolding windows open_rounds_of open_deliveries_of tab
cut_none l e =
    let h : length l < 256 = omega arith in
    let i = short l 0 0 (omega arith) in
    rw e (i.0, omega (arith, i.1), i.2 ∙ zero-add _)

-- the place of what stands 256 * k counts behind the first window
behind : (l : List ℕ) (k : ℕ) → drop (256 * k) (drop 256 l) ≡ drop (256 * suc k) l
behind l k = let e : 256 + 256 * k ≡ 256 * suc k = omega arith in drop-drop (256 * k) 256 l ∙ ap (λ (j : ℕ). drop j l) e

cut_more : (q : ℕ) (l : List ℕ) → length l / 256 ≡ suc q → length (drop 256 l) / 256 ≡ q → Cut (drop 256 l) → Cut l
unfolding windows open_rounds_of open_deliveries_of tab
cut_more q l e d i =
    let a = take 256 l in
    let b = drop 256 l in
    let n : length a ≡ 256 = length-take-le 256 l (omega arith) in
    let m : length b ≡ length l - 256 = length-drop 256 l in
    let w : l ≡ a ++ b = sym (take-append-drop 256 l) in
    let f = full a b 0 0 (omega arith) (omega arith) in
    let t : tab (length b / 256) (λ k. sum (take 256 (drop (256 * k) b))) ≡ tab q (λ k. sum (take 256 (drop (256 * suc k) l))) =
    ap (λ (j : ℕ). tab j (λ k. sum (take 256 (drop (256 * k) b)))) d ∙ tab_same q (λ k. sum (take 256 (drop (256 * k) b))) (λ k. sum (take 256 (drop (256 * suc k) l))) (λ k h. ap (λ (x : List ℕ). sum (take 256 x)) (behind l k)) in
    let u : sum (drop (256 * (length b / 256)) b) ≡ sum (drop (256 * suc q) l) = ap (λ (j : ℕ). sum (drop (256 * j) b)) d ∙ ap sum (behind l q) in
    rw e (
      ap (cuts 0 0) w ∙ f.0 ∙ (λ j. zero-add (sum a) j ∷ (i.0 ∙ t) j),
      ap (left_rounds 0) w ∙ f.1 ∙ i.1 ∙ omega (arith, m, e),
      ap (left_deliveries 0 0) w ∙ f.2 ∙ i.2 ∙ u,
    )

cut_all : (q : ℕ) (l : List ℕ) → length l / 256 ≡ q → Cut l
cut_all zero l e = cut_none l e
cut_all (suc q) l e =
    let m : length (drop 256 l) ≡ length l - 256 = length-drop 256 l in
    let d : length (drop 256 l) / 256 ≡ q = omega (arith, m, e) in
    cut_more q l e d (cut_all q (drop 256 l) d)

pub cut : (l : List ℕ) → Cut l
cut l = cut_all (length l / 256) l refl

-- ---- nothing is lost
pub cuts_sum : (l : List ℕ) (k s : ℕ) → sum (cuts k s l) + left_deliveries k s l ≡ s + sum l
unfolding cuts left_deliveries sum
cuts_sum [] k s = omega arith
cuts_sum (n ∷ l) k s = go (by_test (ltb (k + 1) 256)) (cuts_sum l (k + 1) (s + n)) (cuts_sum l 0 0)
  where
    go : (ltb (k + 1) 256 ≡ true) ⊎ (ltb (k + 1) 256 ≡ false) → sum (cuts (k + 1) (s + n) l) + left_deliveries (k + 1) (s + n) l ≡ s + n + sum l → sum (cuts 0 0 l) + left_deliveries 0 0 l ≡ 0 + sum l
        → sum (cuts k s (n ∷ l)) + left_deliveries k s (n ∷ l) ≡ s + sum (n ∷ l)
    go (inl y) i j = rw y (omega (arith, i))
    go (inr y) i j = rw y (omega (arith, j))

-- ---- no window has more than four deliveries a round
pub cuts_most : (l : List ℕ) → All (λ n. n ≤ 4) l → (k s : ℕ) → k < 256 → s ≤ 4 * k → All (λ w. w ≤ 1024) (cuts k s l)
unfolding cuts
cuts_most [] h k s b c = tt
cuts_most (n ∷ l) h k s b c = go (by_test (ltb (k + 1) 256)) (λ y. cuts_most l h.1 (k + 1) (s + n) y (omega (arith, h.0, c))) (cuts_most l h.1 0 0 (omega arith) (omega arith))
  where
    go : (ltb (k + 1) 256 ≡ true) ⊎ (ltb (k + 1) 256 ≡ false) → (k + 1 < 256 → All (λ w. w ≤ 1024) (cuts (k + 1) (s + n) l)) → All (λ w. w ≤ 1024) (cuts 0 0 l) → All (λ w. w ≤ 1024) (cuts k s (n ∷ l))
    go (inl y) i j = rw y (i (ltb-true (k + 1) 256 y))
    go (inr y) i j = rw y (omega (arith, h.0, b, c), j)
