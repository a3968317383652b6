-- Tables, and the loops that fill a list, test one element after another, or compact a list.
use mathlib.Core.Path.{◌≡◌, refl, sym, ap, ◌∙◌}
use mathlib.Core.Bool.{Bool, true, false, ◌&&◌}
use mathlib.Core.List.{List, [], ◌∷◌, ◌++◌, map, append-nil}
use Prim.Native.Nat.{ℕ, zero, suc, ◌+◌, ◌≤◌, ◌<◌}
use native.Mathlib.Omega.{arith}
use native.Mathlib.Numerals.{add-one}
use native.Mathlib.Decide.{dec_le, ℕ_discrete}
use lib.ListN.{length, get_or, set, take, drop, replicate, length-drop, length-append, get_or-replicate, get_or-append, get_or-eq_default, length-replicate, length-set}
use lib.Seq.{ext_get_or, take-suc, take-suc-set, length-take-le, get_or-take, get_or-drop, get_or-set_same, get_or-set_other, get_or-append_seam}
use Rattle.laws.specs.Define.{tab, all_of, pairs_of, all_below, filter}
use Rattle.laws.proofs.Tests.{and_left, and_right, and_true, and_assoc, and_yes}
use Rattle.laws.proofs.Lists.{map_append, filter_append}
use Rattle.laws.specs.InternalFilled.{Upto, From, Shows, Filled}

-- ---- a list of zeros, within it and beyond
pub zeros_at : {A : Type 0} (z : A) (n i : ℕ) → get_or (replicate n z) i z ≡ z
zeros_at z zero i = refl
zeros_at z (suc n) zero = refl
zeros_at z (suc n) (suc i) = zeros_at z n i

-- ---- the table g 0, .., g (n - 1)
pub tab_length : {A : Type 0} (n : ℕ) (g : ℕ → A) → length (tab n g) ≡ n
unfolding tab
tab_length zero g = refl
tab_length (suc n) g = ap suc (tab_length n (λ k. g (suc k)))

pub tab_at : {A : Type 0} (n : ℕ) (g : ℕ → A) (t : ℕ) (z : A) → t < n → get_or (tab n g) t z ≡ g t
unfolding tab
tab_at zero g t z h = absurd (omega arith)
tab_at (suc n) g zero z h = refl
tab_at (suc n) g (suc t) z h = tab_at n (λ k. g (suc k)) t z (omega arith)

pub tab_off : {A : Type 0} (n : ℕ) (g : ℕ → A) (t : ℕ) (z : A) → n ≤ t → get_or (tab n g) t z ≡ z
tab_off n g t z h = get_or-eq_default (tab n g) z (omega (arith, tab_length n g))

-- a list of n elements that agrees with g at each place is the table
pub filled : {A : Type 0} (n : ℕ) (g : ℕ → A) (z : A) (l : List A) → length l ≡ n → ((i : ℕ) → i < n → get_or l i z ≡ g i) → l ≡ tab n g
filled n g z l e h = ext_get_or z l (tab n g) (e ∙ sym (tab_length n g)) (λ i k. h i (omega arith) ∙ sym (tab_at n g i z (omega arith)))

pub tab_same : {A : Type 0} (n : ℕ) (g h : ℕ → A) → ((i : ℕ) → i < n → g i ≡ h i) → tab n g ≡ tab n h
unfolding tab
tab_same zero g h e = refl
tab_same (suc n) g h e = rw (e 0 (omega arith)) (ap (λ r. h 0 ∷ r) (tab_same n (λ k. g (suc k)) (λ k. h (suc k)) (λ i l. e (suc i) (omega arith))))

pub upto_turn : {A : Type 0} (t : ℕ) (g : ℕ → A) (z : A) (l : List A) (v : A) → t < length l → Upto t g z l → v ≡ g t → Upto (t + 1) g z (set l t v)
upto_turn t g z l v h p e i k = go (ℕ_discrete i t)
  where
    go : Dec (i ≡ t) → get_or (set l t v) i z ≡ g i
    go (yes q) = rw (q, get_or-set_same l t v z h) e
    go (no q) = rw (get_or-set_other l t i v z q) (p i (omega arith))

-- a store leaves what stands above it
pub rest_turn : {A : Type 0} (t : ℕ) (g : ℕ → A) (z : A) (l : List A) (v : A) → From t g z l → From (t + 1) g z (set l t v)
rest_turn t g z l v h i k = get_or-set_other l t i v z (λ e. absurd (omega arith)) ∙ h i (omega arith)

-- a table of n places that a loop fills from the first on
module _ {A : Type 0} (n : ℕ) (g : ℕ → A) (z : A) where
  pub filled_none : Filled n g z 0 (replicate n z)
  filled_none = (length-replicate n z, λ i h. absurd (omega arith), λ i h. zeros_at z n i)

  pub filled_turn : (k : ℕ) (out : List A) (v : A) → k < n → v ≡ g k → Filled n g z k out → Filled n g z (k + 1) (set out k v)
  filled_turn k out v h e p = (length-set out k v ∙ p.0, upto_turn k g z out v (omega (arith, p.0)) p.1 e, rest_turn k (λ i. z) z out v p.2)

  -- where g is z too, the places are filled already
  pub filled_on : (k m : ℕ) (out : List A) → k ≤ m → ((i : ℕ) → k ≤ i → i < m → z ≡ g i) → Filled n g z k out → Filled n g z m out
  filled_on k m out q f p = (p.0, λ i h. go i h (dec_le (suc i) k), λ i h. p.2 i (omega arith))
    where
      go : (i : ℕ) → i < m → Dec (i < k) → get_or out i z ≡ g i
      go i h (yes a) = p.1 i a
      go i h (no a) = p.2 i (omega arith) ∙ f i (omega arith) h

  pub filled_skip : (k : ℕ) (out : List A) → z ≡ g k → Filled n g z k out → Filled n g z (k + 1) out
  filled_skip k out e p = filled_on k (k + 1) out (omega arith) (λ i a b. let q : i ≡ k = omega arith in rw q e) p

  pub filled_all : (k m : ℕ) (out : List A) → k ≡ m → Filled n g z k out → Filled n g z m out
  filled_all k m out e p = rw e at p

  pub filled_end : (k : ℕ) (out : List A) → k ≤ n → ((i : ℕ) → k ≤ i → z ≡ g i) → Filled n g z k out → out ≡ tab n g
  filled_end k out q f p = let e = filled_on k n out q (λ i a b. f i a) p in filled n g z out p.0 e.1

-- a turn of a loop that copies from place `at` of s to the front of d
pub copy_turn : {A : Type 0} (d s : List A) (at k : ℕ) (z : A) → k < length d → at + k < length s → take k d ≡ take k (drop at s) → take (k + 1) (set d k (get_or s (at + k) z)) ≡ take (k + 1) (drop at s)
copy_turn d s at k z hd hs p =
    let h : k < length (drop at s) = rw length-drop (omega arith) in
    rw (add-one, take-suc-set, take-suc (drop at s) k z h, get_or-drop, p)

-- at its end a loop's counter is its bound
pub ended : {A : Type 0} (g : ℕ → A) {k n : ℕ} {x : A} → n ≤ k → k ≤ n → x ≡ g k → x ≡ g n
ended g {k} {n} lo hi e = let q : k ≡ n = omega arith in e ∙ ap g q

-- ---- every number below n
pub below_zero : (p : ℕ → Bool) → all_below p 0 ≡ true
unfolding all_below
below_zero p = refl

pub below_more : (p : ℕ → Bool) (n : ℕ) → all_below p (n + 1) ≡ (all_below p n && p n)
unfolding all_below
below_more p n = rw add-one

pub below_at : (p : ℕ → Bool) (n : ℕ) → all_below p n ≡ true → (t : ℕ) → t < n → p t ≡ true
unfolding all_below
below_at p zero h t l = absurd (omega arith)
below_at p (suc n) h t l = go (ℕ_discrete t n) (below_at p n (and_left (all_below p n) (p n) h))
  where
    go : Dec (t ≡ n) → ((t : ℕ) → t < n → p t ≡ true) → p t ≡ true
    go (yes e) ih = rw e (and_right (all_below p n) (p n) h)
    go (no e) ih = ih t (omega arith)

pub below_of : (p : ℕ → Bool) (n : ℕ) → ((t : ℕ) → t < n → p t ≡ true) → all_below p n ≡ true
unfolding all_below
below_of p zero f = refl
below_of p (suc n) f = and_true (below_of p n (λ t l. f t (omega arith))) (f n (omega arith))

pub below_step : (p : ℕ → Bool) (k : ℕ) {ok r : Bool} → ok ≡ all_below p k → r ≡ p k → (ok && r) ≡ all_below p (k + 1)
below_step p k e q = rw (e, q) (sym (below_more p k))

-- ---- every element of a list
pub all_zero : {A : Type 0} (p : A → Bool) (l : List A) → all_of p (take 0 l) ≡ true
unfolding all_of
all_zero p l = refl

pub all_at : {A : Type 0} (p : A → Bool) (l : List A) (z : A) → all_of p l ≡ true → (k : ℕ) → k < length l → p (get_or l k z) ≡ true
unfolding all_of
all_at p [] z h k q = absurd (omega arith)
all_at p (x ∷ l) z h zero q = and_left (p x) (all_of p l) h
all_at p (x ∷ l) z h (suc k) q = all_at p l z (and_right (p x) (all_of p l) h) k (omega arith)

pub all_from_each : {A : Type 0} (p : A → Bool) (l : List A) (z : A) → ((k : ℕ) → k < length l → p (get_or l k z) ≡ true) → all_of p l ≡ true
unfolding all_of
all_from_each p [] z h = refl
all_from_each p (x ∷ l) z h = and_true (h 0 (omega arith)) (all_from_each p l z (λ k q. h (suc k) (omega arith)))

pub all_append_test : {A : Type 0} (p : A → Bool) (l k : List A) → all_of p (l ++ k) ≡ (all_of p l && all_of p k)
unfolding all_of
all_append_test p [] k = refl
all_append_test p (x ∷ l) k = rw (all_append_test p l k) (sym (and_assoc (p x) (all_of p l) (all_of p k)))

-- a turn of a loop that tests one element after another
pub all_more : {A : Type 0} (p : A → Bool) (l : List A) (k : ℕ) (z : A) → k < length l → all_of p (take (k + 1) l) ≡ (all_of p (take k l) && p (get_or l k z))
unfolding all_of
all_more p l k z h = rw (add-one, take-suc l k z h, all_append_test p (take k l) (get_or l k z ∷ []), and_yes (p (get_or l k z)))

pub all_step : {A : Type 0} (p : A → Bool) (l : List A) (k : ℕ) (z : A) {ok r : Bool} → k < length l → ok ≡ all_of p (take k l) → r ≡ p (get_or l k z) → (ok && r) ≡ all_of p (take (k + 1) l)
all_step p l k z h e q = rw (e, q) (sym (all_more p l k z h))

-- ---- every two elements, the earlier one first
pub and_swap : (a b c d : Bool) → ((a && b) && (c && d)) ≡ ((a && c) && (b && d))
and_swap true true c d = refl
and_swap true false true d = refl
and_swap true false false d = refl
and_swap false b c d = refl

pub pairs_zero : {A : Type 0} (r : A → A → Bool) (l : List A) → pairs_of r (take 0 l) ≡ true
unfolding pairs_of
pairs_zero r l = refl

pairs_snoc : {A : Type 0} (r : A → A → Bool) (l : List A) (y : A) → pairs_of r (l ++ (y ∷ [])) ≡ (pairs_of r l && all_of (λ x. r x y) l)
unfolding pairs_of all_of
pairs_snoc r [] y = refl
pairs_snoc r (x ∷ l) y =
    rw (pairs_snoc r l y, all_append_test (r x) l (y ∷ []), and_yes (r x y)) (and_swap (all_of (r x) l) (r x y) (pairs_of r l) (all_of (λ x. r x y) l))

pub pairs_more : {A : Type 0} (r : A → A → Bool) (l : List A) (j : ℕ) (z : A) → j < length l → pairs_of r (take (j + 1) l) ≡ (pairs_of r (take j l) && all_of (λ x. r x (get_or l j z)) (take j l))
pairs_more r l j z h = rw (add-one, take-suc l j z h) (pairs_snoc r (take j l) (get_or l j z))

-- by places: of a whole list, and of its first n
pub pairs_at : {A : Type 0} (r : A → A → Bool) (l : List A) (z : A) → pairs_of r l ≡ true → (i j : ℕ) → i < j → j < length l → r (get_or l i z) (get_or l j z) ≡ true
unfolding pairs_of
pairs_at r [] z h i j p q = absurd (omega arith)
pairs_at r (x ∷ l) z h i zero p q = absurd (omega arith)
pairs_at r (x ∷ l) z h zero (suc j) p q = all_at (r x) l z (and_left (all_of (r x) l) (pairs_of r l) h) j (omega arith)
pairs_at r (x ∷ l) z h (suc i) (suc j) p q = pairs_at r l z (and_right (all_of (r x) l) (pairs_of r l) h) i j (omega arith) (omega arith)

pub pairs_from_each : {A : Type 0} (r : A → A → Bool) (l : List A) (z : A) → ((i j : ℕ) → i < j → j < length l → r (get_or l i z) (get_or l j z) ≡ true) → pairs_of r l ≡ true
unfolding pairs_of
pairs_from_each r [] z f = refl
pairs_from_each r (x ∷ l) z f =
    and_true (all_from_each (r x) l z (λ k q. f 0 (suc k) (omega arith) (omega arith))) (pairs_from_each r l z (λ i j p q. f (suc i) (suc j) (omega arith) (omega arith)))

module _ {A : Type 0} (r : A → A → Bool) (l : List A) (z : A) (n : ℕ) (h : n ≤ length l) where
  pub pairs_first_at : pairs_of r (take n l) ≡ true → (i j : ℕ) → i < j → j < n → r (get_or l i z) (get_or l j z) ≡ true
  pairs_first_at e i j p q =
      let k : j < length (take n l) = omega (arith, length-take-le n l h) in
      rw (get_or-take n l i z (omega arith), get_or-take n l j z q) at (pairs_at r (take n l) z e i j p k)

  pub pairs_first_of : ((i j : ℕ) → i < j → j < n → r (get_or l i z) (get_or l j z) ≡ true) → pairs_of r (take n l) ≡ true
  pairs_first_of f = pairs_from_each r (take n l) z each
    where
      each : (i j : ℕ) → i < j → j < length (take n l) → r (get_or (take n l) i z) (get_or (take n l) j z) ≡ true
      each i j p q =
          let k : j < n = omega (arith, length-take-le n l h) in
          rw (get_or-take n l i z (omega arith), get_or-take n l j z k) (f i j p k)

-- two tests at once
pub all_both_test : {A : Type 0} (p q : A → Bool) (l : List A) → all_of (λ x. p x && q x) l ≡ (all_of p l && all_of q l)
unfolding all_of
all_both_test p q [] = refl
all_both_test p q (x ∷ l) = rw (all_both_test p q l) (and_swap (p x) (q x) (all_of p l) (all_of q l))

pub pairs_both_test : {A : Type 0} (p q : A → A → Bool) (l : List A) → pairs_of (λ x y. p x y && q x y) l ≡ (pairs_of p l && pairs_of q l)
unfolding pairs_of
pairs_both_test p q [] = refl
pairs_both_test p q (x ∷ l) = rw (pairs_both_test p q l, all_both_test (p x) (q x) l) (and_swap (all_of (p x) l) (all_of (q x) l) (pairs_of p l) (pairs_of q l))

-- an inner loop that tests one element after another beside what the outer one found
pub with_zero : {A : Type 0} (p : A → Bool) (l : List A) {ok q : Bool} → ok ≡ q → ok ≡ (q && all_of p (take 0 l))
unfolding all_of
with_zero p l {q = q} e = e ∙ sym (and_yes q)

pub with_step : {A : Type 0} (q : Bool) (p : A → Bool) (l : List A) (k : ℕ) (z : A) {ok r : Bool} → k < length l → ok ≡ (q && all_of p (take k l)) → r ≡ p (get_or l k z) → (ok && r) ≡ (q && all_of p (take (k + 1) l))
with_step q p l k z h e f = rw (e, f, all_more p l k z h) (and_assoc q (all_of p (take k l)) (p (get_or l k z)))

-- ---- a loop that compacts: what is kept of the first k elements, each changed by f
module _ {A B : Type 0} (p : A → Bool) (f : A → B) where
  pub filter_zero : (l : List A) → map f (filter p (take 0 l)) ≡ []
  unfolding filter
  filter_zero l = refl

  filter_snoc : (l : List A) (k : ℕ) (z : A) → k < length l → map f (filter p (take (k + 1) l)) ≡ map f (filter p (take k l)) ++ map f (filter p (get_or l k z ∷ []))
  filter_snoc l k z h = rw (add-one, take-suc l k z h, filter_append p (take k l) (get_or l k z ∷ [])) (map_append f (filter p (take k l)) (filter p (get_or l k z ∷ [])))

  pub filter_in : (l : List A) (k : ℕ) (z : A) → k < length l → p (get_or l k z) ≡ true → map f (filter p (take (k + 1) l)) ≡ map f (filter p (take k l)) ++ (f (get_or l k z) ∷ [])
  unfolding filter
  filter_in l k z h e = filter_snoc l k z h ∙ rw e

  pub filter_out : (l : List A) (k : ℕ) (z : A) → k < length l → p (get_or l k z) ≡ false → map f (filter p (take (k + 1) l)) ≡ map f (filter p (take k l))
  unfolding filter
  filter_out l k z h e = filter_snoc l k z h ∙ rw e (append-nil (map f (filter p (take k l))))

pub shows_none : {A : Type 0} (n : ℕ) (z : A) (l : List A) → l ≡ [] → Shows n z l (replicate n z)
shows_none n z l e i k = rw e (get_or-replicate n i z z k)

-- one more is written behind the last
pub shows_more : {A : Type 0} (n : ℕ) (z : A) (l out : List A) (v : A) → length l < length out → Shows n z l out → Shows n z (l ++ (v ∷ [])) (set out (length l) v)
shows_more n z l out v h s i k = go (ℕ_discrete i (length l)) (dec_le (suc i) (length l))
  where
    go : Dec (i ≡ length l) → Dec (i < length l) → get_or (set out (length l) v) i z ≡ get_or (l ++ (v ∷ [])) i z
    go (yes e) q = rw (e, get_or-set_same out (length l) v z h) (sym (get_or-append_seam l v [] z))
    go (no e) (yes q) = rw (get_or-set_other out (length l) i v z e) (s i k ∙ sym (get_or-append l (v ∷ []) z i q))
    go (no e) (no q) =
        let a : length l ≤ i = omega arith in
        let b : length (l ++ (v ∷ [])) ≤ i = rw length-append (omega arith) in
        rw (get_or-set_other out (length l) i v z e) (s i k ∙ get_or-eq_default l z a ∙ sym (get_or-eq_default (l ++ (v ∷ [])) z b))

-- a turn that writes an element, and one that passes over it; m counts what is written
pub shows_in : {A : Type 0} (n : ℕ) (z : A) (l next out : List A) (m : ℕ) (v : A) → next ≡ l ++ (v ∷ []) → m ≡ length l → m < length out → Shows n z l out → (m + 1 ≡ length next) × Shows n z next (set out m v)
shows_in n z l next out m v e q h s =
    let p : length l < length out = omega arith in
    let len : length (l ++ (v ∷ [])) ≡ m + 1 = rw length-append (omega arith) in
    (sym (ap length e ∙ len), rw (e, q) (shows_more n z l out v p s))

pub shows_out : {A : Type 0} (n : ℕ) (z : A) (l next out : List A) (m : ℕ) → next ≡ l → m ≡ length l → Shows n z l out → (m ≡ length next) × Shows n z next out
shows_out n z l next out m e q s = rw e (q, s)
