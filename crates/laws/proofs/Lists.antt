-- Lists: what holds of all elements and of all pairs, a filter by a test, a sum, and the lists joined over the numbers below n; each with permutations.
use mathlib.Core.Path.{◌≡◌, refl, sym, ap, ◌∙◌, subst}
use mathlib.Core.Logic.{◌≢◌}
use mathlib.Core.Bool.{Bool, true, false, cond, not, ◌&&◌}
use mathlib.Core.List.{List, [], ◌∷◌, ◌++◌, map, append_assoc, append-nil, Memᴰ}
use mathlib.Core.List.Permᴰ
use mathlib.Core.List.{Permᴰ}
use Prim.Native.Nat.{ℕ, zero, suc, ◌+◌, ◌*◌, ◌≤◌, ◌<◌}
use native.Mathlib.Omega.{arith}
use native.Mathlib.Decide.{dec_le, ℕ_discrete}
use lib.Dec.{eqb}
use lib.ListN.{length, get_or}
use Rattle.laws.specs.Define.{cat, all_of, filter, sum}
use Rattle.laws.specs.Every.{All, Pairs}
use Rattle.laws.proofs.Tests.{and_left, and_right, and_true}

-- ---- all elements, all pairs
pub all_mem : {A : Type 0} (P : A → Type 0) {x : A} {l : List A} → Memᴰ x l → All P l → P x
all_mem P (Memᴰ.head e) h = subst P (sym e) h.0
all_mem P (Memᴰ.tail m) h = all_mem P m h.1

pub all_of_lem : {A : Type 0} (P : A → Type 0) (l : List A) → ((x : A) → Memᴰ x l → P x) → All P l
all_of_lem P [] f = tt
all_of_lem P (x ∷ l) f = (f x (Memᴰ.head refl), all_of_lem P l (λ y m. f y (Memᴰ.tail m)))

pub all_imp : {A : Type 0} (P Q : A → Type 0) (l : List A) → ((x : A) → P x → Q x) → All P l → All Q l
all_imp P Q [] f h = tt
all_imp P Q (x ∷ l) f h = (f x h.0, all_imp P Q l f h.1)

pub all_append : {A : Type 0} (P : A → Type 0) (l k : List A) → All P l → All P k → All P (l ++ k)
all_append P [] k h g = g
all_append P (x ∷ l) k h g = (h.0, all_append P l k h.1 g)

pub all_map : {A B : Type 0} (P : B → Type 0) (f : A → B) (l : List A) → All (λ x. P (f x)) l → All P (map f l)
all_map P f [] h = tt
all_map P f (x ∷ l) h = (h.0, all_map P f l h.1)

-- with what holds of the elements at hand
pub all_map_two : {A B : Type 0} (P Q : A → Type 0) (S : B → Type 0) (f : A → B) (l : List A) → ((x : A) → P x → Q x → S (f x)) → All P l → All Q l → All S (map f l)
all_map_two P Q S f [] g p q = tt
all_map_two P Q S f (x ∷ l) g p q = (g x p.0 q.0, all_map_two P Q S f l g p.1 q.1)

pub pairs_map : {A B : Type 0} (P : A → Type 0) (R : A → A → Type 0) (S : B → B → Type 0) (f : A → B) (l : List A)
    → ((x y : A) → P x → P y → R x y → S (f x) (f y)) → All P l → Pairs R l → Pairs S (map f l)
pairs_map P R S f [] g p h = tt
pairs_map P R S f (x ∷ l) g p h = (all_map_two P (R x) (S (f x)) f l (λ y. g x y p.0) p.1 h.0, pairs_map P R S f l g p.1 h.1)

pub pairs_append : {A : Type 0} (R : A → A → Type 0) (l k : List A) → Pairs R l → Pairs R k → All (λ x. All (R x) k) l → Pairs R (l ++ k)
pairs_append R [] k h g c = g
pairs_append R (x ∷ l) k h g c = (all_append (R x) l k h.0 c.0, pairs_append R l k h.1 g c.1)

-- what holds of every element, and of what is read beyond them
pub all_get : {A : Type 0} (P : A → Type 0) (l : List A) (z : A) → P z → All P l → (k : ℕ) → P (get_or l k z)
all_get P [] z p h k = p
all_get P (x ∷ l) z p h zero = h.0
all_get P (x ∷ l) z p h (suc k) = all_get P l z p h.1 k

-- of all elements, and at each place
pub all_place : {A : Type 0} (P : A → Type 0) (z : A) (l : List A) → All P l → (i : ℕ) → i < length l → P (get_or l i z)
all_place P z [] f i h = absurd (omega arith)
all_place P z (x ∷ l) f zero h = f.0
all_place P z (x ∷ l) f (suc i) h = all_place P z l f.1 i (omega arith)

pub all_each : {A : Type 0} (P : A → Type 0) (z : A) (l : List A) → ((i : ℕ) → i < length l → P (get_or l i z)) → All P l
all_each P z [] f = tt
all_each P z (x ∷ l) f = (f 0 (omega arith), all_each P z l (λ i h. f (suc i) (omega arith)))

-- within a list, what would be read beyond it does not matter
pub get_same : {A : Type 0} (l : List A) (k : ℕ) (y z : A) → k < length l → get_or l k y ≡ get_or l k z
get_same [] k y z h = absurd (omega arith)
get_same (x ∷ l) zero y z h = refl
get_same (x ∷ l) (suc k) y z h = get_same l k y z (omega arith)

pub no_length : {A : Type 0} (l : List A) → length l ≡ 0 → l ≡ []
no_length [] e = refl
no_length (x ∷ l) e = absurd (omega arith)

-- ---- all and pairs under a permutation
pub all_perm : {A : Type 0} (P : A → Type 0) {l k : List A} → Permᴰ l k → All P l → All P k
all_perm P Permᴰ.nil h = tt
all_perm P (Permᴰ.cons e p) h = (subst P e h.0, all_perm P p h.1)
all_perm P (Permᴰ.swap e f) h = (subst P f h.1.0, (subst P e h.0, h.1.1))
all_perm P (Permᴰ.trans p q) h = all_perm P q (all_perm P p h)

pub pairs_perm : {A : Type 0} (R : A → A → Type 0) {l k : List A} → ((x y : A) → R x y → R y x) → Permᴰ l k → Pairs R l → Pairs R k
pairs_perm R f Permᴰ.nil h = tt
pairs_perm R f (Permᴰ.cons {a} {b} {l₁} {l₂} e p) h =
    (all_perm (R b) p (subst (λ x. All (R x) l₁) e h.0), pairs_perm R f p h.1)
pairs_perm R f (Permᴰ.swap {a} {b} {a'} {b'} {l} e g) h =
    let ab : R a' b' = subst (λ x. R x b') g (subst (λ y. R b y) e (f a b h.0.0)) in
    ((ab, subst (λ x. All (R x) l) g h.1.0), (subst (λ x. All (R x) l) e h.0.1, h.1.1))
pairs_perm R f (Permᴰ.trans p q) h = pairs_perm R f q (pairs_perm R f p h)

-- ---- all elements of two lists, and a test over all
pub all_cross : {A B : Type 0} (P : A → Type 0) (Q : B → Type 0) (R : A → B → Type 0) (l : List A) (k : List B)
    → ((x : A) (y : B) → P x → Q y → R x y) → All P l → All Q k → All (λ x. All (R x) k) l
all_cross P Q R [] k f p q = tt
all_cross P Q R (x ∷ l) k f p q = (all_imp Q (R x) k (λ y. f x y p.0) q, all_cross P Q R l k f p.1 q)

pub all_true : {A : Type 0} (p : A → Bool) (l : List A) → all_of p l ≡ true → All (λ x. p x ≡ true) l
unfolding all_of
all_true p [] h = tt
all_true p (x ∷ l) h = (and_left (p x) (all_of p l) h, all_true p l (and_right (p x) (all_of p l) h))

pub true_all : {A : Type 0} (p : A → Bool) (l : List A) → All (λ x. p x ≡ true) l → all_of p l ≡ true
unfolding all_of
true_all p [] h = refl
true_all p (x ∷ l) h = and_true h.0 (true_all p l h.1)

pub all_both : {A : Type 0} (P Q : A → Type 0) (l : List A) → All P l → All Q l → All (λ x. P x × Q x) l
all_both P Q [] p q = tt
all_both P Q (x ∷ l) p q = ((p.0, q.0), all_both P Q l p.1 q.1)

-- ---- a filter by a test, and its two halves
pub all_filter : {A : Type 0} (P : A → Type 0) (p : A → Bool) (l : List A) → All P l → All (λ x. P x × (p x ≡ true)) (filter p l)
unfolding filter
all_filter P p [] h = tt
all_filter P p (x ∷ l) h = go (p x) refl (all_filter P p l h.1)
  where
    go : (b : Bool) → p x ≡ b → All (λ x. P x × (p x ≡ true)) (filter p l) → All (λ x. P x × (p x ≡ true)) (cond b (x ∷ filter p l) (filter p l))
    go true e ih = ((h.0, e), ih)
    go false e ih = ih

pub pairs_filter : {A : Type 0} (R : A → A → Type 0) (p : A → Bool) (l : List A) → Pairs R l → Pairs R (filter p l)
unfolding filter
pairs_filter R p [] h = tt
pairs_filter R p (x ∷ l) h = go (p x) (pairs_filter R p l h.1)
  where
    go : (b : Bool) → Pairs R (filter p l) → Pairs R (cond b (x ∷ filter p l) (filter p l))
    go true ih = (all_imp (λ y. R x y × (p y ≡ true)) (R x) (filter p l) (λ y r. r.0) (all_filter (R x) p l h.0), ih)
    go false ih = ih

pub filter_all : {A : Type 0} (p : A → Bool) (l : List A) → All (λ x. p x ≡ true) l → filter p l ≡ l
unfolding filter
filter_all p [] h = refl
filter_all {A} p (x ∷ l) h = rw h.0 (ap (λ (r : List A). x ∷ r) (filter_all p l h.1))

pub filter_none : {A : Type 0} (p : A → Bool) (l : List A) → All (λ x. p x ≡ false) l → filter p l ≡ []
unfolding filter
filter_none p [] h = refl
filter_none p (x ∷ l) h = rw h.0 (filter_none p l h.1)

pub filter_append : {A : Type 0} (p : A → Bool) (l k : List A) → filter p (l ++ k) ≡ filter p l ++ filter p k
unfolding filter
filter_append p [] k = refl
filter_append {A} p (x ∷ l) k = go (p x) (filter_append p l k)
  where
    go : (b : Bool) → filter p (l ++ k) ≡ filter p l ++ filter p k → cond b (x ∷ filter p (l ++ k)) (filter p (l ++ k)) ≡ cond b (x ∷ filter p l) (filter p l) ++ filter p k
    go true ih = ap (λ (r : List A). x ∷ r) ih
    go false ih = ih

pub filter_split : {A : Type 0} (p : A → Bool) (l : List A) → Permᴰ l (filter (λ x. not (p x)) l ++ filter p l)
unfolding filter
filter_split p [] = Permᴰ.nil
filter_split p (x ∷ l) = go (p x) (filter_split p l)
  where
    go : (b : Bool) → Permᴰ l (filter (λ x. not (p x)) l ++ filter p l)
        → Permᴰ (x ∷ l) (cond (not b) (x ∷ filter (λ x. not (p x)) l) (filter (λ x. not (p x)) l) ++ cond b (x ∷ filter p l) (filter p l))
    go true ih = Permᴰ.trans (Permᴰ.cons refl ih) (Permᴰ.symm (Permᴰ.middle x (filter (λ x. not (p x)) l) (filter p l)))
    go false ih = Permᴰ.cons refl ih

-- ---- sums
pub sum_append : (l k : List ℕ) → sum (l ++ k) ≡ sum l + sum k
unfolding sum
sum_append [] k = omega arith
sum_append (x ∷ l) k = omega (arith, sum_append l k)

pub sum_perm : {l k : List ℕ} → Permᴰ l k → sum l ≡ sum k
unfolding sum
sum_perm Permᴰ.nil = refl
sum_perm (Permᴰ.cons e p) = omega (arith, sum_perm p)
sum_perm (Permᴰ.swap e f) = omega arith
sum_perm (Permᴰ.trans p q) = sum_perm p ∙ sum_perm q

-- ---- over the numbers below n
pub cat_perm : {A : Type 0} (n : ℕ) (f g : ℕ → List A) → ((t : ℕ) → t < n → Permᴰ (f t) (g t)) → Permᴰ (cat n f) (cat n g)
unfolding cat
cat_perm zero f g h = Permᴰ.nil
cat_perm (suc n) f g h =
    Permᴰ.trans (Permᴰ.append_right (cat n f) (h n (omega arith))) (Permᴰ.append_left (g n) (cat_perm n f g (λ t l. h t (omega arith))))

pub swap_append : {A : Type 0} (l k : List A) → Permᴰ (l ++ k) (k ++ l)
swap_append [] k = subst (λ x. Permᴰ k x) (sym (append-nil k)) (Permᴰ.refl k)
swap_append (x ∷ l) k = Permᴰ.trans (Permᴰ.cons refl (swap_append l k)) (Permᴰ.symm (Permᴰ.middle x k l))

-- (a b) (c d) to (a c) (b d)
pub swap_middle : {A : Type 0} (a b c d : List A) → Permᴰ ((a ++ b) ++ (c ++ d)) ((a ++ c) ++ (b ++ d))
swap_middle a b c d =
    simp append_assoc (Permᴰ.append_left a (subst (λ x. Permᴰ x (c ++ (b ++ d))) (append_assoc b c d)
    (subst (λ x. Permᴰ ((b ++ c) ++ d) x) (append_assoc c b d) (Permᴰ.append_right d (swap_append b c)))))

pub cat_append : {A : Type 0} (n : ℕ) (f g : ℕ → List A) → Permᴰ (cat n (λ t. f t ++ g t)) (cat n f ++ cat n g)
unfolding cat
cat_append zero f g = Permᴰ.nil
cat_append (suc n) f g =
    Permᴰ.trans (Permᴰ.append_left (f n ++ g n) (cat_append n f g)) (swap_middle (f n) (g n) (cat n f) (cat n g))

pub cat_nil : {A : Type 0} (n : ℕ) → ◌≡◌ {A = List A} (cat n (λ _. [])) []
unfolding cat
cat_nil zero = refl
cat_nil (suc n) = cat_nil n

pub cat_swap : {A : Type 0} (n k : ℕ) (f : ℕ → ℕ → List A) → Permᴰ (cat n (λ t. cat k (λ u. f t u))) (cat k (λ u. cat n (λ t. f t u)))
unfolding cat
cat_swap zero k f = rw (cat_nil k) Permᴰ.nil
cat_swap (suc n) k f =
    Permᴰ.trans (Permᴰ.append_left (cat k (f n)) (cat_swap n k f))
    (Permᴰ.symm (cat_append k (f n) (λ u. cat n (λ t. f t u))))

pub cat_empty : {A : Type 0} (n : ℕ) (f : ℕ → List A) → ((t : ℕ) → t < n → f t ≡ []) → cat n f ≡ []
unfolding cat
cat_empty zero f h = refl
cat_empty (suc n) f h = rw (h n (omega arith)) (cat_empty n f (λ t l. h t (omega arith)))

-- only one of them has something
pub cat_one : {A : Type 0} (n : ℕ) (f : ℕ → List A) (x : ℕ) → x < n → ((t : ℕ) → t < n → t ≢ x → f t ≡ []) → cat n f ≡ f x
unfolding cat
cat_one zero f x l h = absurd (omega arith)
cat_one {A} (suc n) f x l h = go (ℕ_discrete n x) (cat_one n f x)
  where
    go : Dec (n ≡ x) → (x < n → ((t : ℕ) → t < n → t ≢ x → f t ≡ []) → cat n f ≡ f x) → f n ++ cat n f ≡ f x
    go (yes e) ih = rw (cat_empty n f (λ t k. h t (omega arith) (omega arith)), append-nil) (ap f e)
    go (no e) ih = rw (h n (omega arith) e) (ih (omega arith) (λ t k. h t (omega arith)))

-- ---- equal lists, and map
pub perm_of : {A : Type 0} {l k : List A} → l ≡ k → Permᴰ l k
perm_of {A} {l} {k} e = subst (λ x. Permᴰ l x) e (Permᴰ.refl l)

pub map_append : {A B : Type 0} (f : A → B) (l k : List A) → map f (l ++ k) ≡ map f l ++ map f k
map_append f [] k = refl
map_append f (x ∷ l) k = ap (λ r. f x ∷ r) (map_append f l k)

pub map_perm : {A B : Type 0} (f : A → B) {l k : List A} → Permᴰ l k → Permᴰ (map f l) (map f k)
map_perm f Permᴰ.nil = Permᴰ.nil
map_perm f (Permᴰ.cons e p) = Permᴰ.cons (ap f e) (map_perm f p)
map_perm f (Permᴰ.swap e g) = Permᴰ.swap (ap f e) (ap f g)
map_perm f (Permᴰ.trans p q) = Permᴰ.trans (map_perm f p) (map_perm f q)

pub map_cong : {A B : Type 0} (f g : A → B) (l : List A) → All (λ x. f x ≡ g x) l → map f l ≡ map g l
map_cong f g [] h = refl
map_cong f g (x ∷ l) h = ap (λ y. y ∷ map f l) h.0 ∙ ap (λ r. g x ∷ r) (map_cong f g l h.1)

pub map_map : {A B C : Type 0} (f : A → B) (g : B → C) (l : List A) → map g (map f l) ≡ map (λ x. g (f x)) l
map_map f g [] = refl
map_map f g (x ∷ l) = ap (λ r. g (f x) ∷ r) (map_map f g l)

-- ---- sums over the numbers below n
pub sum_cat_le : (n : ℕ) (f g : ℕ → List ℕ) → ((t : ℕ) → t < n → sum (f t) ≤ sum (g t)) → sum (cat n f) ≤ sum (cat n g)
unfolding cat
sum_cat_le zero f g h = omega arith
sum_cat_le (suc n) f g h =
    omega (arith, sum_append (f n) (cat n f), sum_append (g n) (cat n g), h n (omega arith), sum_cat_le n f g (λ t l. h t (omega arith)))

pub sum_cat_lt : (n : ℕ) (f g : ℕ → List ℕ) → ((t : ℕ) → t < n → sum (f t) ≤ sum (g t)) → (x : ℕ) → x < n → sum (f x) < sum (g x) → sum (cat n f) < sum (cat n g)
unfolding cat
sum_cat_lt zero f g h x l k = absurd (omega arith)
sum_cat_lt (suc n) f g h x l k = go (ℕ_discrete x n) (sum_cat_lt n f g (λ t l. h t (omega arith)) x)
  where
    go : Dec (x ≡ n) → (x < n → sum (f x) < sum (g x) → sum (cat n f) < sum (cat n g)) → sum (f n ++ cat n f) < sum (g n ++ cat n g)
    go (yes e) ih =
        let k' : sum (f n) < sum (g n) = subst (λ y. sum (f y) < sum (g y)) e k in
        omega (arith, sum_append (f n) (cat n f), sum_append (g n) (cat n g), sum_cat_le n f g (λ t l. h t (omega arith)))
    go (no e) ih =
        omega (arith, sum_append (f n) (cat n f), sum_append (g n) (cat n g), h n (omega arith), ih (omega arith) k)

pub sum_map_lt : {A : Type 0} (f g : A → ℕ) (l : List A) → All (λ x. suc (f x) ≤ g x) l → sum (map f l) + length l ≤ sum (map g l)
unfolding sum
sum_map_lt f g [] h = omega arith
sum_map_lt f g (x ∷ l) h = omega (arith, h.0, sum_map_lt f g l h.1)

-- a permutation keeps the length
pub length_perm : {A : Type 0} {l k : List A} → Permᴰ l k → length l ≡ length k
length_perm Permᴰ.nil = refl
length_perm (Permᴰ.cons e p) = ap suc (length_perm p)
length_perm (Permᴰ.swap e f) = refl
length_perm (Permᴰ.trans p q) = length_perm p ∙ length_perm q

-- ---- parts of an append
pub all_left : {A : Type 0} (P : A → Type 0) (l k : List A) → All P (l ++ k) → All P l
all_left P [] k h = tt
all_left P (x ∷ l) k h = (h.0, all_left P l k h.1)

pub all_right : {A : Type 0} (P : A → Type 0) (l k : List A) → All P (l ++ k) → All P k
all_right P [] k h = h
all_right P (x ∷ l) k h = all_right P l k h.1

pub pairs_left : {A : Type 0} (R : A → A → Type 0) (l k : List A) → Pairs R (l ++ k) → Pairs R l
pairs_left R [] k h = tt
pairs_left R (x ∷ l) k h = (all_left (R x) l k h.0, pairs_left R l k h.1)

-- what two steps in turn keep
pub perm_chain : {A : Type 0} (a b c x y v w : List A) → Permᴰ (b ++ v) (a ++ x) → Permᴰ (c ++ w) (b ++ y) → Permᴰ (c ++ (v ++ w)) (a ++ (x ++ y))
perm_chain a b c x y v w p q =
    Permᴰ.trans (Permᴰ.append_left c (swap_append v w))
    (Permᴰ.trans (perm_of (sym (append_assoc c w v)))
    (Permᴰ.trans (Permᴰ.append_right v q)
    (Permᴰ.trans (perm_of (append_assoc b y v))
    (Permᴰ.trans (Permᴰ.append_left b (swap_append y v))
    (Permᴰ.trans (perm_of (sym (append_assoc b v y)))
    (Permᴰ.trans (Permᴰ.append_right y p) (perm_of (append_assoc a x y))))))))

-- ---- sums of one number over a list, and what is positive
pub sum_const : {A : Type 0} (k : ℕ) (l : List A) → sum (map (λ _. k) l) ≡ length l * k
unfolding sum
sum_const k [] = omega arith
sum_const k (x ∷ l) = omega (arith, sum_const k l)

pub sum_find : (n : ℕ) (f : ℕ → List ℕ) → 0 < sum (cat n f) → (t : ℕ) × (t < n) × (0 < sum (f t))
unfolding cat sum
sum_find zero f h = absurd (omega arith)
sum_find (suc n) f h = go (dec_le 1 (sum (f n))) (sum_find n f)
  where
    go : Dec (0 < sum (f n)) → (0 < sum (cat n f) → (t : ℕ) × (t < n) × (0 < sum (f t))) → (t : ℕ) × (t < suc n) × (0 < sum (f t))
    go (yes p) ih = (n, omega arith, p)
    go (no p) ih = let r = ih (omega (arith, sum_append (f n) (cat n f))) in (r.0, omega (arith, r.1), r.2)

pub sum_part : (n : ℕ) (f : ℕ → List ℕ) (t : ℕ) → t < n → sum (f t) ≤ sum (cat n f)
unfolding cat
sum_part zero f t h = absurd (omega arith)
sum_part (suc n) f t h = go (ℕ_discrete t n) (sum_part n f t)
  where
    go : Dec (t ≡ n) → (t < n → sum (f t) ≤ sum (cat n f)) → sum (f t) ≤ sum (f n ++ cat n f)
    go (yes e) ih = rw e (omega (arith, sum_append (f n) (cat n f)))
    go (no e) ih = omega (arith, sum_append (f n) (cat n f), ih (omega arith))

-- a factor taken out
pub sum_scale : {A : Type 0} (n b : ℕ) (p : ℕ → Bool) (m : ℕ → List A) → sum (cat n (λ t. map (λ _. cond (p t) b 0) (m t))) ≡ b * sum (cat n (λ t. map (λ _. cond (p t) 1 0) (m t)))
unfolding cat sum
sum_scale zero b p m = omega arith
sum_scale (suc n) b p m =
    rw (sum_append (map (λ _. cond (p n) b 0) (m n)) (cat n (λ t. map (λ _. cond (p t) b 0) (m t))), sum_append (map (λ _. cond (p n) 1 0) (m n)) (cat n (λ t. map (λ _. cond (p t) 1 0) (m t))))
    (omega (arith, sum_scale n b p m, one (p n)))
  where
    one : (q : Bool) → sum (map (λ _. cond q b 0) (m n)) ≡ b * sum (map (λ _. cond q 1 0) (m n))
    one true = rw (sum_const b (m n), sum_const 1 (m n)) (omega arith)
    one false = rw (sum_const 0 (m n)) (omega arith)

-- element by element
pub sum_mono : {A : Type 0} (f g : A → ℕ) (l : List A) → All (λ x. f x ≤ g x) l → sum (map f l) ≤ sum (map g l)
unfolding sum
sum_mono f g [] h = omega arith
sum_mono f g (x ∷ l) h = omega (arith, h.0, sum_mono f g l h.1)

-- ---- the later part, and one part of a join
pub pairs_right : {A : Type 0} (R : A → A → Type 0) (l k : List A) → Pairs R (l ++ k) → Pairs R k
pairs_right R [] k h = h
pairs_right R (x ∷ l) k h = pairs_right R l k h.1

pub cat_pairs : {A : Type 0} (R : A → A → Type 0) (n : ℕ) (f : ℕ → List A) (t : ℕ) → t < n → Pairs R (cat n f) → Pairs R (f t)
unfolding cat
cat_pairs R zero f t l h = absurd (omega arith)
cat_pairs R (suc n) f t l h = go (ℕ_discrete t n) (cat_pairs R n f t)
  where
    go : Dec (t ≡ n) → (t < n → Pairs R (cat n f) → Pairs R (f t)) → Pairs R (f t)
    go (yes e) ih = subst (λ k. Pairs R (f k)) (sym e) (pairs_left R (f n) (cat n f) h)
    go (no e) ih = ih (omega arith) (pairs_right R (f n) (cat n f) h)

-- ---- map taken back
pub all_unmap : {A B : Type 0} (P : B → Type 0) (f : A → B) (l : List A) → All P (map f l) → All (λ x. P (f x)) l
all_unmap P f [] h = tt
all_unmap P f (x ∷ l) h = (h.0, all_unmap P f l h.1)

pub pairs_unmap : {A B : Type 0} (R : B → B → Type 0) (f : A → B) (l : List A) → Pairs R (map f l) → Pairs (λ x y. R (f x) (f y)) l
pairs_unmap R f [] h = tt
pairs_unmap R f (x ∷ l) h = (all_unmap (R (f x)) f l h.0, pairs_unmap R f l h.1)

-- one part of a join
pub cat_all : {A : Type 0} (P : A → Type 0) (n : ℕ) (f : ℕ → List A) (t : ℕ) → t < n → All P (cat n f) → All P (f t)
unfolding cat
cat_all P zero f t l h = absurd (omega arith)
cat_all P (suc n) f t l h = go (ℕ_discrete t n) (cat_all P n f t)
  where
    go : Dec (t ≡ n) → (t < n → All P (cat n f) → All P (f t)) → All P (f t)
    go (yes e) ih = subst (λ k. All P (f k)) (sym e) (all_left P (f n) (cat n f) h)
    go (no e) ih = ih (omega arith) (all_right P (f n) (cat n f) h)

-- ---- members
pub mem_map : {A B : Type 0} (f : A → B) {x : A} {l : List A} → Memᴰ x l → Memᴰ (f x) (map f l)
mem_map f (Memᴰ.head e) = Memᴰ.head (ap f e)
mem_map f (Memᴰ.tail h) = Memᴰ.tail (mem_map f h)

pub mem_perm : {A : Type 0} {l k : List A} → Permᴰ l k → (x : A) → Memᴰ x l → Memᴰ x k
mem_perm {A} {l} {k} p x h = all_mem (λ y. Memᴰ y k) h (all_perm (λ y. Memᴰ y k) (Permᴰ.symm p) (all_of_lem (λ y. Memᴰ y k) k (λ y q. q)))

pub mem_filter : {A : Type 0} (p : A → Bool) {x : A} (l : List A) → p x ≡ true → Memᴰ x l → Memᴰ x (filter p l)
unfolding filter
mem_filter {A} p {x} [] e m = elim m [ ]
mem_filter p (y ∷ l) e (Memᴰ.head q) = rw (ap p (sym q) ∙ e) (Memᴰ.head q)
mem_filter {A} p {x} (y ∷ l) e (Memᴰ.tail h) = go (p y) (mem_filter p l e h)
  where
    go : (b : Bool) → Memᴰ x (filter p l) → Memᴰ x (cond b (y ∷ filter p l) (filter p l))
    go true k = Memᴰ.tail k
    go false k = k

-- an element of the first list and one of the second
pub pairs_between : {A : Type 0} (R : A → A → Type 0) (l k : List A) → Pairs R (l ++ k) → {x y : A} → Memᴰ x l → Memᴰ y k → R x y
pairs_between {A} R [] k h {x} {y} p q = elim p [ ]
pairs_between R (z ∷ l) k h {x} {y} (Memᴰ.head e) q = subst (λ w. R w y) (sym e) (all_mem (R z) q (all_right (R z) l k h.0))
pairs_between R (z ∷ l) k h (Memᴰ.tail p) q = pairs_between R l k h.1 p q

pub mem_cat : {A : Type 0} (n : ℕ) (f : ℕ → List A) (t : ℕ) → t < n → {x : A} → Memᴰ x (f t) → Memᴰ x (cat n f)
mem_cat n f t h {x} p = all_mem (λ y. Memᴰ y (cat n f)) p (cat_all (λ y. Memᴰ y (cat n f)) n f t h (all_of_lem (λ y. Memᴰ y (cat n f)) (cat n f) (λ y q. q)))

-- elements of two of the lists
pub cat_between : {A : Type 0} (R : A → A → Type 0) → ((x y : A) → R x y → R y x) → (n : ℕ) (f : ℕ → List A) (t u : ℕ) → t < n → u < n → t ≢ u → Pairs R (cat n f) → {x y : A} → Memᴰ x (f t) → Memᴰ y (f u) → R x y
unfolding cat
cat_between R sy zero f t u ht hu ne P p q = absurd (omega arith)
cat_between R sy (suc n) f t u ht hu ne P {x} {y} p q = go (ℕ_discrete t n) (ℕ_discrete u n) (λ a b. cat_between R sy n f t u a b ne (pairs_right R (f n) (cat n f) P) p q)
  where
    go : Dec (t ≡ n) → Dec (u ≡ n) → (t < n → u < n → R x y) → R x y
    go (yes a) (yes b) ih = absurd (ne (a ∙ sym b))
    go (yes a) (no b) ih = pairs_between R (f n) (cat n f) P (subst (λ i. Memᴰ x (f i)) a p) (mem_cat n f u (omega arith) q)
    go (no a) (yes b) ih = sy y x (pairs_between R (f n) (cat n f) P (subst (λ i. Memᴰ y (f i)) b q) (mem_cat n f t (omega arith) p))
    go (no a) (no b) ih = ih (omega arith) (omega arith)

-- ---- whether two lists of numbers are equal, for tables
unfoldable pub same : List ℕ → List ℕ → Bool
same [] [] = true
same [] (y ∷ k) = false
same (x ∷ l) [] = false
same (x ∷ l) (y ∷ k) = eqb x y && same l k

-- ---- each two places of a list
pub pairs_each : {A : Type 0} (R : A → A → Type 0) (z : A) (l : List A) → ((i j : ℕ) → i < j → j < length l → R (get_or l i z) (get_or l j z)) → Pairs R l
pairs_each R z [] f = tt
pairs_each R z (x ∷ l) f = (all_each (R x) z l (λ j h. f 0 (suc j) (omega arith) (omega arith)), pairs_each R z l (λ i j h k. f (suc i) (suc j) (omega arith) (omega arith)))

pub pairs_place : {A : Type 0} (R : A → A → Type 0) (z : A) (l : List A) → Pairs R l → (i j : ℕ) → i < j → j < length l → R (get_or l i z) (get_or l j z)
pairs_place R z [] f i j h k = absurd (omega arith)
pairs_place R z (x ∷ l) f i zero h k = absurd (omega arith)
pairs_place R z (x ∷ l) f zero (suc j) h k = all_place (R x) z l f.0 j (omega arith)
pairs_place R z (x ∷ l) f (suc i) (suc j) h k = pairs_place R z l f.1 i j (omega arith) (omega arith)
