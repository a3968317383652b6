-- Lists joined over the numbers below n, and lists cut into blocks of sixteen.
use mathlib.Core.Path.{◌≡◌, refl, sym, ap}
use mathlib.Core.Bool.{Bool}
use mathlib.Core.List.Permᴰ
use mathlib.Core.List.{List, [], ◌∷◌, ◌++◌, map, Permᴰ}
use Prim.Native.Nat.{ℕ, zero, suc, ◌+◌, ◌*◌, ◌≤◌, ◌<◌}
use native.Mathlib.Omega.{arith}
use native.Mathlib.Decide.{ℕ_discrete}
use lib.ListN.{length, get_or, take, drop, length-append}
use lib.Seq.{take-add}
use Rattle.laws.specs.Define.{cat, filter}
use Rattle.laws.specs.Every.{All}
use Rattle.laws.proofs.Lists.{all_append, filter_append, swap_append}
use Rattle.floor.specs.declared.Tile.{Tile}
use Rattle.floor.specs.Memory.{zero_tile}
use Rattle.check_floor.specs.InternalCode.{counted}

-- ---- parts of a mapped list
pub map_take : {A B : Type 0} (f : A → B) (n : ℕ) (l : List A) → map f (take n l) ≡ take n (map f l)
map_take f zero l = refl
map_take f (suc n) [] = refl
map_take {B = B} f (suc n) (x ∷ l) = ap (λ (r : List B). f x ∷ r) (map_take f n l)

pub map_drop : {A B : Type 0} (f : A → B) (n : ℕ) (l : List A) → map f (drop n l) ≡ drop n (map f l)
map_drop f zero l = refl
map_drop f (suc n) [] = refl
map_drop f (suc n) (x ∷ l) = map_drop f n l

-- ---- joins
pub cat_same : {A : Type 0} (n : ℕ) (g h : ℕ → List A) → ((t : ℕ) → t < n → g t ≡ h t) → cat n g ≡ cat n h
unfolding cat
cat_same zero g h e = refl
cat_same {A} (suc n) g h e = rw (e n (omega arith)) (ap (λ (r : List A). h n ++ r) (cat_same n g h (λ t l. e t (omega arith))))

-- nothing is joined from n on
pub cat_rest : {A : Type 0} (k n : ℕ) (g : ℕ → List A) → n ≤ k → ((t : ℕ) → n ≤ t → t < k → g t ≡ []) → cat k g ≡ cat n g
unfolding cat
cat_rest zero n g l h = let e : n ≡ 0 = omega arith in ap (λ (m : ℕ). cat m g) (sym e)
cat_rest {A} (suc k) n g l h = go (ℕ_discrete n (suc k)) (cat_rest k n g)
  where
    go : Dec (n ≡ suc k) → (n ≤ k → ((t : ℕ) → n ≤ t → t < k → g t ≡ []) → cat k g ≡ cat n g) → g k ++ cat k g ≡ cat n g
    go (yes e) ih = rw e
    go (no e) ih = rw (h k (omega arith) (omega arith)) (ih (omega arith) (λ t p q. h t p (omega arith)))

pub all_cat : {A : Type 0} (P : A → Type 0) (n : ℕ) (g : ℕ → List A) → ((t : ℕ) → t < n → All P (g t)) → All P (cat n g)
unfolding cat
all_cat P zero g h = tt
all_cat P (suc n) g h = all_append P (g n) (cat n g) (h n (omega arith)) (all_cat P n g (λ t l. h t (omega arith)))

pub cat_length : {A : Type 0} (ts : List Tile) (n : ℕ) (g : ℕ → List A) → ((t : ℕ) → t < n → length (g t) ≡ (get_or ts t zero_tile).count) → length (cat n g) ≡ counted ts n
unfolding cat counted
cat_length ts zero g h = refl
cat_length ts (suc n) g h = omega (arith, length-append (g n) (cat n g), h n (omega arith), cat_length ts n g (λ t l. h t (omega arith)))

-- what is kept of a list, block by block
pub blocks_perm : {A : Type 0} (p : A → Bool) (l : List A) (n : ℕ) → Permᴰ (filter p (take (16 * n) l)) (cat n (λ t. filter p (take 16 (drop (16 * t) l))))
unfolding cat filter
blocks_perm p l zero = Permᴰ.nil
blocks_perm p l (suc n) =
    let e : 16 * suc n ≡ 16 * n + 16 = omega arith in
    rw (e, take-add (16 * n) 16 l, filter_append p (take (16 * n) l) (take 16 (drop (16 * n) l)))
    (Permᴰ.trans (swap_append (filter p (take (16 * n) l)) (filter p (take 16 (drop (16 * n) l))))
    (Permᴰ.append_left (filter p (take 16 (drop (16 * n) l))) (blocks_perm p l n)))
