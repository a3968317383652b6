-- The numbers of a set of bits in rising order, and lists joined over them.
use mathlib.Core.Path.{◌≡◌, refl, sym, ap, ◌∙◌, subst}
use mathlib.Core.Bool.{Bool, true, false, cond, not, ◌&&◌, true≢false}
use mathlib.Core.List.{List, [], ◌∷◌, ◌++◌, map, append-nil, append_assoc}
use mathlib.Core.List.Permᴰ
use mathlib.Core.List.{Permᴰ}
use Prim.Native.Nat.{ℕ, zero, suc, ◌+◌, ◌-◌, ◌/◌, ◌%◌, ◌^◌, ◌≤◌, ◌<◌}
use native.Mathlib.Nat.{div-eq_of_lt, lt_of_lt_of_le, lt_of_le_of_lt, mod-lt, mod-eq_of_lt}
use native.Mathlib.Numerals.{add-one}
use native.Mathlib.Omega.{arith}
use native.Mathlib.Decide.{ℕ_discrete, dec_le}
use lib.Dec.{eqb, lit<}
use lib.Pow.{pow_pos, pow_mono, mod-pow-add}
use lib.Bits.{bit_and, bit_xor, and_shr, and_mod, and_le_l, xor_shr, xor_mod}
use lib.Count.{ones, ones_cat}
use lib.ListN.{length, get_or, length-append}
use borrow.Author.Tests.{eq-eqb, ne_eqb}
use Rattle.laws.specs.Define.{tab, cat, any_of, sum, bit, bits_below, join}
use Rattle.laws.specs.Every.{All}
use Rattle.laws.proofs.Tests.{not_both}
use Rattle.laws.proofs.Search.{any_none, none_any}
use Rattle.laws.proofs.Lists.{all_append, all_imp, map_append, swap_append, cat_nil, perm_of}

-- ---- the list grows by the last number
pub bits_more : (x n : ℕ) → bits_below x (n + 1) ≡ bits_below x n ++ cond (bit x n) (n ∷ []) []
unfolding bits_below
bits_more x n = rw add-one

-- what stands in it
pub bits_all : (x n : ℕ) → All (λ t. (t < n) × (bit x t ≡ true)) (bits_below x n)
unfolding bits_below
bits_all x zero = tt
bits_all x (suc n) =
    all_append (λ t. (t < suc n) × (bit x t ≡ true)) (bits_below x n) (cond (bit x n) (n ∷ []) [])
    (all_imp (λ t. (t < n) × (bit x t ≡ true)) (λ t. (t < suc n) × (bit x t ≡ true)) (bits_below x n) (λ t p. (omega (arith, p.0), p.1)) (bits_all x n))
    (here (bit x n) refl)
  where
    here : (b : Bool) → bit x n ≡ b → All (λ t. (t < suc n) × (bit x t ≡ true)) (cond b (n ∷ []) [])
    here true e = ((omega arith, e), tt)
    here false e = tt

-- what holds of every number of the list holds of every number whose bit is set
pub bits_each : (P : ℕ → Type 0) (x n : ℕ) → All P (bits_below x n) → (t : ℕ) → t < n → bit x t ≡ true → P t
unfolding bits_below
bits_each P x zero h t l e = absurd (omega arith)
bits_each P x (suc n) h t l e = go (ℕ_discrete t n) (bits_each P x n (left (bits_below x n) (cond (bit x n) (n ∷ []) []) h) t)
  where
    left : (l k : List ℕ) → All P (l ++ k) → All P l
    left [] k h = tt
    left (y ∷ l) k h = (h.0, left l k h.1)

    right : (l k : List ℕ) → All P (l ++ k) → All P k
    right [] k h = h
    right (y ∷ l) k h = right l k h.1

    last : (b : Bool) → b ≡ true → All P (cond b (n ∷ []) []) → P n
    last true e h = h.0
    last false e h = not_both e refl

    go : Dec (t ≡ n) → (t < n → bit x t ≡ true → P t) → P t
    go (yes q) ih = subst P (sym q) (last (bit x n) (ap (bit x) (sym q) ∙ e) (right (bits_below x n) (cond (bit x n) (n ∷ []) []) h))
    go (no q) ih = ih (omega arith) e

-- some bit is set where the list has a number
pub bits_some : (x n : ℕ) → 1 ≤ length (bits_below x n) → (t : ℕ) × (bit x t ≡ true)
bits_some x n h = go (bits_below x n) h (bits_all x n)
  where
    go : (l : List ℕ) → 1 ≤ length l → All (λ t. (t < n) × (bit x t ≡ true)) l → (t : ℕ) × (bit x t ≡ true)
    go [] h p = absurd (omega arith)
    go (t ∷ l) h p = (t, p.0.1)

-- no bit from n on in a number below 2 ^ n
pub bit_off : (x n t : ℕ) → x < 2 ^ n → n ≤ t → bit x t ≡ false
unfolding bit
bit_off x n t h l = rw (div-eq_of_lt (lt_of_lt_of_le h (pow_mono l)))

pub bit_below : (x n t : ℕ) → x < 2 ^ n → bit x t ≡ true → t < n
bit_below x n t h e = go (dec_le (suc t) n)
  where
    go : Dec (t < n) → t < n
    go (yes l) = l
    go (no l) = not_both e (bit_off x n t h (omega arith))

-- ---- joined lists
pub join_append : {A : Type 0} (a b : List (List A)) → join (a ++ b) ≡ join a ++ join b
unfolding join
join_append [] b = refl
join_append {A} (l ∷ a) b = ap (λ (x : List A). l ++ x) (join_append a b) ∙ sym (append_assoc l (join a) (join b))

-- over the numbers below n, those of the set only
pub cat_bits : {A : Type 0} (x n : ℕ) (f : ℕ → List A) → Permᴰ (cat n (λ t. cond (bit x t) (f t) [])) (join (map f (bits_below x n)))
unfolding cat bits_below join
cat_bits x zero f = Permᴰ.nil
cat_bits {A} x (suc n) f =
    let here = cond (bit x n) (f n) [] in
    let done = join (map f (bits_below x n)) in
    Permᴰ.trans (Permᴰ.append_left here (cat_bits x n f))
    (Permᴰ.trans (swap_append here done) (perm_of (sym split)))
  where
    last : (b : Bool) → join (map f (cond b (n ∷ []) [])) ≡ cond b (f n) []
    last true = append-nil (f n)
    last false = refl

    split : join (map f (bits_below x n ++ cond (bit x n) (n ∷ []) [])) ≡ join (map f (bits_below x n)) ++ cond (bit x n) (f n) []
    split =
        ap join (map_append f (bits_below x n) (cond (bit x n) (n ∷ []) []))
        ∙ join_append (map f (bits_below x n)) (map f (cond (bit x n) (n ∷ []) []))
        ∙ ap (λ (y : List A). join (map f (bits_below x n)) ++ y) (last (bit x n))

-- the first first
cat_first : {A : Type 0} (n : ℕ) (f : ℕ → List A) → Permᴰ (cat (suc n) f) (f 0 ++ cat n (λ k. f (suc k)))
unfolding cat
cat_first zero f = Permᴰ.refl (f 0 ++ [])
cat_first (suc n) f =
    Permᴰ.trans (Permᴰ.append_left (f (suc n)) (cat_first n f))
    (Permᴰ.trans (perm_of (sym (append_assoc (f (suc n)) (f 0) (cat n (λ k. f (suc k))))))
    (Permᴰ.trans (Permᴰ.append_right (cat n (λ k. f (suc k))) (swap_append (f (suc n)) (f 0)))
    (perm_of (append_assoc (f 0) (f (suc n)) (cat n (λ k. f (suc k)))))))

-- a list of at most n lists, by place
pub cat_places : {A : Type 0} (n : ℕ) (ls : List (List A)) → length ls ≤ n → Permᴰ (cat n (λ k. get_or ls k [])) (join ls)
unfolding join
cat_places {A} n [] h = perm_of (cat_nil {A = A} n)
cat_places zero (l ∷ ls) h = absurd (omega arith)
cat_places {A} (suc n) (l ∷ ls) h =
    Permᴰ.trans (cat_first n (λ k. get_or (l ∷ ls) k [])) (Permᴰ.append_left l (cat_places n ls (omega arith)))

-- the lengths of n lists add up
pub sum_last : (n : ℕ) (g : ℕ → ℕ) → sum (tab (suc n) g) ≡ sum (tab n g) + g n
unfolding tab sum
sum_last zero g = omega arith
sum_last (suc n) g = omega (arith, sum_last n (λ k. g (suc k)))

pub cat_length : {A : Type 0} (n : ℕ) (f : ℕ → List A) → length (cat n f) ≡ sum (tab n (λ k. length (f k)))
unfolding cat tab sum
cat_length zero f = refl
cat_length (suc n) f = length-append (f n) (cat n f) ∙ omega (arith, cat_length n f, sum_last n (λ k. length (f k)))

-- two tables added
pub sum_tab_add : (n : ℕ) (f g : ℕ → ℕ) → sum (tab n (λ k. f k + g k)) ≡ sum (tab n f) + sum (tab n g)
unfolding tab sum
sum_tab_add zero f g = refl
sum_tab_add (suc n) f g = omega (arith, sum_tab_add n (λ k. f (suc k)) (λ k. g (suc k)))

-- ---- a number below 2 ^ n has its bits below n
pub bits_high : (x n k : ℕ) → x < 2 ^ n → bits_below x (n + k) ≡ bits_below x n
unfolding bits_below
bits_high x n zero h = let e : n + 0 ≡ n = omega arith in ap (bits_below x) e
bits_high x n (suc k) h =
    let e : n + suc k ≡ suc (n + k) = omega arith in
    ap (bits_below x) e ∙ rw (bit_off x n (n + k) h (omega arith), append-nil) (bits_high x n k h)

pub bits_within : (x n k : ℕ) → n ≤ k → x < 2 ^ n → bits_below x k ≡ bits_below x n
bits_within x n k l h = let e : n + (k - n) ≡ k = omega arith in ap (bits_below x) (sym e) ∙ bits_high x n (k - n) h

-- the processor's count of the bits that are set
zero_one : (ones 0 ≡ 0) × (ones 1 ≡ 1)
unfolding ones
zero_one = (refl, refl)

bit_ones : (x n : ℕ) → ones (x / 2 ^ n % 2) ≡ length (cond (bit x n) (n ∷ []) [])
unfolding bit
bit_ones x n = go (x / 2 ^ n % 2) (mod-lt (x / 2 ^ n) (lit< tt))
  where
    go : (r : ℕ) → r < 2 → ones r ≡ length (cond (eqb r 1) (n ∷ []) [])
    go zero h = zero_one.0
    go (suc zero) h = zero_one.1
    go (suc (suc r)) h = absurd (omega arith)

pub bits_ones : (x n : ℕ) → ones (x % 2 ^ n) ≡ length (bits_below x n)
unfolding bits_below
bits_ones x zero = let z : x % 1 ≡ 0 = omega arith in ap ones z ∙ zero_one.0
bits_ones x (suc n) =
    let e : suc n ≡ 1 + n = omega arith in
    ap (λ (k : ℕ). ones (x % 2 ^ k)) e ∙ ap ones (mod-pow-add x 1 n) ∙ ones_cat n (x / 2 ^ n % 2) (x % 2 ^ n) (mod-lt x (pow_pos n))
    ∙ omega (arith, bit_ones x n, bits_ones x n, length-append (bits_below x n) (cond (bit x n) (n ∷ []) []))

-- ---- the processor's test whether two sets have a number in common
pub both_bit : (x y k : ℕ) → bit (bit_and x y) k ≡ (bit x k && bit y k)
unfolding bit
both_bit x y k =
    rw (and_shr x y k, and_mod (x / 2 ^ k) (y / 2 ^ k) 1)
    (cases (x / 2 ^ k % 2) (y / 2 ^ k % 2) (mod-lt (x / 2 ^ k) (lit< tt)) (mod-lt (y / 2 ^ k) (lit< tt)))
  where
    cases : (a b : ℕ) → a < 2 → b < 2 → eqb (bit_and a b) 1 ≡ (eqb a 1 && eqb b 1)
    cases zero zero h l = refl
    cases zero (suc zero) h l = refl
    cases (suc zero) zero h l = refl
    cases (suc zero) (suc zero) h l = refl
    cases zero (suc (suc b)) h l = absurd (omega arith)
    cases (suc zero) (suc (suc b)) h l = absurd (omega arith)
    cases (suc (suc a)) b h l = absurd (omega arith)

-- the numbers of one set that are not in the other
pub minus_bit : (x y k : ℕ) → bit (bit_xor x (bit_and x y)) k ≡ (not (bit y k) && bit x k)
unfolding bit
minus_bit x y k =
    rw (xor_shr x (bit_and x y) k, xor_mod (x / 2 ^ k) (bit_and x y / 2 ^ k) 1, and_shr x y k, and_mod (x / 2 ^ k) (y / 2 ^ k) 1)
    (cases (x / 2 ^ k % 2) (y / 2 ^ k % 2) (mod-lt (x / 2 ^ k) (lit< tt)) (mod-lt (y / 2 ^ k) (lit< tt)))
  where
    cases : (a b : ℕ) → a < 2 → b < 2 → eqb (bit_xor a (bit_and a b)) 1 ≡ (not (eqb b 1) && eqb a 1)
    cases zero zero h l = refl
    cases zero (suc zero) h l = refl
    cases (suc zero) zero h l = refl
    cases (suc zero) (suc zero) h l = refl
    cases zero (suc (suc b)) h l = absurd (omega arith)
    cases (suc zero) (suc (suc b)) h l = absurd (omega arith)
    cases (suc (suc a)) b h l = absurd (omega arith)

-- no bit, no number
no_bits : (x n : ℕ) → ((t : ℕ) → t < n → bit x t ≡ false) → x % 2 ^ n ≡ 0
unfolding bit
no_bits x zero f = omega arith
no_bits x (suc n) f =
    let e : suc n ≡ 1 + n = omega arith in
    ap (λ (k : ℕ). x % 2 ^ k) e ∙ mod-pow-add x 1 n
    ∙ rw (off (x / 2 ^ n % 2) (mod-lt (x / 2 ^ n) (lit< tt)) (f n (omega arith)), no_bits x n (λ t l. f t (omega arith))) (omega arith)
  where
    off : (r : ℕ) → r < 2 → eqb r 1 ≡ false → r ≡ 0
    off zero h q = refl
    off (suc zero) h q = absurd (true≢false q)
    off (suc (suc r)) h q = absurd (omega arith)

pub meets_any : (x y n : ℕ) → x < 2 ^ n → not (eqb (bit_and x y) 0) ≡ any_of (bit y) (bits_below x n)
meets_any x y n h = go (any_of (bit y) (bits_below x n)) refl
  where
    small : bit_and x y % 2 ^ n ≡ bit_and x y
    small = mod-eq_of_lt (lt_of_le_of_lt (and_le_l x y) h)

    apart : any_of (bit y) (bits_below x n) ≡ false → (t : ℕ) → t < n → (b : Bool) → bit x t ≡ b → (b && bit y t) ≡ false
    apart e t l true q = bits_each (λ k. bit y k ≡ false) x n (any_none (bit y) (bits_below x n) e) t l q
    apart e t l false q = refl

    meet : bit_and x y ≡ 0 → All (λ t. bit y t ≡ false) (bits_below x n)
    meet e = all_imp (λ t. (t < n) × (bit x t ≡ true)) (λ t. bit y t ≡ false) (bits_below x n) (λ t p. here t p.1) (bits_all x n)
      where
        here : (t : ℕ) → bit x t ≡ true → bit y t ≡ false
        here t q =
            let z : (bit x t && bit y t) ≡ false = sym (both_bit x y t) ∙ ap (λ (k : ℕ). bit k t) e ∙ bit_off 0 0 t (lit< tt) (omega arith) in
            rw q at z

    go : (b : Bool) → any_of (bit y) (bits_below x n) ≡ b → not (eqb (bit_and x y) 0) ≡ b
    go true e = ap not (ne_eqb (bit_and x y) 0 (λ z. not_both e (none_any (bit y) (bits_below x n) (meet z))))
    go false e =
        ap not (eq-eqb (bit_and x y) 0 (sym small ∙ no_bits (bit_and x y) n (λ t l. both_bit x y t ∙ apart e t l (bit x t) refl)))

-- ---- the place of a number in the list: the numbers before it
bits_split : (x n t : ℕ) → t < n → bit x t ≡ true → (r : List ℕ) × (bits_below x n ≡ bits_below x t ++ (t ∷ r))
unfolding bits_below
bits_split x zero t h e = absurd (omega arith)
bits_split x (suc n) t h e = go (ℕ_discrete t n) (λ l. bits_split x n t l e)
  where
    more : List ℕ
    more = cond (bit x n) (n ∷ []) []

    go : Dec (t ≡ n) → (t < n → (r : List ℕ) × (bits_below x n ≡ bits_below x t ++ (t ∷ r))) → (r : List ℕ) × (bits_below x n ++ cond (bit x n) (n ∷ []) [] ≡ bits_below x t ++ (t ∷ r))
    go (yes q) ih = ([], rw (sym q, e))
    go (no q) ih =
        let s = ih (omega arith) in
        (s.0 ++ more, ap (λ (l : List ℕ). l ++ more) s.1 ∙ append_assoc (bits_below x t) (t ∷ s.0) more)

map_place : {A : Type 0} (f : ℕ → A) (z : A) (l : List ℕ) (t : ℕ) (r : List ℕ) → get_or (map f (l ++ (t ∷ r))) (length l) z ≡ f t
map_place f z [] t r = refl
map_place f z (y ∷ l) t r = map_place f z l t r

pub bits_place : {A : Type 0} (f : ℕ → A) (z : A) (x n t : ℕ) → t < n → bit x t ≡ true → get_or (map f (bits_below x n)) (length (bits_below x t)) z ≡ f t
bits_place f z x n t h e =
    let s = bits_split x n t h e in
    ap (λ (l : List ℕ). get_or (map f l) (length (bits_below x t)) z) s.1 ∙ map_place f z (bits_below x t) t s.0
