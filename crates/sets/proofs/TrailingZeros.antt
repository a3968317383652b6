-- The lowest number of a set, by the processor's count of trailing zeros.
use mathlib.Core.Path.{◌≡◌, refl, sym, ap, ◌∙◌}
use mathlib.Core.Bool.{Bool, true, false, cond}
use mathlib.Core.List.{List, [], ◌∷◌, ◌++◌, map, append-nil, append_assoc}
use Prim.Native.Nat.{ℕ, zero, suc, ◌+◌, ◌/◌, ◌%◌, ◌^◌, ◌<◌}
use native.Mathlib.Omega.{arith}
use native.Mathlib.Nat.{mod-lt}
use lib.Dec.{eqb, lit<}
use lib.Pow.{shr-shr}
use lib.ListN.{get_or}
use lib.Count.{under, count_trailing_zeros}
use Rattle.laws.specs.Define.{bit, bits_below}
use Rattle.laws.proofs.Lists.{map_append}

half_bit : (x k : ℕ) → bit x (suc k) ≡ bit (x / 2) k
unfolding bit
half_bit x k =
    let e : suc k ≡ 1 + k = omega arith in
    ap (λ (n : ℕ). eqb (x / 2 ^ n % 2) 1) e ∙ ap (λ (n : ℕ). eqb (n % 2) 1) (sym (shr-shr x 1 k))

-- the lowest bit first
shifted : (x k : ℕ) → bits_below x (suc k) ≡ cond (bit x 0) (0 ∷ []) [] ++ map suc (bits_below (x / 2) k)
unfolding bits_below
shifted x zero = sym (append-nil (cond (bit x 0) (0 ∷ []) []))
shifted x (suc k) =
    ap (λ (l : List ℕ). l ++ cond (bit x (suc k)) (suc k ∷ []) []) (shifted x k)
    ∙ append_assoc (cond (bit x 0) (0 ∷ []) []) (map suc (bits_below (x / 2) k)) (cond (bit x (suc k)) (suc k ∷ []) [])
    ∙ ap (λ (l : List ℕ). cond (bit x 0) (0 ∷ []) [] ++ l)
    (ap (λ (l : List ℕ). map suc (bits_below (x / 2) k) ++ l) (last (bit x (suc k)) ∙ ap (λ (b : Bool). map suc (cond b (k ∷ []) [])) (half_bit x k))
    ∙ sym (map_append suc (bits_below (x / 2) k) (cond (bit (x / 2) k) (k ∷ []) [])))
  where
    last : (b : Bool) → cond b (suc k ∷ []) [] ≡ map suc (cond b (k ∷ []) [])
    last true = refl
    last false = refl

front : (l : List ℕ) (k : ℕ) → get_or (map suc l) 0 (suc k) ≡ suc (get_or l 0 k)
front [] k = refl
front (t ∷ l) k = refl

zero_first : (x : ℕ) → 0 ≡ get_or (bits_below x 0) 0 0
unfolding bits_below
zero_first x = refl

bit_first : (x : ℕ) → bit x 0 ≡ eqb (x % 2) 1
unfolding bit
bit_first x = let e : x / 1 ≡ x = omega arith in ap (λ (n : ℕ). eqb (n % 2) 1) e

pub trailing_first : (k x : ℕ) → count_trailing_zeros k x ≡ get_or (bits_below x k) 0 k
unfolding count_trailing_zeros
trailing_first zero x = none
  where
    none : 0 ≡ get_or (bits_below x 0) 0 0
    none = zero_first x
trailing_first (suc k) x =
    go (x % 2) refl (mod-lt x (lit< tt)) (trailing_first k (x / 2)) ∙ sym (ap (λ (l : List ℕ). get_or l 0 (suc k)) (shifted x k))
  where
    odd : (r : ℕ) → x % 2 ≡ r → bit x 0 ≡ eqb r 1
    odd r e = bit_first x ∙ ap (λ (n : ℕ). eqb n 1) e

    go : (r : ℕ) → x % 2 ≡ r → r < 2 → count_trailing_zeros k (x / 2) ≡ get_or (bits_below (x / 2) k) 0 k → under r (count_trailing_zeros k (x / 2)) ≡ get_or (cond (bit x 0) (0 ∷ []) [] ++ map suc (bits_below (x / 2) k)) 0 (suc k)
    go zero e h ih = rw (odd 0 e) (ap suc ih ∙ sym (front (bits_below (x / 2) k) k))
    go (suc zero) e h ih = rw (odd 1 e)
    go (suc (suc r)) e h ih = absurd (omega arith)
