-- A name's eight bytes and its number: each tells the other, and names rise as their numbers do.
use mathlib.Core.Path.{◌≡◌, refl, sym, ap, ◌∙◌}
use mathlib.Core.Logic.{◌⊎◌, inl, inr, ◌↔◌}
use mathlib.Core.List.{List, [], ◌∷◌}
use Prim.Native.Nat.{ℕ, zero, suc, ◌+◌, ◌*◌, ◌/◌, ◌%◌, ◌^◌, ◌≤◌, ◌<◌}
use native.Mathlib.Omega.{arith}
use native.Mathlib.Nat.{mul_assoc, mul-le-mul_right, one-le-pow, mul-add-div_right, add-mul-mod_self_right, div-eq_of_lt, mod-eq_of_lt, add-zero, suc-mul}
use native.Mathlib.Decide.{dec_le, ℕ_discrete}
use lib.ListN.{length}
use lib.Pow.{pow-add}
use Rattle.laws.specs.Every.{All}
use Rattle.floor.specs.Layouts.{name_number, letters}
use Rattle.floor.specs.Named.{Before, Spelling}

-- the weight of the byte before k others
abbrev weight : ℕ → ℕ
weight k = 2 ^ (8 * k)

weight_more : (k : ℕ) → weight (suc k) ≡ 256 * weight k
weight_more k = let e : 8 * suc k ≡ 8 + 8 * k = omega arith in ap (λ (n : ℕ). 2 ^ n) e ∙ pow-add 2 8 (8 * k)

weight_pos : (k : ℕ) → 1 ≤ weight k
weight_pos k = one-le-pow (8 * k) 2 (omega arith)

pub number_fits : (l : List ℕ) → All (λ x. x < 256) l → name_number l < weight (length l)
unfolding name_number
number_fits [] h = omega arith
number_fits (x ∷ l) h =
    let ih = number_fits l h.1 in
    let e = weight_more (length l) in
    let top : suc x * weight (length l) ≤ 256 * weight (length l) = mul-le-mul_right (weight (length l)) h.0 in
    let s : suc x * weight (length l) ≡ x * weight (length l) + weight (length l) = suc-mul x (weight (length l)) in
    omega arith

-- what stands above the lowest k bytes does not show in them
letters_low : (k y m : ℕ) → letters k (y * weight k + m) ≡ letters k m
unfolding letters
letters_low zero y m = refl
letters_low (suc k) y m =
    let e : y * weight (suc k) ≡ y * 256 * weight k = ap (λ (w : ℕ). y * w) (weight_more k) ∙ sym (mul_assoc y 256 (weight k)) in
    rw (e, letters_low k (y * 256) m, first)
  where
    first : (y * 256 * weight k + m) / weight k % 256 ≡ m / weight k % 256
    first =
        let c : y * 256 + m / weight k ≡ m / weight k + y * 256 = omega arith in
        ap (λ (n : ℕ). n % 256) (mul-add-div_right (weight_pos k) (y * 256) m ∙ c) ∙ add-mul-mod_self_right (m / weight k) y 256

letters_back : (l : List ℕ) → All (λ x. x < 256) l → letters (length l) (name_number l) ≡ l
unfolding letters name_number
letters_back [] h = refl
letters_back (x ∷ l) h = rw (letters_low (length l) x (name_number l), letters_back l h.1, first)
  where
    first : (x * weight (length l) + name_number l) / weight (length l) % 256 ≡ x
    first = ap (λ (n : ℕ). n % 256) (mul-add-div_right (weight_pos (length l)) x (name_number l) ∙ ap (λ (n : ℕ). x + n) (div-eq_of_lt (number_fits l h.1)) ∙ add-zero x) ∙ mod-eq_of_lt h.0

rises : (l k : List ℕ) → All (λ x. x < 256) l → All (λ x. x < 256) k → length l ≡ length k → name_number l < name_number k ↔ Before l k
unfolding name_number
rises [] [] h g e = (λ q. omega arith, λ q. absurd q)
rises [] (y ∷ k) h g e = absurd (omega arith)
rises (x ∷ l) [] h g e = absurd (omega arith)
rises (x ∷ l) (y ∷ k) h g e = let ih = rises l k h.1 g.1 (omega arith) in (into ih, out ih)
  where
    same : length l ≡ length k
    same = omega arith

    P : ℕ
    P = weight (length l)

    weights : weight (length k) ≡ P
    weights = ap weight (sym same)

    low : name_number l < P
    low = number_fits l h.1

    high : name_number k < P
    high = let q = number_fits k g.1 in omega (arith, weights)

    above : (a b : ℕ) → a < b → a * P + P ≤ b * P
    above a b q = let m : suc a * P ≤ b * P = mul-le-mul_right P q in omega (arith, suc-mul a P)

    scaled : y * weight (length k) ≡ y * P
    scaled = ap (λ (w : ℕ). y * w) weights

    into : name_number l < name_number k ↔ Before l k → x * P + name_number l < y * weight (length k) + name_number k → (x < y) ⊎ ((x ≡ y) × Before l k)
    into ih q = go (dec_le (suc x) y) (ℕ_discrete x y)
      where
        go : Dec (x < y) → Dec (x ≡ y) → (x < y) ⊎ ((x ≡ y) × Before l k)
        go (yes a) b = inl a
        go (no a) (yes b) = let s : x * P ≡ y * P = ap (λ (n : ℕ). n * P) b in inr (b, ih.0 (omega (arith, scaled)))
        go (no a) (no b) = absurd (omega (arith, scaled, high, above y x (omega arith)))

    out : name_number l < name_number k ↔ Before l k → (x < y) ⊎ ((x ≡ y) × Before l k) → x * P + name_number l < y * weight (length k) + name_number k
    out ih (inl a) = omega (arith, scaled, low, above x y a)
    out ih (inr b) = let s : x * P ≡ y * P = ap (λ (n : ℕ). n * P) b.0 in omega (arith, scaled, ih.1 b.1)

pub spelling : Spelling
spelling = record { bytes = letters_back; rising = rises }
