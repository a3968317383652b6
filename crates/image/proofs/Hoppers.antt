-- The hopper set of an image: one tile by its number, several as a set.
use mathlib.Core.Path.{◌≡◌, refl, sym, ap, ◌∙◌, subst}
use mathlib.Core.Bool.{Bool, true, false, cond, ◌||◌}
use mathlib.Core.List.{List, [], ◌∷◌, map}
use Prim.Native.Nat.{ℕ, zero, suc, ◌+◌, ◌*◌, ◌/◌, ◌%◌, ◌^◌, ◌≤◌, ◌<◌}
use native.Mathlib.Omega.{arith}
use native.Mathlib.Nat.{mod-eq_of_lt, mod-lt}
use native.Mathlib.Decide.{dec_le}
use lib.Dec.{eqb, lit<}
use lib.Pow.{pow-lt, pow_mono, mod-pow-add}
use lib.Bits.{or_zero_l}
use lib.ListN.{length, get_or}
use borrow.Author.Tests.{eq-eqb, ne_eqb, lt-ltb, le-ltb, ltb-false}
use Rattle.laws.specs.Define.{sum, bit, bits_below, refusal}
use Rattle.laws.proofs.Tests.{refusal_none, refusal_all_false, or_no}
use Rattle.laws.specs.Every.{All}
use Rattle.laws.proofs.Lists.{map_append, sum_append}
use Rattle.laws.proofs.Bits.{with_bit}
use Rattle.laws.proofs.SetBits.{bit_off, bits_all, bits_within}
use Rattle.floor.specs.declared.Settings.{Settings}
use Rattle.floor.specs.Settings.{total, hoppers_of, size_tests, set_tests, measure_tests, settings_tests, settings_refusal, settings_pass}
use Rattle.floor.proofs.Sound.{Measured}
use Rattle.floor.proofs.Well.{settings_fact}
use Rattle.image.specs.Image.{lowest, one_tile, hopper_count, several}

-- ---- the set of one tile
one_bit : (t k : ℕ) → bit (2 ^ t) k ≡ eqb k t
one_bit t k =
    ap (λ (x : ℕ). bit x k) (sym (or_zero_l (2 ^ t))) ∙ with_bit 0 t k
    ∙ ap (λ (b : Bool). eqb k t || b) (bit_off 0 0 k (lit< tt) (omega arith)) ∙ or_no (eqb k t)

no_bits : (x n : ℕ) → ((k : ℕ) → k < n → bit x k ≡ false) → bits_below x n ≡ []
unfolding bits_below
no_bits x zero f = refl
no_bits x (suc n) f = rw (no_bits x n (λ k l. f k (omega arith)), f n (omega arith))

pub one_bits : (t n : ℕ) → t < n → bits_below (2 ^ t) n ≡ t ∷ []
unfolding bits_below
one_bits t n h =
    let l : suc t ≤ n = h in
    let w : 2 ^ t < 2 ^ suc t = pow-lt (omega arith) in
    bits_within (2 ^ t) (suc t) n l w
    ∙ rw (no_bits (2 ^ t) t (λ k q. one_bit t k ∙ ne_eqb k t (omega arith)), one_bit t t, eq-eqb t t refl)

-- ---- a set is the sum of its tiles' powers
value : (x n : ℕ) → x % 2 ^ n ≡ sum (map (λ t. 2 ^ t) (bits_below x n))
unfolding bits_below sum bit
value x zero = omega arith
value x (suc n) =
    let e : suc n ≡ 1 + n = omega arith in
    ap (λ (k : ℕ). x % 2 ^ k) e ∙ mod-pow-add x 1 n
    ∙ rw (map_append (λ t. 2 ^ t) (bits_below x n) (cond (eqb (x / 2 ^ n % 2) 1) (n ∷ []) []), sum_append)
    (omega (arith, value x n, last (x / 2 ^ n % 2) (mod-lt (x / 2 ^ n) (lit< tt))))
  where
    last : (r : ℕ) → r < 2 → r * 2 ^ n ≡ sum (map (λ t. 2 ^ t) (cond (eqb r 1) (n ∷ []) []))
    last zero h = omega arith
    last (suc zero) h = omega arith
    last (suc (suc r)) h = absurd (omega arith)

one_set : (x n : ℕ) → x < 2 ^ n → length (bits_below x n) ≡ 1 → (get_or (bits_below x n) 0 0 < n) × (2 ^ get_or (bits_below x n) 0 0 ≡ x)
unfolding sum
one_set x n h e = go (bits_below x n) e (bits_all x n) (value x n)
  where
    go : (l : List ℕ) → length l ≡ 1 → All (λ t. (t < n) × (bit x t ≡ true)) l → x % 2 ^ n ≡ sum (map (λ t. 2 ^ t) l) → (get_or l 0 0 < n) × (2 ^ get_or l 0 0 ≡ x)
    go [] e p v = absurd (omega arith)
    go (t ∷ []) e p v = (p.0.0, omega (arith, mod-eq_of_lt h))
    go (t ∷ u ∷ l) e p v = absurd (omega arith)

first : (l : List ℕ) → 1 ≤ length l → get_or l 0 64 ≡ get_or l 0 0
first [] h = absurd (omega arith)
first (t ∷ l) h = refl

-- ---- settings that pass
module _ (s : Settings) (M : Measured s) where
  same_bits : bits_below s.hoppers 64 ≡ hoppers_of s
  unfolding hoppers_of
  same_bits = bits_within s.hoppers (total s) 64 M.few M.hoppers_on

  -- one hopper: its number gives the set back
  pub single : several s ≡ false → one_tile (lowest s.hoppers) ≡ s.hoppers
  unfolding one_tile lowest several hoppers_of
  single e =
      let one : length (bits_below s.hoppers (total s)) ≡ 1 = omega (arith, ltb-false 1 (length (bits_below s.hoppers (total s))) e, M.hoppers_some) in
      let p = one_set s.hoppers (total s) M.hoppers_on one in
      let low : get_or (bits_below s.hoppers 64) 0 64 ≡ get_or (bits_below s.hoppers (total s)) 0 0 = ap (λ (l : List ℕ). get_or l 0 64) same_bits ∙ first (bits_below s.hoppers (total s)) M.hoppers_some in
      rw (low, lt-ltb (get_or (bits_below s.hoppers (total s)) 0 0) 64 (omega (arith, p.0, M.few))) p.1

  -- the lowest fits its byte
  pub lowest_small : lowest s.hoppers < 64
  unfolding lowest
  lowest_small = go (bits_below s.hoppers 64) (bits_all s.hoppers 64) (subst (λ (l : List ℕ). 1 ≤ length l) (sym same_bits) M.hoppers_some)
    where
      go : (l : List ℕ) → All (λ t. (t < 64) × (bit s.hoppers t ≡ true)) l → 1 ≤ length l → get_or l 0 64 < 64
      go [] p h = absurd (omega arith)
      go (t ∷ l) p h = p.0.0

pub no_hoppers : (s : Settings) → Measured s → s.hoppers ≡ 0 → ⊥
unfolding hoppers_of
no_hoppers s M z =
    let none : bits_below s.hoppers (total s) ≡ [] = no_bits s.hoppers (total s) (λ k l. ap (λ (x : ℕ). bit x k) z ∙ bit_off 0 0 k (lit< tt) (omega arith)) in
    omega (arith, M.hoppers_some, ap (λ (l : List ℕ). length l) none)

-- ---- the tests of record 1 after 11: 1, then the set of 28 bytes and 2, then 3
pub spliced_none : (s : Settings) (b : Bool) → refusal (size_tests s ((b, 2) ∷ set_tests s (measure_tests s))) ≡ 0 → (b ≡ false) × Measured s
unfolding settings_pass settings_refusal settings_tests
spliced_none s b h = go (refusal_none (size_tests s ((b, 2) ∷ set_tests s (measure_tests s))) (omega arith) h)
  where
    go : All {A = Bool × ℕ} (λ x. x.0 ≡ false) (size_tests s ((b, 2) ∷ set_tests s (measure_tests s))) → (b ≡ false) × Measured s
    go (p1, (p2, (p3, (p4, (p5, (q, r)))))) = (q, (settings_fact s).0 (eq-eqb _ 0 (refusal_all_false (size_tests s (set_tests s (measure_tests s))) (p1, (p2, (p3, (p4, (p5, r))))))))

pub none_spliced : (s : Settings) (b : Bool) → b ≡ false → settings_refusal s ≡ 0 → refusal (size_tests s ((b, 2) ∷ set_tests s (measure_tests s))) ≡ 0
unfolding settings_refusal settings_tests refusal
none_spliced s b e h = rw e h

-- ---- one byte that was read: a tile of the floor
module _ (s : Settings) (h : ℕ) (e : s.hoppers ≡ one_tile h) (M : Measured s) where
  on_floor : h < total s
  unfolding one_tile hoppers_of
  on_floor = go (dec_le (suc h) 64) (dec_le (suc h) (total s))
    where
      none : s.hoppers ≡ 0 → hoppers_of s ≡ []
      none z = no_bits s.hoppers (total s) (λ k l. ap (λ (x : ℕ). bit x k) z ∙ bit_off 0 0 k (lit< tt) (omega arith))

      go : Dec (h < 64) → Dec (h < total s) → h < total s
      go p (yes q) = q
      go (no p) (no q) =
          let z : s.hoppers ≡ 0 = e ∙ rw (le-ltb h 64 (omega arith)) in
          absurd (omega (arith, M.hoppers_some, ap (λ (l : List ℕ). length l) (none z)))
      go (yes p) (no q) =
          let z : s.hoppers ≡ 2 ^ h = e ∙ rw (lt-ltb h 64 p) in
          absurd (omega (arith, M.hoppers_on, pow_mono {i = total s} {j = h} (omega arith)))

  set_is : s.hoppers ≡ 2 ^ h
  unfolding one_tile
  set_is = e ∙ rw (lt-ltb h 64 (omega (arith, on_floor, M.few)))

  pub byte_again : lowest s.hoppers ≡ h
  unfolding lowest
  byte_again = rw (set_is, one_bits h 64 (omega (arith, on_floor, M.few)))

  pub not_several : several s ≡ false
  unfolding several hoppers_of
  not_several = rw (set_is, one_bits h (total s) on_floor)

  pub one_counted : hopper_count s ≡ 1
  unfolding hoppers_of
  one_counted = rw (set_is, one_bits h (total s) on_floor)
