-- How many canisters there are at most, what the answer counts, and that the bound fits 32 bits.
use mathlib.Core.Path.{◌≡◌, refl, sym, ap, ◌∙◌}
use mathlib.Core.Bool.{Bool, true, false, cond, not}
use mathlib.Core.List.{List, [], ◌++◌, append-nil, Permᴰ}
use Prim.Native.Nat.{ℕ, zero, suc, ◌+◌, ◌-◌, ◌*◌, ◌≤◌, ◌<◌}
use native.Mathlib.Omega.{arith}
use native.Mathlib.Nat.{mul-le-mul, div-le_self}
use native.Mathlib.Decide.{ℕ_discrete}
use lib.ListN.{length, length-append, length-map}
use Rattle.laws.specs.Define.{cat}
use Rattle.laws.proofs.Lists.{cat_append, perm_of, cat_perm, length_perm}
use Rattle.laws.proofs.SetBits.{bits_some, bit_below}
use Rattle.floor.specs.declared.Canister.{Canister}
use Rattle.floor.specs.declared.Settings.{Settings}
use Rattle.floor.specs.Settings.{total, span, is_hopper, hoppers_of}
use Rattle.floor.specs.Model.{Model, members_of, numbers, numbers_on}
use Rattle.floor.specs.Bound.{crossing, bound}
use Rattle.floor.specs.Live.{connected, connected_count}
use Rattle.floor.proofs.Sound.{Measured, Sound}
use Rattle.floor.proofs.Capacity.{sound_small}
use Rattle.bound.specs.Answer.{numbers_where, connected_numbers, unconnected_numbers}

-- ---- n lists of at most sixteen, one of them empty
few_all : {A : Type 0} (n : ℕ) (f : ℕ → List A) → ((t : ℕ) → length (f t) ≤ 16) → length (cat n f) ≤ 16 * n
unfolding cat
few_all zero f h = omega arith
few_all (suc n) f h = omega (arith, length-append (f n) (cat n f), h n, few_all n f h)

few_but_one : {A : Type 0} (n : ℕ) (f : ℕ → List A) → ((t : ℕ) → length (f t) ≤ 16) → (x : ℕ) → x < n → length (f x) ≡ 0 → length (cat n f) + 16 ≤ 16 * n
unfolding cat
few_but_one zero f h x l e = absurd (omega arith)
few_but_one (suc n) f h x l e = go (ℕ_discrete x n) (few_but_one n f h x)
  where
    go : Dec (x ≡ n) → (x < n → length (f x) ≡ 0 → length (cat n f) + 16 ≤ 16 * n) → length (f n ++ cat n f) + 16 ≤ 16 * suc n
    go (yes q) ih = omega (arith, length-append (f n) (cat n f), sym (ap (λ (k : ℕ). length (f k)) q) ∙ e, few_all n f h)
    go (no q) ih = omega (arith, length-append (f n) (cat n f), h n, ih (omega arith) e)

-- ---- the canisters on a sound floor: a hopper has none
pub few_on : (m : Model) → Sound m → length (numbers_on m) + 16 ≤ 16 * total m.settings
unfolding numbers_on hoppers_of is_hopper
few_on m S =
    let C = total m.settings in
    let x = bits_some m.settings.hoppers C S.measured.hoppers_some in
    few_but_one C (λ t. numbers (members_of m t)) (λ t. omega (arith, length-map (members_of m t) (λ c. c.number), sound_small m S t))
    x.0 (bit_below m.settings.hoppers C x.0 S.measured.hoppers_on x.1) (ap (λ (l : List Canister). length (numbers l)) (S.hopper_empty x.0 x.1))

-- ---- the two parts of the floor
parts : (n : ℕ) (p : ℕ → Bool) (l : ℕ → List ℕ) → Permᴰ (cat n l) (cat n (λ t. cond (p t) (l t) []) ++ cat n (λ t. cond (not (p t)) (l t) []))
parts n p l =
    Permᴰ.trans (cat_perm n l (λ t. cond (p t) (l t) [] ++ cond (not (p t)) (l t) []) (λ t _. perm_of (go (p t) (l t))))
    (cat_append n (λ t. cond (p t) (l t) []) (λ t. cond (not (p t)) (l t) []))
  where
    go : (b : Bool) (x : List ℕ) → x ≡ cond b x [] ++ cond (not b) x []
    go true x = sym (append-nil x)
    go false x = refl

pub where_parts : (m : Model) (p : ℕ → Bool) → Permᴰ (numbers_on m) (numbers_where m p ++ numbers_where m (λ t. not (p t)))
unfolding numbers_on numbers_where
where_parts m p = parts (total m.settings) p (λ t. numbers (members_of m t))

module _ (m : Model) (run : ℕ → Bool) where
  pub two_parts : Permᴰ (numbers_on m) (connected_numbers m run ++ unconnected_numbers m run)
  unfolding connected_numbers unconnected_numbers
  two_parts = where_parts m (connected m.settings run)

  -- K is the length of the first part
  pub count_numbers : connected_count m run ≡ length (connected_numbers m run)
  unfolding cat connected_count numbers_where connected_numbers
  count_numbers = go (total m.settings)
    where
      one : (b : Bool) (l : List Canister) → length (cond b l []) ≡ length (cond b (numbers l) [])
      one true l = sym (length-map l (λ c. c.number))
      one false l = refl

      go : (n : ℕ) → length (cat n (λ t. cond (connected m.settings run t) (members_of m t) [])) ≡ length (cat n (λ t. cond (connected m.settings run t) (numbers (members_of m t)) []))
      go zero = refl
      go (suc n) =
          omega (
            arith,
            length-append (cond (connected m.settings run n) (members_of m n) []) (cat n (λ t. cond (connected m.settings run t) (members_of m t) [])),
            length-append (cond (connected m.settings run n) (numbers (members_of m n)) []) (cat n (λ t. cond (connected m.settings run t) (numbers (members_of m t)) [])),
            one (connected m.settings run n) (members_of m n),
            go n,
          )

  pub count_all : length (numbers_on m) ≡ connected_count m run + length (unconnected_numbers m run)
  count_all = omega (arith, length_perm two_parts, length-append (connected_numbers m run) (unconnected_numbers m run), count_numbers)

-- ---- the bound fits 32 bits
pub crossing_most : (s : Settings) → Measured s → crossing s ≤ 59999
unfolding crossing
crossing_most s M = omega (arith, div-le_self (span s) s.travel, M.narrow, M.moving, M.slow)

-- K × M and (C - 1) × (1 + K × M) are products of numbers that are small enough
pub product_most : (c k x : ℕ) → c ≤ 63 → k ≤ 1008 → x ≤ 59999 → (k * x ≤ 1008 * 59999) × (c * (1 + k * x) ≤ 63 * (1 + 1008 * 59999))
product_most c k x hc hk hx =
    let a : k * x ≤ 1008 * 59999 = mul-le-mul hk hx in
    let b : 1 + k * x ≤ 1 + 1008 * 59999 = omega arith in
    (a, mul-le-mul hc b)

pub bound_some : (m : Model) → Sound m → (run : ℕ → Bool) → 1 ≤ bound m.settings (connected_count m run)
unfolding bound
bound_some m S run =
    let c : 1 ≤ total m.settings - 1 = omega (arith, S.measured.two) in
    let x : 1 ≤ 1 + connected_count m run * crossing m.settings = omega arith in
    mul-le-mul c x

pub bound_most : (m : Model) → Sound m → (run : ℕ → Bool) → bound m.settings (connected_count m run) ≤ 63 * (1 + 1008 * 59999)
unfolding bound
bound_most m S run =
    let few : connected_count m run ≤ 1008 = omega (arith, few_on m S, count_all m run, S.measured.few) in
    (product_most (total m.settings - 1) (connected_count m run) (crossing m.settings) (omega (arith, S.measured.few)) few (crossing_most m.settings S.measured)).1
