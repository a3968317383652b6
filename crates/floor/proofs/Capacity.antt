-- "Spacing d allows (U - l) div d + 1 along each axis, and the product of the two bounds the tile": at most sixteen canisters, four along one axis.
use mathlib.Core.Path.{◌≡◌, refl, sym, ap, ◌∙◌}
use mathlib.Core.Logic.{inl, inr, ◌≢◌}
use mathlib.Core.Bool.{Bool, true, false, cond, not}
use mathlib.Core.List.{List, [], ◌∷◌, map}
use Prim.Native.Nat.{ℕ, zero, suc, ◌+◌, ◌*◌, ◌/◌, ◌%◌, ◌≤◌, ◌<◌}
use native.Mathlib.Omega.{arith}
use native.Mathlib.Nat.{le-div_iff_mul-le, div-mul-le_self}
use lib.Arith.{digits_lt, digits_div, digits_mod}
use lib.Dec.{eqb}
use lib.ListN.{length, length-map}
use borrow.Author.Tests.{eqb-true, eqb-false, ne_eqb, not-true}
use Rattle.laws.specs.Define.{all_of, filter}
use Rattle.laws.specs.Every.{All, Pairs}
use Rattle.laws.proofs.Tests.{r_all}
use Rattle.laws.proofs.Lists.{all_imp, all_filter, filter_all, pairs_filter, all_map, pairs_map}
use Rattle.floor.specs.declared.Canister.{Canister}
use Rattle.floor.specs.declared.Settings.{Settings}
use Rattle.floor.specs.Settings.{spacing, span}
use Rattle.floor.specs.Model.{Model, members_of}
use Rattle.floor.specs.Memory.{view, pack}
use Rattle.floor.specs.Well.{apart, sound, well_formed}
use Rattle.floor.proofs.Sound.{Measured, Inside, Differ, Apart, Sound}
use Rattle.floor.proofs.Well.{apart_fact, sound_fact}
use Rattle.floor.proofs.Rows.{sound_named}
use Rattle.floor.proofs.Pack.{view_pack, fits_pack, well_of}

-- ---- the pigeonhole: different numbers below n are at most n
drop_one : (n : ℕ) (l : List ℕ) → Pairs (λ x y. x ≢ y) l → length l ≤ suc (length (filter (λ x. not (eqb x n)) l))
unfolding filter
drop_one n [] h = omega arith
drop_one n (x ∷ l) h = go (eqb x n) refl (drop_one n l h.1)
  where
    go : (b : Bool) → eqb x n ≡ b → length l ≤ suc (length (filter (λ x. not (eqb x n)) l)) → suc (length l) ≤ suc (length (cond (not b) (x ∷ filter (λ x. not (eqb x n)) l) (filter (λ x. not (eqb x n)) l)))
    go false e ih = omega arith
    go true e ih =
        omega (
          arith,
          ap length (filter_all (λ x. not (eqb x n)) l
              (all_imp (λ y. x ≢ y) (λ y. not (eqb y n) ≡ true) l (λ y k. ap not (ne_eqb y n (λ q. k (eqb-true x n e ∙ sym q)))) h.0)),
        )

pub pigeon : (n : ℕ) (l : List ℕ) → All (λ x. x < n) l → Pairs (λ x y. x ≢ y) l → length l ≤ n
pigeon zero [] h p = omega arith
pigeon zero (x ∷ l) h p = absurd (omega (arith, h.0))
pigeon (suc n) l h p =
    omega (
      arith,
      drop_one n l p,
      pigeon n (filter (λ x. not (eqb x n)) l)
          (all_imp (λ x. (x < suc n) × (not (eqb x n) ≡ true)) (λ x. x < n) (filter (λ x. not (eqb x n)) l)
          (λ x q. let k : x ≢ n = eqb-false x n (not-true (eqb x n) q.1) in omega arith)
          (all_filter (λ x. x < suc n) (λ x. not (eqb x n)) l h))
          (pairs_filter (λ x y. x ≢ y) (λ x. not (eqb x n)) l p),
    )

-- elements that a function sends to different numbers below n
pub few_cells : {A : Type 0} (P : A → Type 0) (R : A → A → Type 0) (cell : A → ℕ) (n : ℕ) (l : List A)
    → ((x : A) → P x → cell x < n) → ((x y : A) → P x → P y → R x y → cell x ≢ cell y) → All P l → Pairs R l → length l ≤ n
few_cells P R cell n l low other p r =
    omega (
      arith,
      length-map l cell,
      pigeon n (map cell l) (all_map (λ x. x < n) cell l (all_imp P (λ c. cell c < n) l low p)) (pairs_map P R (λ x y. x ≢ y) cell l other p r),
    )

-- ---- the cells of a tile
square : (k : ℕ) → k ≤ 3 → (k + 1) * (k + 1) ≤ 16
square zero h = omega arith
square (suc zero) h = omega arith
square (suc (suc zero)) h = omega arith
square (suc (suc (suc zero))) h = omega arith
square (suc (suc (suc (suc k)))) h = absurd (omega arith)

module _ (s : Settings) (M : Measured s) where
  pub spacing_pos : 0 < spacing s
  spacing_pos = omega (arith, M.slow)

  pub apart_div : (x y : ℕ) → x + spacing s ≤ y → x / spacing s < y / spacing s
  apart_div x y h = (le-div_iff_mul-le spacing_pos).1 (omega (arith, div-mul-le_self x (spacing s)))

  -- "spacing d allows (U - l) div d + 1 along each axis"
  within_along : (x : ℕ) → x ≤ span s → x / spacing s < span s / spacing s + 1
  within_along x h = omega (arith, (le-div_iff_mul-le {k = spacing s} {x = x / spacing s} {y = span s} spacing_pos).1 (omega (arith, div-mul-le_self x (spacing s))))

  pub within_div : (x : ℕ) → x ≤ span s → x / spacing s ≤ 3
  within_div x h = omega (arith, M.dense, within_along x h)

  differ_div : (x y : ℕ) → Differ (spacing s) x y → x / spacing s ≢ y / spacing s
  differ_div x y (inl h) = omega (arith, apart_div x y h)
  differ_div x y (inr h) = omega (arith, apart_div y x h)

  -- along one axis so many fit, and no more
  pub fit_along : (k : ℕ) → k < span s / spacing s + 1 → k * spacing s ≤ span s
  fit_along k h = (le-div_iff_mul-le {k = spacing s} {x = k} {y = span s} spacing_pos).0 (omega (arith, h))

  pub few_along : (l : List ℕ) → All (λ x. x ≤ span s) l → Pairs (Differ (spacing s)) l → length l ≤ span s / spacing s + 1
  few_along l i r = few_cells (λ x. x ≤ span s) (Differ (spacing s)) (λ x. x / spacing s) (span s / spacing s + 1) l within_along (λ x y j k h. differ_div x y h) i r

  cell : Canister → ℕ
  cell c = c.a / spacing s * (span s / spacing s + 1) + c.b / spacing s

  cell_lt : (c : Canister) → Inside s c → cell c < (span s / spacing s + 1) * (span s / spacing s + 1)
  unfolding cell
  cell_lt c i = digits_lt (within_along c.a i.in_a) (within_along c.b i.in_b)

  cell_apart : (c e : Canister) → Inside s c → Inside s e → Apart (spacing s) c e → cell c ≢ cell e
  unfolding cell
  cell_apart c e i j (inl h) q =
      differ_div c.a e.a h
      (sym (digits_div (c.a / spacing s) (within_along c.b i.in_b)) ∙ ap (λ x. x / (span s / spacing s + 1)) q ∙ digits_div (e.a / spacing s) (within_along e.b j.in_b))
  cell_apart c e i j (inr h) q =
      differ_div c.b e.b h
      (sym (digits_mod (c.a / spacing s) (within_along c.b i.in_b)) ∙ ap (λ x. x % (span s / spacing s + 1)) q ∙ digits_mod (e.a / spacing s) (within_along e.b j.in_b))

  -- "and the product of the two bounds the tile"
  pub few_product : (l : List Canister) → All (Inside s) l → Pairs (Apart (spacing s)) l → length l ≤ (span s / spacing s + 1) * (span s / spacing s + 1)
  few_product l i p = few_cells (Inside s) (Apart (spacing s)) cell ((span s / spacing s + 1) * (span s / spacing s + 1)) l cell_lt cell_apart i p

  pub few_sixteen : (span s / spacing s + 1) * (span s / spacing s + 1) ≤ 16
  few_sixteen = square (span s / spacing s) M.dense

  pub few_members : (l : List Canister) → All (Inside s) l → Pairs (Apart (spacing s)) l → length l ≤ 16
  few_members l i p = omega (arith, few_product l i p, few_sixteen)

  -- a full tile has no place for another
  pub product_refused : (l : List Canister) (c : Canister) → All (Inside s) l → Pairs (Apart (spacing s)) l → (span s / spacing s + 1) * (span s / spacing s + 1) ≤ length l → Inside s c → all_of (apart (spacing s) c) l ≡ false
  product_refused l c i p n j = go (all_of (apart (spacing s) c) l) refl
    where
      go : (b : Bool) → all_of (apart (spacing s) c) l ≡ b → b ≡ false
      go true e = absurd (omega (arith, few_product (c ∷ l) (j, i) ((r_all (apart (spacing s) c) (Apart (spacing s) c) (apart_fact (spacing s) c) l).0 e, p)))
      go false e = refl

  pub full_refused : (l : List Canister) (c : Canister) → All (Inside s) l → Pairs (Apart (spacing s)) l → length l ≡ 16 → Inside s c → all_of (apart (spacing s) c) l ≡ false
  full_refused l c i p n j = product_refused l c i p (omega (arith, few_sixteen)) j

-- ---- a sound value fits in memory
module _ (m : Model) (S : Sound m) where
  pub sound_small : (t : ℕ) → length (members_of m t) ≤ 16
  sound_small t = few_members m.settings S.measured (members_of m t) (S.inside t) (S.spaced t)

  pub view_packed : view (pack m) ≡ m
  view_packed = view_pack m S.len S.measured.few (λ t _. sound_small t) (sound_named m.settings m.layouts S.layouts_sound_lem)

  pub sound_well : well_formed (pack m) ≡ true
  sound_well = well_of (pack m) (rw view_packed S) (fits_pack m S.len S.measured.few (λ t _. sound_small t) (sound_named m.settings m.layouts S.layouts_sound_lem))

pub well_pack : (m : Model) → sound m ≡ true → well_formed (pack m) ≡ true
well_pack m h = sound_well m ((sound_fact m).0 h)
