-- The eight places of layouts, each tested with the name in the place after it: for a loop over them.
use mathlib.Core.Path.{◌≡◌, refl, ap}
use mathlib.Core.Logic.{◌⊎◌, inl, inr, ◌↔◌}
use mathlib.Core.Bool.{Bool, true, false, cond, ◌&&◌}
use mathlib.Core.List.{List, [], ◌∷◌}
use Prim.Native.Nat.{ℕ, zero, suc, ◌<◌}
use native.Mathlib.Omega.{arith}
use native.Mathlib.Decide.{dec_le}
use lib.Dec.{eqb}
use lib.ListN.{length, get_or, drop, get_or-eq_default}
use borrow.Author.Tests.{eqb-true, eqb-false, eq-eqb}
use Rattle.laws.specs.Define.{all_of, all_below}
use Rattle.laws.specs.Every.{All}
use Rattle.laws.proofs.Lists.{all_imp}
use Rattle.laws.proofs.Tables.{all_at, below_at, below_of}
use Rattle.laws.proofs.Tests.{by_test, same_test, and_left, and_right, and_true, r_and, r_or, r_eq, r_lt}
use Rattle.floor.specs.declared.Settings.{Settings}
use Rattle.floor.specs.declared.Layout.{Layout}
use Rattle.floor.specs.declared.Floor.{Floor}
use Rattle.floor.specs.Layouts.{layout_ok, layouts_sound}
use Rattle.floor.specs.Memory.{zero_layout, used_layouts, is_zero_layout, layouts_fit}
use Rattle.floor.specs.Well.{layouts_well, place_ok, name_at}
pub use Rattle.floor.specs.Well.{place_test}
use Rattle.floor.proofs.Rows.{used_named}
use Rattle.floor.proofs.SoundLayouts.{Rises, sound_layouts_of, sound_layouts_is}

-- what the test says of a place without a name, and of one with a name
free_place : (s : Settings) (x : Layout) (above : ℕ) → x.name ≡ 0 → place_ok s x above ≡ true ↔ ((x.set ≡ 0) × (above ≡ 0))
unfolding place_ok
free_place s x above e = rw (eq-eqb x.name 0 e) (r_and (r_eq x.set 0) (r_eq above 0))

used_place : (s : Settings) (x : Layout) (above : ℕ) → eqb x.name 0 ≡ false → place_ok s x above ≡ true ↔ ((layout_ok s x ≡ true) × ((above ≡ 0) ⊎ (x.name < above)))
unfolding place_ok
used_place s x above e = rw e (r_and (λ h. h, λ h. h) (r_or (r_eq above 0) (r_lt x.name above)))

-- sound layouts first, zeros after them
record Filled (s : Settings) (l : List Layout) : Type 0 where
  each : All (λ x. layout_ok s x ≡ true) (used_layouts l)
  rise : Rises (used_layouts l)
  rest : all_of is_zero_layout (drop (length (used_layouts l)) l) ≡ true

Tests : Settings → List Layout → Type 0
Tests s l = (k : ℕ) → k < length l → place_test s l k ≡ true

tail_tests : (s : Settings) (x : Layout) (l : List Layout) → Tests s (x ∷ l) → Tests s l
unfolding Tests
tail_tests s x l h k i = h (suc k) (omega arith)

-- with no name in the first place none is used
none_used : (l : List Layout) → name_at l 0 ≡ 0 → used_layouts l ≡ []
unfolding used_layouts
none_used [] e = refl
none_used (x ∷ l) e = rw (eq-eqb x.name 0 e)

-- the first name is below all others
above_first_lem : (n : ℕ) (l : List Layout) → (name_at l 0 ≡ 0) ⊎ (n < name_at l 0) → Rises (used_layouts l) → All (λ w. n < w.name) (used_layouts l)
unfolding used_layouts
above_first_lem n [] q R = tt
above_first_lem n (y ∷ l) q R = go (by_test (eqb y.name 0)) q R
  where
    go : (eqb y.name 0 ≡ true) ⊎ (eqb y.name 0 ≡ false) → (y.name ≡ 0) ⊎ (n < y.name) → Rises (cond (eqb y.name 0) [] (y ∷ used_layouts l)) → All (λ w. n < w.name) (cond (eqb y.name 0) [] (y ∷ used_layouts l))
    go (inl e) p S = rw e tt
    go (inr e) (inl p) S = absurd (eqb-false y.name 0 e p)
    go (inr e) (inr p) S = let T = rw e at S in rw e (p, all_imp (λ w. y.name < w.name) (λ w. n < w.name) (used_layouts l) (λ w r. omega arith) T.0)

tests_filled : (s : Settings) (l : List Layout) → Tests s l → Filled s l
unfolding used_layouts all_of is_zero_layout Tests
tests_filled s [] h = record { each = tt; rise = tt; rest = refl }
tests_filled s (x ∷ l) h = go (by_test (eqb x.name 0)) (tests_filled s l (tail_tests s x l h))
  where
    first : place_ok s x (name_at l 0) ≡ true
    first = h 0 (omega arith)

    go : (eqb x.name 0 ≡ true) ⊎ (eqb x.name 0 ≡ false) → Filled s l → Filled s (x ∷ l)
    go (inl e) F =
        let z = (free_place s x (name_at l 0) (eqb-true x.name 0 e)).0 first in
        let u : used_layouts l ≡ [] = none_used l z.1 in
        record { each = rw e tt; rise = rw e tt; rest = rw e (and_true (and_true e (eq-eqb x.set 0 z.0)) (rw u at F.rest)) }
    go (inr e) F =
        let z = (used_place s x (name_at l 0) e).0 first in
        record { each = rw e (z.0, F.each); rise = rw e (above_first_lem x.name l z.1 F.rise, F.rise); rest = rw e F.rest }

-- all zero
zero_tests : (s : Settings) (l : List Layout) → all_of is_zero_layout l ≡ true → Tests s l
unfolding Tests is_zero_layout
zero_tests s l h k i =
    let x = get_or l k zero_layout in
    let z = all_at is_zero_layout l zero_layout h k i in
    (free_place s x (name_at l (suc k)) (eqb-true x.name 0 (and_left (eqb x.name 0) (eqb x.set 0) z))).1 (eqb-true x.set 0 (and_right (eqb x.name 0) (eqb x.set 0) z), next (dec_le (suc (suc k)) (length l)))
  where
    next : Dec (suc k < length l) → name_at l (suc k) ≡ 0
    next (yes j) = eqb-true (name_at l (suc k)) 0 (and_left (eqb (name_at l (suc k)) 0) _ (all_at is_zero_layout l zero_layout h (suc k) j))
    next (no j) = ap (λ (y : Layout). y.name) (get_or-eq_default l zero_layout (omega arith))

first_above : (n : ℕ) (l : List Layout) → All (λ w. n < w.name) (used_layouts l) → (name_at l 0 ≡ 0) ⊎ (n < name_at l 0)
unfolding used_layouts
first_above n [] h = inl refl
first_above n (y ∷ l) h = go (by_test (eqb y.name 0)) h
  where
    go : (eqb y.name 0 ≡ true) ⊎ (eqb y.name 0 ≡ false) → All (λ w. n < w.name) (cond (eqb y.name 0) [] (y ∷ used_layouts l)) → (y.name ≡ 0) ⊎ (n < y.name)
    go (inl e) k = inl (eqb-true y.name 0 e)
    go (inr e) k = let q = rw e at k in inr q.0

filled_tests : (s : Settings) (l : List Layout) → Filled s l → Tests s l
unfolding used_layouts all_of Tests
filled_tests s [] F k i = absurd (omega arith)
filled_tests s (x ∷ l) F k i = go (by_test (eqb x.name 0)) F.each F.rise F.rest (λ G. filled_tests s l G) k i
  where
    go : (eqb x.name 0 ≡ true) ⊎ (eqb x.name 0 ≡ false) → All (λ x. layout_ok s x ≡ true) (cond (eqb x.name 0) [] (x ∷ used_layouts l)) → Rises (cond (eqb x.name 0) [] (x ∷ used_layouts l))
        → all_of is_zero_layout (drop (length (cond (eqb x.name 0) [] (x ∷ used_layouts l))) (x ∷ l)) ≡ true → (Filled s l → (k : ℕ) → k < length l → place_test s l k ≡ true) → (k : ℕ) → k < suc (length l) → place_test s (x ∷ l) k ≡ true
    go (inl e) each rise rest ih k i = zero_tests s (x ∷ l) (rw e at rest) k i
    go (inr e) each rise rest ih zero i =
        let a = rw e at each in
        let b = rw e at rise in
        (used_place s x (name_at l 0) e).1 (a.0, first_above x.name l b.0)
    go (inr e) each rise rest ih (suc k) i =
        let a = rw e at each in
        let b = rw e at rise in
        ih (record { each = a.1; rise = b.1; rest = rw e at rest }) k (omega arith)

-- for the code: place by place
pub layouts_code : (f : Floor) → length f.layouts ≡ 8 → layouts_well f ≡ all_below (place_test f.settings f.layouts) 8
unfolding layouts_well layouts_fit Tests
layouts_code f e = same_test (layouts_sound s (used_layouts l) && (eqb (length l) 8 && Z)) (all_below (place_test s l) 8) into out
  where
    s : Settings
    s = f.settings

    l : List Layout
    l = f.layouts

    Z : Bool
    Z = all_of is_zero_layout (drop (length (used_layouts l)) l)

    into : (layouts_sound s (used_layouts l) && (eqb (length l) 8 && Z)) ≡ true → all_below (place_test s l) 8 ≡ true
    into h =
        let L = sound_layouts_of s (used_layouts l) (and_left (layouts_sound s (used_layouts l)) _ h) in
        let F : Filled s l = record { each = L.each; rise = L.rise; rest = and_right (eqb (length l) 8) Z (and_right (layouts_sound s (used_layouts l)) _ h) } in
        below_of (place_test s l) 8 (λ k i. filled_tests s l F k (omega arith))

    out : all_below (place_test s l) 8 ≡ true → (layouts_sound s (used_layouts l) && (eqb (length l) 8 && Z)) ≡ true
    out h =
        let F = tests_filled s l (λ k i. below_at (place_test s l) 8 h k (omega arith)) in
        and_true (sound_layouts_is s (used_layouts l) (record { eight = omega (arith, (used_named l).1, e); each = F.each; rise = F.rise })) (and_true (eq-eqb (length l) 8 e) F.rest)
