-- What holds of the floor that is read from an image without a fault, before 12 is asked.
use mathlib.Core.Path.{◌≡◌, refl, sym, ap, ◌∙◌}
use mathlib.Core.Logic.{◌≢◌}
use mathlib.Core.Bool.{true}
use mathlib.Core.List.{List}
use Prim.Native.Nat.{ℕ, zero, suc, ◌≤◌}
use native.Mathlib.Omega.{arith}
use lib.Dec.{ltb}
use lib.ListN.{length, drop, get_or}
use borrow.Author.Tests.{ltb-true, lt-ltb}
use Rattle.laws.proofs.Lists.{all_imp, all_true, true_all}
use Rattle.laws.proofs.Tests.{and_yes, and_right}
use Rattle.image_bytes.specs.Bytes.{field}
use Rattle.floor.specs.Settings.{total}
use Rattle.floor.specs.Layouts.{layouts_sound}
use Rattle.floor.specs.Model.{Model, no_tile_of, members_of}
use Rattle.floor.specs.Memory.{view, pack, fits}
use Rattle.floor.specs.Well.{state_sound, sound, well_formed}
use Rattle.floor.proofs.Sound.{Measured}
use Rattle.floor.proofs.Rows.{Placed, sound_named}
use Rattle.floor.proofs.Pack.{view_pack, fits_pack}
use Rattle.image.specs.Image.{hopper_count, tile_widths, length_in, body_in, rest_in_of, settings_in, tile_in, tiles_in, after_layouts, model_in, record_fault, tiles_fault, layouts_fault, fault, all_named}
use Rattle.image.proofs.Records.{or_else_none, fault_records, whole}
use Rattle.image.proofs.Layouts.{layouts_few}
use Rattle.image.proofs.LoadedWrites.{canisters_length, tile_good, settings_good}

-- ---- the settings pass 1 to 3
pub first_measured : (xs : List ℕ) → record_fault 1 0 xs ≡ 0 → Measured (settings_in (length_in xs) (body_in xs))
first_measured xs h = (settings_good xs (whole 1 0 xs h)).measured

-- ---- the tiles
pub tiles_length : (n : ℕ) (xs : List ℕ) → length (tiles_in n xs) ≡ n
unfolding tiles_in
tiles_length zero xs = refl
tiles_length (suc n) xs = ap suc (tiles_length n (rest_in_of xs))

members_length : (b : List ℕ) → length (tile_in b).members ≡ field tile_widths 5 b
unfolding tile_in
members_length b = canisters_length (field tile_widths 5 b) (drop 6 b)

tiles_small : (n t : ℕ) (xs : List ℕ) → tiles_fault n t xs ≡ 0 → (k : ℕ) → length (get_or (tiles_in n xs) k no_tile_of).members ≤ 16
unfolding tiles_fault tiles_in
tiles_small zero t xs h k = omega arith
tiles_small (suc n) t xs h zero =
    let o = or_else_none (record_fault 3 t xs) _ h in
    omega (arith, members_length (body_in xs), (tile_good t xs (whole 3 t xs o.0)).few)
tiles_small (suc n) t xs h (suc k) = tiles_small n (suc t) (rest_in_of xs) (or_else_none (record_fault 3 t xs) _ h).1 k

-- ---- the whole
module _ (xs : List ℕ) (z : fault xs ≡ 0) where
  parts : (record_fault 1 0 xs ≡ 0) × ((record_fault 2 (hopper_count (settings_in (length_in xs) (body_in xs))) (rest_in_of xs) ≡ 0) × ((layouts_fault 8 (rest_in_of (rest_in_of xs)) ≡ 0) × (tiles_fault (total (settings_in (length_in xs) (body_in xs))) 0 (after_layouts 8 (rest_in_of (rest_in_of xs))) ≡ 0)))
  parts =
      let o = or_else_none (record_fault 1 0 xs) _ (sym (fault_records xs) ∙ z) in
      let p = or_else_none (record_fault 2 (hopper_count (settings_in (length_in xs) (body_in xs))) (rest_in_of xs)) _ o.1 in
      (o.0, (p.0, or_else_none (layouts_fault 8 (rest_in_of (rest_in_of xs))) _ p.1))

  read_length : length (model_in xs).tiles ≡ total (model_in xs).settings
  unfolding model_in
  read_length = tiles_length (total (settings_in (length_in xs) (body_in xs))) (after_layouts 8 (rest_in_of (rest_in_of xs)))

  read_few : total (model_in xs).settings ≤ 64
  unfolding model_in
  read_few = (first_measured xs parts.0).few

  read_small : (t : ℕ) → length (members_of (model_in xs) t) ≤ 16
  unfolding model_in
  read_small t = tiles_small (total (settings_in (length_in xs) (body_in xs))) 0 (after_layouts 8 (rest_in_of (rest_in_of xs))) parts.1.1.1 t

  read_eight : length (model_in xs).layouts ≤ 8
  unfolding model_in
  read_eight = layouts_few 8 (rest_in_of (rest_in_of xs))

  module _ (n : all_named (model_in xs) ≡ true) where
    placed : Placed (model_in xs).layouts
    unfolding all_named
    placed = (all_imp (λ x. ltb 0 x.name ≡ true) (λ x. x.name ≢ 0) (model_in xs).layouts (λ x h e. omega (arith, ltb-true 0 x.name h)) (all_true (λ x. ltb 0 x.name) (model_in xs).layouts n), read_eight)

    pub view_read : view (pack (model_in xs)) ≡ model_in xs
    view_read = view_pack (model_in xs) read_length read_few (λ t _. read_small t) placed

    -- in memory it is well formed where it is sound; so the code may ask for either
    pub well_read : well_formed (pack (model_in xs)) ≡ sound (model_in xs)
    unfolding well_formed
    well_read =
        let e : fits (pack (model_in xs)) ≡ true = fits_pack (model_in xs) read_length read_few (λ t _. read_small t) placed in
        rw (view_read, e) (and_yes (sound (model_in xs)))

-- layouts that are sound have names
pub sound_names : (m : Model) → sound m ≡ true → all_named m ≡ true
unfolding sound all_named
sound_names m h = true_all (λ x. ltb 0 x.name) m.layouts (all_imp (λ x. x.name ≢ 0) (λ x. ltb 0 x.name ≡ true) m.layouts (λ x n. lt-ltb 0 x.name (omega arith)) (sound_named m.settings m.layouts (and_right (state_sound m) (layouts_sound m.settings m.layouts) h)).0)
