-- Images of before: document 01's, as "With one hopper, images keep their bytes", and those without records of kind 5, as "Older images read as having no layouts."
use mathlib.Core.Path.{◌≡◌, subst, ◌∙◌}
use mathlib.Core.Bool.{true, false}
use mathlib.Core.List.{List, []}
use Prim.Native.Nat.{ℕ}
use Rattle.laws.specs.Define.{tab}
use Rattle.floor.specs.declared.Floor.{Floor}
use Rattle.floor.specs.Settings.{total}
use Rattle.floor.specs.Model.{Model}
use Rattle.floor.specs.Memory.{view}
use Rattle.floor.specs.Well.{well_formed}
use Rattle.floor.proofs.Sound.{Measured}
use Rattle.floor.proofs.Pack.{well_sound}
use Rattle.image.specs.Image.{one_tile, hopper_count, settings_body, counters_body, layouts_bytes, encode, rest_in_of, tiles_in, is_layout, layouts_in, after_layouts, model_in, layouts_fault, fault, load_answer}
use Rattle.image.specs.Promises.{image_without, fault_without, settings_before, counters_before, image_before}
use Rattle.image.proofs.Records.{encode_records, fault_records}
use Rattle.image.proofs.Hoppers.{byte_again, not_several, one_counted}
use Rattle.image.proofs.Promises.{written_loads}

-- ---- without layouts
pub same_without : (m : Model) → m.layouts ≡ [] → encode m ≡ image_without m
unfolding image_without layouts_bytes
same_without m e = encode_records m ∙ rw e

pub image_without_lem : (f : Floor) → well_formed f ≡ true → (view f).layouts ≡ []
    → (encode (view f) ≡ image_without (view f)) × (load_answer (image_without (view f)) ≡ record { refusal = 0; floor = f })
image_without_lem f w none =
    let e = same_without (view f) none in
    (e, subst (λ (xs : List ℕ). load_answer xs ≡ record { refusal = 0; floor = f }) e (written_loads f w))

-- any bytes without such a record: what refuses them is as before, and what is read has no layouts
pub read_without : (xs : List ℕ) → is_layout (rest_in_of (rest_in_of xs)) ≡ false
    → (fault xs ≡ fault_without xs) × (((model_in xs).tiles ≡ tiles_in (total (model_in xs).settings) (rest_in_of (rest_in_of xs))) × ((model_in xs).layouts ≡ []))
unfolding fault_without model_in layouts_fault after_layouts layouts_in
read_without xs e = (fault_records xs ∙ rw e, (rw e, rw e))

-- ---- with one hopper
module _ (m : Model) (M : Measured m.settings) (h : ℕ) (one : m.settings.hoppers ≡ one_tile h) (none : m.layouts ≡ []) where
  first : settings_body m.settings ≡ settings_before h m.settings
  unfolding settings_body
  first = rw (not_several m.settings h one M, byte_again m.settings h one M)

  second : counters_body (hopper_count m.settings) m.counters ≡ counters_before m.counters
  unfolding counters_body tab
  second = rw (one_counted m.settings h one M)

  pub same_bytes : encode m ≡ image_before h m
  unfolding image_without
  same_bytes = same_without m none ∙ rw (first, second)

-- the one hopper h, and no layouts: the bytes are those of document 01, and loading them gives the same floor
pub image_before_lem : (f : Floor) → well_formed f ≡ true → (h : ℕ) → (view f).settings.hoppers ≡ one_tile h → (view f).layouts ≡ []
    → (encode (view f) ≡ image_before h (view f)) × (load_answer (image_before h (view f)) ≡ record { refusal = 0; floor = f })
image_before_lem f w h one none =
    let e = same_bytes (view f) (well_sound f w).measured h one none in
    (e, subst (λ (xs : List ℕ). load_answer xs ≡ record { refusal = 0; floor = f }) e (written_loads f w))
