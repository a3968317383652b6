-- The refusals of a record whose body starts at a place, in the code's words; the settings there, and the bytes of a tile's body.
use mathlib.Core.Path.{◌≡◌, refl, sym, ◌∙◌}
use mathlib.Core.Logic.{◌⊎◌, inl, inr, ◌≢◌}
use mathlib.Core.Bool.{Bool, true, false, cond, not, ◌&&◌, ◌||◌, true≢false}
use mathlib.Core.List.{List, [], ◌∷◌}
use Prim.Native.Nat.{ℕ, ◌+◌, ◌-◌, ◌*◌, ◌^◌, ◌≤◌, ◌<◌}
use native.Mathlib.Omega.{arith}
use native.Mathlib.Nat.{add-zero}
use lib.Dec.{ltb, eqb}
use borrow.Author.Tests.{lt-ltb, le-ltb, le-leb, ltb-true, ltb-false, eqb-true, eq-eqb, ne_eqb}
use lib.ListN.{length, take, drop, get_or, length-drop}
use lib.Seq.{drop-drop}
use Rattle.laws.specs.Define.{bits_below, refusal}
use Rattle.laws.proofs.Tests.{by_test, or_left, or_right, r_and, r_ne}
use Rattle.laws.proofs.SetBits.{bits_within}
use Rattle.image_bytes.specs.Bytes.{le, field, width}
use Rattle.image_bytes.proofs.FieldLaws.{le_one, field_in}
use Rattle.floor.specs.declared.Settings.{Settings}
use Rattle.floor.specs.declared.Counters.{Counters}
use Rattle.floor.specs.declared.Layout.{Layout}
use Rattle.floor.specs.declared.Tile.{Tile}
use Rattle.floor.specs.Settings.{total, hoppers_of, size_tests, set_tests, measure_tests, settings_tests, settings_refusal}
use Rattle.floor.specs.Memory.{head}
use Rattle.check_settings.specs.InternalGroups.{sizes_wrong}
use Rattle.check_settings.proofs.Groups.{sizes_first, few_tiles}
use Rattle.image.specs.Image.{lowest, one_tile, hopper_count, byte_wrong, settings_widths, tile_widths, length_in, settings_in, counters_in, tile_in, layout_in, settings_faults, counters_faults, tile_faults, layout_faults, end_faults, own_faults, record_fault}
use Rattle.image_record_read.specs.declared.Record.TheVariants as R
use Rattle.image_record_read.specs.InternalScan.{Holds}

-- ---- the values
module _ (s : List ℕ) (at : ℕ) where
  -- byte k of a tile's body
  pub tile_byte : (k : ℕ) → k < 6 → at + 6 ≤ length s → get_or tile_widths k 0 ≡ 1 → width (take k tile_widths) ≡ k → field tile_widths k (drop at s) ≡ get_or s (at + k) 0
  tile_byte k h e w o = rw (field_in tile_widths k at s h, w, o) (le_one s (at + k) (omega arith))

  -- the hopper set, with 28 bytes and with 20
  pub set_code : (settings_in 28 (drop at s)).hoppers ≡ le 8 (drop (at + 20) s)
  unfolding settings_in
  set_code = rw (field_in (settings_widths true) 9 at s (omega arith))

  pub tile_code : at + 20 ≤ length s → (settings_in 20 (drop at s)).hoppers ≡ cond (ltb (get_or s (at + 2) 0) 64) (2 ^ get_or s (at + 2) 0) 0
  unfolding settings_in one_tile
  tile_code h = rw (field_in (settings_widths false) 2 at s (omega arith), le_one s (at + 2) (omega arith))

  settings_code : (n : ℕ) (b : Bool) → eqb n 28 ≡ b → at + 20 ≤ length s
      → settings_in n (drop at s) ≡ record { columns = get_or s at 0; rows = get_or s (at + 1) 0; hoppers = (settings_in n (drop at s)).hoppers; sources = le 8 (drop (at + 12) s); width = le 2 (drop (at + 4) s); length = le 2 (drop (at + 6) s); gap = le 2 (drop (at + 8) s); travel = le 2 (drop (at + 10) s) }
  unfolding settings_in
  settings_code n true e h =
      rw (
        e,
        field_in (settings_widths true) 0 at s (omega arith),
        field_in (settings_widths true) 1 at s (omega arith),
        field_in (settings_widths true) 4 at s (omega arith),
        field_in (settings_widths true) 5 at s (omega arith),
        field_in (settings_widths true) 6 at s (omega arith),
        field_in (settings_widths true) 7 at s (omega arith),
        field_in (settings_widths true) 8 at s (omega arith),
        add-zero at,
        le_one s at (omega arith),
        le_one s (at + 1) (omega arith),
      )
  settings_code n false e h =
      rw (
        e,
        field_in (settings_widths false) 0 at s (omega arith),
        field_in (settings_widths false) 1 at s (omega arith),
        field_in (settings_widths false) 4 at s (omega arith),
        field_in (settings_widths false) 5 at s (omega arith),
        field_in (settings_widths false) 6 at s (omega arith),
        field_in (settings_widths false) 7 at s (omega arith),
        field_in (settings_widths false) 8 at s (omega arith),
        add-zero at,
        le_one s at (omega arith),
        le_one s (at + 1) (omega arith),
      )

  -- the settings that the code makes
  pub settings_made : (n : ℕ) → at + 20 ≤ length s → (h w l g v k : ℕ) → h ≡ (settings_in n (drop at s)).hoppers → w ≡ le 2 (drop (at + 4) s) → l ≡ le 2 (drop (at + 6) s) → g ≡ le 2 (drop (at + 8) s) → v ≡ le 2 (drop (at + 10) s) → k ≡ le 8 (drop (at + 12) s)
      → record { columns = get_or s at 0; rows = get_or s (at + 1) 0; hoppers = h; sources = k; width = w; length = l; gap = g; travel = v } ≡ settings_in n (drop at s)
  settings_made n r h w l g v k eh ew el eg ev ek =
      (λ i. record { columns = get_or s at 0; rows = get_or s (at + 1) 0; hoppers = eh i; sources = ek i; width = ew i; length = el i; gap = eg i; travel = ev i }) ∙ sym (settings_code n (eqb n 28) refl r)

three_tests : {a b c : Bool} {z : ℕ} → a ≡ true → z ≡ 0 → b ≡ c → (l : List (Bool × ℕ)) → refusal ((not a, 11) ∷ (not (eqb z 0), 11) ∷ (b, 11) ∷ l) ≡ cond c 11 (refusal l)
unfolding refusal
three_tests p q r l = rw (p, q, r)

-- the two lengths of record 1
pub lengths_out : (n : ℕ) → (not (eqb n 20) && not (eqb n 28)) ≡ true → (n ≢ 20) × (n ≢ 28)
lengths_out n h = (r_and (r_ne n 20) (r_ne n 28)).0 h

pub lengths_in : (n : ℕ) → (not (eqb n 20) && not (eqb n 28)) ≡ false → (n ≡ 20) ⊎ (n ≡ 28)
lengths_in n h = go (by_test (eqb n 20)) (by_test (eqb n 28))
  where
    go : (eqb n 20 ≡ true) ⊎ (eqb n 20 ≡ false) → (eqb n 28 ≡ true) ⊎ (eqb n 28 ≡ false) → (n ≡ 20) ⊎ (n ≡ 28)
    go (inl e) q = inl (eqb-true n 20 e)
    go (inr e) (inl q) = inr (eqb-true n 28 q)
    go (inr e) (inr q) = absurd (true≢false (rw (e, q) at h))

pub room_20 : (at n k : ℕ) → at + n ≤ k → (n ≡ 20) ⊎ (n ≡ 28) → at + 20 ≤ k
room_20 at n k h (inl e) = omega arith
room_20 at n k h (inr e) = omega arith

-- ---- kind 1
pick_same : {A : Type 0} (b : Bool) (x : A) → cond b x x ≡ x
pick_same true x = refl
pick_same false x = refl

-- too few tiles in a set of 28 bytes: counted over all bits, since a bit for no tile is 2 as well
few_two : (s : Settings) → total s ≤ 64 → (b : Bool) → refusal ((b && ltb (hopper_count s) 2, 2) ∷ set_tests s (measure_tests s)) ≡ cond (b && ltb (length (bits_below s.hoppers 64)) 2) 2 (refusal (set_tests s (measure_tests s)))
unfolding refusal hoppers_of
few_two s few b = go (ltb s.hoppers (2 ^ total s)) refl
  where
    go : (c : Bool) → ltb s.hoppers (2 ^ total s) ≡ c
        → cond (b && ltb (length (bits_below s.hoppers (total s))) 2) 2 (refusal (set_tests s (measure_tests s))) ≡ cond (b && ltb (length (bits_below s.hoppers 64)) 2) 2 (refusal (set_tests s (measure_tests s)))
    go true e = rw (bits_within s.hoppers (total s) 64 few (ltb-true s.hoppers (2 ^ total s) e))
    go false e =
        rw (le-leb (2 ^ total s) s.hoppers (ltb-false s.hoppers (2 ^ total s) e))
        (pick_same (b && ltb (length (bits_below s.hoppers (total s))) 2) 2 ∙ sym (pick_same (b && ltb (length (bits_below s.hoppers 64)) 2) 2))

module _ (s : List ℕ) (at n : ℕ) where
  abbrev x : Settings
  x = settings_in n (drop at s)

  pub settings_long : n ≢ 20 → n ≢ 28 → 11 ≡ refusal (settings_faults n (drop at s))
  unfolding refusal settings_faults
  settings_long h k = rw (ne_eqb n 20 h, ne_eqb n 28 k)

  right_long : (n ≡ 20) ⊎ (n ≡ 28) → (eqb n 20 || eqb n 28) ≡ true
  right_long (inl e) = or_left (eqb n 20) (eqb n 28) (eq-eqb n 20 e)
  right_long (inr e) = or_right (eqb n 20) (eqb n 28) (eq-eqb n 28 e)

  zero_byte : (b : Bool) → at + 20 ≤ length s → field (settings_widths b) 3 (drop at s) ≡ get_or s (at + 3) 0
  zero_byte true r = rw (field_in (settings_widths true) 3 at s (omega arith)) (le_one s (at + 3) (omega arith))
  zero_byte false r = rw (field_in (settings_widths false) 3 at s (omega arith)) (le_one s (at + 3) (omega arith))

  byte_is : at + 20 ≤ length s → (b : Bool) → eqb n 28 ≡ b → byte_wrong n (drop at s) ≡ (b && (not (eqb x.hoppers 0) && not (eqb (get_or s (at + 2) 0) (lowest x.hoppers))))
  unfolding byte_wrong settings_in
  byte_is r true e = rw (e, field_in (settings_widths true) 2 at s (omega arith), le_one s (at + 2) (omega arith))
  byte_is r false e = rw e

  module _ (h : (n ≡ 20) ⊎ (n ≡ 28)) (r20 : at + 20 ≤ length s) where
    pub settings_byte : get_or s (at + 3) 0 ≢ 0 → 11 ≡ refusal (settings_faults n (drop at s))
    unfolding refusal settings_faults
    settings_byte e = rw (right_long h, zero_byte (eqb n 28) r20, ne_eqb (get_or s (at + 3) 0) 0 e)

    tests_left : get_or s (at + 3) 0 ≡ 0 → refusal (settings_faults n (drop at s)) ≡ cond (eqb n 28 && (not (eqb x.hoppers 0) && not (eqb (get_or s (at + 2) 0) (lowest x.hoppers)))) 11 (refusal (size_tests x ((eqb n 28 && ltb (hopper_count x) 2, 2) ∷ set_tests x (measure_tests x))))
    unfolding settings_faults
    tests_left z = three_tests (right_long h) (zero_byte (eqb n 28) r20 ∙ z) (byte_is r20 (eqb n 28) refl) _

-- the length of record 1 is one of the two
pub record Shaped (s : List ℕ) (at n : ℕ) : Type 0 where
  pub long : (n ≡ 20) ⊎ (n ≡ 28)
  pub room : at + 20 ≤ length s

pub shaped : {s : List ℕ} {at n : ℕ} → at + n ≤ length s → (not (eqb n 20) && not (eqb n 28)) ≡ false → Shaped s at n
shaped {s} {at} {n} h e = let l = lengths_in n e in record { long = l; room = room_20 at n (length s) h l }

-- what was read so far: the settings, and whether the hopper byte is wrong
pub record SettingsFound (s : List ℕ) (at n : ℕ) (y : Settings) (wrong : Bool) : Type 0 where
  pub shape : Shaped s at n
  pub zero_byte : get_or s (at + 3) 0 ≡ 0
  pub settings : y ≡ settings_in n (drop at s)
  pub byte : wrong ≡ (not (eqb y.hoppers 0) && not (eqb (get_or s (at + 2) 0) (lowest y.hoppers)))

-- its sizes are right too
pub record SettingsSized (s : List ℕ) (at n : ℕ) (y : Settings) (wrong : Bool) : Type 0 where
  pub found : SettingsFound s at n y wrong
  pub lowest : (eqb n 28 && wrong) ≡ false
  pub sizes : sizes_wrong y ≡ false

pub settings_found : {s : List ℕ} {at n : ℕ} {y : Settings} {wrong : Bool} → Shaped s at n → get_or s (at + 3) 0 ≡ 0 → y ≡ settings_in n (drop at s) → wrong ≡ (not (eqb y.hoppers 0) && not (eqb (get_or s (at + 2) 0) (lowest y.hoppers))) → SettingsFound s at n y wrong
settings_found h z e w = record { shape = h; zero_byte = z; settings = e; byte = w }

pub settings_sized : {s : List ℕ} {at n : ℕ} {y : Settings} {wrong a : Bool} → SettingsFound s at n y wrong → (eqb n 28 && wrong) ≡ false → a ≡ sizes_wrong y → a ≡ false → SettingsSized s at n y wrong
settings_sized F l e z = record { found = F; lowest = l; sizes = sym e ∙ z }

module _ {s : List ℕ} {at n : ℕ} {y : Settings} {wrong : Bool} (F : SettingsFound s at n y wrong) where
  next : refusal (settings_faults n (drop at s)) ≡ cond (eqb n 28 && wrong) 11 (refusal (size_tests y ((eqb n 28 && ltb (hopper_count y) 2, 2) ∷ set_tests y (measure_tests y))))
  next = rw (F.byte, F.settings) (tests_left s at n F.shape.long F.shape.room F.zero_byte)

  pub settings_lowest : (eqb n 28 && wrong) ≡ true → 11 ≡ refusal (settings_faults n (drop at s))
  settings_lowest e = sym (next ∙ rw e)

  pub settings_sizes : (eqb n 28 && wrong) ≡ false → sizes_wrong y ≡ true → 1 ≡ refusal (settings_faults n (drop at s))
  settings_sizes e q = sym (next ∙ rw (e, sizes_first y ((eqb n 28 && ltb (hopper_count y) 2, 2) ∷ set_tests y (measure_tests y)), q))

module _ {s : List ℕ} {at n : ℕ} {y : Settings} {wrong : Bool} (F : SettingsSized s at n y wrong) (count : ℕ) (c : count ≡ length (bits_below y.hoppers 64)) where
  then : refusal (settings_faults n (drop at s)) ≡ cond (eqb n 28 && ltb count 2) 2 (refusal (set_tests y (measure_tests y)))
  then = next F.found ∙ rw (F.lowest, sizes_first y ((eqb n 28 && ltb (hopper_count y) 2, 2) ∷ set_tests y (measure_tests y)), F.sizes, c) (few_two y (few_tiles y F.sizes) (eqb n 28))

  pub settings_few : (eqb n 28 && ltb count 2) ≡ true → 2 ≡ refusal (settings_faults n (drop at s))
  settings_few k = sym (then ∙ rw k)

  pub settings_right : (eqb n 28 && ltb count 2) ≡ false → settings_refusal y ≡ refusal (settings_faults n (drop at s))
  unfolding settings_refusal settings_tests
  settings_right k = sizes_first y (set_tests y (measure_tests y)) ∙ rw F.sizes (sym (then ∙ rw k))

-- ---- kinds 2 and 4
pub counters_long : (h n : ℕ) → n ≢ 8 + 4 * h → 11 ≡ refusal (counters_faults h n)
unfolding refusal counters_faults
counters_long h n e = rw (ne_eqb n (8 + 4 * h) e)

pub counters_right : (h n : ℕ) → n ≡ 8 + 4 * h → 0 ≡ refusal (counters_faults h n)
unfolding refusal counters_faults
counters_right h n e = rw (eq-eqb n (8 + 4 * h) e)

pub end_long : (n : ℕ) → n ≢ 0 → 11 ≡ refusal (end_faults n)
unfolding refusal end_faults
end_long n h = rw (ne_eqb n 0 h)

pub end_right : (n : ℕ) → n ≡ 0 → 0 ≡ refusal (end_faults n)
unfolding refusal end_faults
end_right n h = rw (eq-eqb n 0 h)

pub layout_long : (n : ℕ) → n ≢ 16 → 11 ≡ refusal (layout_faults n)
unfolding refusal layout_faults
layout_long n h = rw (ne_eqb n 16 h)

pub layout_right : (n : ℕ) → n ≡ 16 → 0 ≡ refusal (layout_faults n)
unfolding refusal layout_faults
layout_right n h = rw (eq-eqb n 16 h)

-- ---- kind 3
module _ (s : List ℕ) (at n t : ℕ) where
  pub tile_short : n < 6 → 11 ≡ refusal (tile_faults t n (drop at s))
  unfolding refusal tile_faults
  tile_short h = rw (lt-ltb n 6 h)

  tile_tests : at + n ≤ length s → 6 ≤ n → refusal (tile_faults t n (drop at s)) ≡ refusal ((not (eqb (get_or s at 0) t), 11) ∷ (ltb 16 (get_or s (at + 5) 0), 11) ∷ (not (eqb n (6 + 8 * get_or s (at + 5) 0)), 11) ∷ [])
  unfolding refusal tile_faults
  tile_tests r h =
      let k : at + 6 ≤ length s = omega arith in
      rw (le-ltb n 6 h, tile_byte s at 0 (omega arith) k refl refl, tile_byte s at 5 (omega arith) k refl refl, add-zero at)

  module _ (r : at + n ≤ length s) (h : 6 ≤ n) where
    pub tile_other : get_or s at 0 ≢ t → 11 ≡ refusal (tile_faults t n (drop at s))
    unfolding refusal
    tile_other e = rw (tile_tests r h, ne_eqb (get_or s at 0) t e)

    pub tile_many : get_or s at 0 ≡ t → 16 < get_or s (at + 5) 0 → 11 ≡ refusal (tile_faults t n (drop at s))
    unfolding refusal
    tile_many e m = rw (tile_tests r h, eq-eqb (get_or s at 0) t e, lt-ltb 16 (get_or s (at + 5) 0) m)

    pub tile_wrong : get_or s at 0 ≡ t → get_or s (at + 5) 0 ≤ 16 → n ≢ 6 + 8 * get_or s (at + 5) 0 → 11 ≡ refusal (tile_faults t n (drop at s))
    unfolding refusal
    tile_wrong e m w = rw (tile_tests r h, eq-eqb (get_or s at 0) t e, le-ltb 16 (get_or s (at + 5) 0) m, ne_eqb n (6 + 8 * get_or s (at + 5) 0) w)

    pub tile_right : get_or s at 0 ≡ t → get_or s (at + 5) 0 ≤ 16 → n ≡ 6 + 8 * get_or s (at + 5) 0 → 0 ≡ refusal (tile_faults t n (drop at s))
    unfolding refusal
    tile_right e m w = rw (tile_tests r h, eq-eqb (get_or s at 0) t e, le-ltb 16 (get_or s (at + 5) 0) m, eq-eqb n (6 + 8 * get_or s (at + 5) 0) w)

-- ---- a record of any kind
module _ (s : List ℕ) (at due t : ℕ) where
  cut : length (drop at s) < 4 + length_in (drop at s) → 9 ≡ record_fault due t (drop at s)
  unfolding refusal record_fault
  cut k = rw (lt-ltb (length (drop at s)) (4 + length_in (drop at s)) k)

  pub record_bare : at ≤ length s → length s - at < 4 → 9 ≡ record_fault due t (drop at s)
  record_bare l h = cut (rw length-drop (omega arith))

  pub record_cut : (n : ℕ) → n ≡ le 2 (drop at s) → at + 4 ≤ length s → length s - at - 4 < n → 9 ≡ record_fault due t (drop at s)
  record_cut n q l h = cut (rw length-drop (omega arith))

-- its first four bytes were read: n the length of its body, k its kind
pub record Headed (s : List ℕ) (at n k : ℕ) : Type 0 where
  pub long : n ≡ le 2 (drop at s)
  pub kind : k ≡ le 2 (drop (at + 2) s)
  pub whole : at + 4 + n ≤ length s

pub headed : (s : List ℕ) (at n k : ℕ) → n ≡ le 2 (drop at s) → k ≡ le 2 (drop (at + 2) s) → at + 4 + n ≤ length s → Headed s at n k
headed s at n k l e w = record { long = l; kind = e; whole = w }

module _ {s : List ℕ} {at n k : ℕ} (h : Headed s at n k) (due t : ℕ) where
  abbrev xs : List ℕ
  xs = drop at s

  abbrev b : List ℕ
  b = drop (at + 4) s

  enough : ltb (length xs) (4 + length_in xs) ≡ false
  enough = let k : 4 + length_in xs ≤ length xs = rw length-drop (omega (arith, h.long)) in le-ltb (length xs) (4 + length_in xs) k

  pub record_other : k ≢ due → 10 ≡ record_fault due t xs
  unfolding refusal record_fault
  record_other o = rw (enough, drop-drop 2 at s, ← h.kind, ne_eqb k due o)

  own : k ≡ due → refusal (own_faults due t n b) ≡ record_fault due t xs
  unfolding refusal record_fault
  own e = rw (enough, drop-drop 2 at s, ← h.kind, eq-eqb k due e, drop-drop 4 at s, h.long)

  body : b ≡ drop 4 xs
  body = sym (drop-drop 4 at s)

  -- the own refusals of each kind, and what each holds
  pub record_1 : k ≡ 1 → due ≡ 1 → refusal (settings_faults n b) ≡ record_fault due t xs
  unfolding own_faults
  record_1 e d = let same : refusal (settings_faults n b) ≡ refusal (own_faults due t n b) = rw d in same ∙ own (e ∙ sym d)

  pub holds_1 : due ≡ 1 → (x : Settings) → x ≡ settings_in n b → Holds due t xs (R.Settings x)
  holds_1 d x e = (d, e ∙ rw (body, h.long))

  pub record_2 : k ≡ 2 → due ≡ 2 → refusal (counters_faults t n) ≡ record_fault due t xs
  unfolding own_faults
  record_2 e d = let same : refusal (counters_faults t n) ≡ refusal (own_faults due t n b) = rw d in same ∙ own (e ∙ sym d)

  pub holds_2 : due ≡ 2 → (x : Counters) → x ≡ counters_in t b → Holds due t xs (R.Counters x)
  holds_2 d x e = (d, e ∙ rw body)

  pub record_3 : k ≡ 3 → due ≡ 3 → refusal (tile_faults t n b) ≡ record_fault due t xs
  unfolding own_faults
  record_3 e d = let same : refusal (tile_faults t n b) ≡ refusal (own_faults due t n b) = rw d in same ∙ own (e ∙ sym d)

  pub holds_3 : due ≡ 3 → (x : Tile) → x ≡ head (tile_in b) → Holds due t xs (R.Tile x)
  holds_3 d x e = (d, e ∙ rw body)

  pub record_4 : k ≡ 4 → due ≡ 4 → refusal (end_faults n) ≡ record_fault due t xs
  unfolding own_faults
  record_4 e d = let same : refusal (end_faults n) ≡ refusal (own_faults due t n b) = rw d in same ∙ own (e ∙ sym d)

  pub record_5 : k ≡ 5 → due ≡ 5 → refusal (layout_faults n) ≡ record_fault due t xs
  unfolding own_faults
  record_5 e d = let same : refusal (layout_faults n) ≡ refusal (own_faults due t n b) = rw d in same ∙ own (e ∙ sym d)

  pub holds_5 : due ≡ 5 → (x : Layout) → x ≡ layout_in b → Holds due t xs (R.Layout x)
  holds_5 d x e = (d, e ∙ rw body)
