-- No byte after the first 74,591 changes what an image answers: 9,052 before the last record, and 65,539 of a record.
use mathlib.Core.Path.{◌≡◌, refl, sym, ap, ◌∙◌}
use mathlib.Core.Logic.{◌⊎◌, inl, inr, ◌≢◌}
use mathlib.Core.Bool.{Bool, true, false}
use mathlib.Core.List.{List, [], ◌∷◌}
use Prim.Native.Nat.{ℕ, zero, suc, ◌+◌, ◌-◌, ◌*◌, ◌≤◌, ◌<◌}
use native.Mathlib.Omega.{arith}
use native.Mathlib.Decide.{dec_le}
use lib.Dec.{ltb, eqb}
use borrow.Author.Tests.{eqb-true, eqb-false, ne_eqb, le-leb, lt-ltb, le-ltb}
use lib.ListN.{length, take, drop, length-drop}
use lib.Seq.{take-nil, take_all, length-take-le}
use Rattle.laws.specs.Define.{refusal}
use Rattle.laws.proofs.Tests.{by_test}
use Rattle.image_bytes.specs.Bytes.{le, fields_of, width, Bytes}
use Rattle.image_bytes.proofs.ByteLaws.{bytes_drop}
use Rattle.floor.specs.declared.Settings.{Settings}
use Rattle.floor.specs.Settings.{total}
use Rattle.floor.specs.Memory.{zero_floor}
use Rattle.image.specs.Image.{settings_widths, tile_widths, hopper_count, length_in, kind_in, body_in, rest_in_of, settings_in, is_layout, after_layouts, byte_wrong, settings_faults, tile_faults, own_faults, record_fault, or_else, end_fault, tiles_fault, layouts_fault, fault, answer_by, image_refusal, image_answer, load_answer}
use Rattle.image.proofs.Records.{fault_records, whole, kind_take, le_take}
use Rattle.image.proofs.Layouts.{layout_good, both_fault}
use Rattle.image.proofs.LoadedWrites.{tile_good, end_good, counters_good, settings_good}
use Rattle.image.proofs.Read.{first_measured}
use Rattle.image.proofs.Promises.{load_some}
use Rattle.image_input.specs.Enough.{enough, LoadedFront}

-- ---- the front of a list
drop_front : (k n : ℕ) (xs : List ℕ) → drop k (take n xs) ≡ take (n - k) (drop k xs)
drop_front zero n xs = let e : n - 0 ≡ n = omega arith in rw e
drop_front (suc k) zero xs = let e : 0 - suc k ≡ 0 = omega arith in rw e
drop_front (suc k) (suc n) [] = sym (take-nil (suc n - suc k))
drop_front (suc k) (suc n) (x ∷ xs) = let e : suc n - suc k ≡ n - k = omega arith in rw e (drop_front k n xs)

two_bytes : (xs : List ℕ) → Bytes xs → le 2 xs < 65536
unfolding le
two_bytes [] b = omega arith
two_bytes (x ∷ []) b = omega (arith, b.0)
two_bytes (x ∷ y ∷ xs) b = omega (arith, b.0, b.1.0)

fields_front : (ws : List ℕ) (n : ℕ) (xs : List ℕ) → width ws ≤ n → fields_of ws (take n xs) ≡ fields_of ws xs
unfolding fields_of
fields_front [] n xs h = refl
fields_front (w ∷ ws) n xs h = rw (le_take n w xs (omega arith), drop_front w n xs, fields_front ws (n - w) (drop w xs) (omega arith))

settings_width : (b : Bool) → width (settings_widths b) ≤ 28
settings_width true = omega arith
settings_width false = omega arith

-- ---- a record's own refusals look at the first 28 bytes of its body
own_front : (due t l n : ℕ) (b : List ℕ) → 28 ≤ n → own_faults due t l (take n b) ≡ own_faults due t l b
unfolding own_faults settings_faults settings_in byte_wrong tile_faults
own_front due t l n b h =
    let some : fields_of (settings_widths (eqb l 28)) (take n b) ≡ fields_of (settings_widths (eqb l 28)) b = fields_front (settings_widths (eqb l 28)) n b (omega (arith, settings_width (eqb l 28))) in
    let more : fields_of (settings_widths true) (take n b) ≡ fields_of (settings_widths true) b = fields_front (settings_widths true) n b (omega arith) in
    let tile : fields_of tile_widths (take n b) ≡ fields_of tile_widths b = fields_front tile_widths n b (omega arith) in
    rw (some, more, tile)

settings_front : (l n : ℕ) (b : List ℕ) → 28 ≤ n → settings_in l (take n b) ≡ settings_in l b
unfolding settings_in
settings_front l n b h = rw (fields_front (settings_widths (eqb l 28)) n b (omega (arith, settings_width (eqb l 28))))

-- ---- a long list and its front
module _ (n : ℕ) (xs : List ℕ) (b : Bytes xs) (room : 65539 ≤ n) (long : n < length xs) where
  front_length : length (take n xs) ≡ n
  front_length = length-take-le n xs (omega arith)

  length_front : length_in (take n xs) ≡ length_in xs
  length_front = le_take n 2 xs (omega arith)

  kind_front : kind_in (take n xs) ≡ kind_in xs
  kind_front = kind_take n xs (omega arith)

  body_front : body_in (take n xs) ≡ take (n - 4) (body_in xs)
  body_front = drop_front 4 n xs

  rest_front : rest_in_of (take n xs) ≡ take (n - (4 + length_in xs)) (rest_in_of xs)
  rest_front = rw length_front (drop_front (4 + length_in xs) n xs)

  rest_long : n - (4 + length_in xs) < length (rest_in_of xs)
  rest_long = rw length-drop (omega (arith, two_bytes xs b))

  layout_front : is_layout (take n xs) ≡ is_layout xs
  unfolding is_layout
  layout_front = rw (front_length, kind_front, le-leb 4 n (omega arith), le-leb 4 (length xs) (omega arith))

  record_front : (due t : ℕ) → record_fault due t (take n xs) ≡ record_fault due t xs
  unfolding record_fault refusal
  record_front due t =
      let l : length_in xs < 65536 = two_bytes xs b in
      let here : ltb n (4 + length_in xs) ≡ false = le-ltb n (4 + length_in xs) (omega arith) in
      let there : ltb (length xs) (4 + length_in xs) ≡ false = le-ltb (length xs) (4 + length_in xs) (omega arith) in
      rw (front_length, length_front, kind_front, body_front, own_front due t (length_in xs) (n - 4) (body_in xs) (omega arith), here, there)

-- ---- the first fault is the same in the front, and there is one: bytes are left over at the latest
abbrev Decided : (List ℕ → ℕ) → ℕ → List ℕ → Type 0
Decided g n xs = (g (take n xs) ≡ g xs) × (g xs ≢ 0)

-- a record, and what comes after it
after : (due t : ℕ) (later : List ℕ → ℕ) (n : ℕ) (xs : List ℕ) → Bytes xs → 65539 ≤ n → n < length xs
    → (record_fault due t xs ≡ 0 → Decided later (n - (4 + length_in xs)) (rest_in_of xs))
    → Decided (λ ys. or_else (record_fault due t ys) (later (rest_in_of ys))) n xs
after due t later n xs b room long h = go (by_test (eqb (record_fault due t xs) 0))
  where
    same : record_fault due t (take n xs) ≡ record_fault due t xs
    same = record_front n xs b room long due t

    go : (eqb (record_fault due t xs) 0 ≡ true) ⊎ (eqb (record_fault due t xs) 0 ≡ false) → Decided (λ ys. or_else (record_fault due t ys) (later (rest_in_of ys))) n xs
    go (inl e) =
        let d = h (eqb-true (record_fault due t xs) 0 e) in
        (rw (same, e, rest_front n xs b room long) d.0, λ z. d.1 (rw e at z))
    go (inr e) = (rw (same, e), λ z. eqb-false (record_fault due t xs) 0 e (rw e at z))

end_front : (n : ℕ) (xs : List ℕ) → Bytes xs → 65539 ≤ n → n < length xs → Decided end_fault n xs
unfolding end_fault refusal
end_front n xs b room long = go (by_test (eqb (record_fault 4 0 xs) 0))
  where
    same : record_fault 4 0 (take n xs) ≡ record_fault 4 0 xs
    same = record_front n xs b room long 4 0

    go : (eqb (record_fault 4 0 xs) 0 ≡ true) ⊎ (eqb (record_fault 4 0 xs) 0 ≡ false) → Decided end_fault n xs
    go (inl e) =
        let l = front_length n xs b room long in
        let m = length_front n xs b room long in
        let z : length_in xs ≡ 0 = end_good xs (whole 4 0 xs (eqb-true (record_fault 4 0 xs) 0 e)) in
        let here : ltb (4 + length_in xs) n ≡ true = lt-ltb (4 + length_in xs) n (omega arith) in
        let there : ltb (4 + length_in xs) (length xs) ≡ true = lt-ltb (4 + length_in xs) (length xs) (omega arith) in
        (rw (same, e, l, m, here, there), λ q. absurd (omega (arith, rw (e, there) at q)))
    go (inr e) = (rw (same, e), λ z. eqb-false (record_fault 4 0 xs) 0 e (rw e at z))

tiles_front : (k t n : ℕ) (xs : List ℕ) → Bytes xs → 138 * k + 65539 ≤ n → n < length xs → Decided (tiles_fault k t) n xs
unfolding tiles_fault
tiles_front zero t n xs b room long = end_front n xs b (omega arith) long
tiles_front (suc k) t n xs b room long = after 3 t (tiles_fault k (suc t)) n xs b (omega arith) long (go (tiles_front k (suc t) (n - (4 + length_in xs)) (rest_in_of xs) (bytes_drop (4 + length_in xs) xs b)))
  where
    go : (138 * k + 65539 ≤ n - (4 + length_in xs) → n - (4 + length_in xs) < length (rest_in_of xs) → Decided (tiles_fault k (suc t)) (n - (4 + length_in xs)) (rest_in_of xs))
        → record_fault 3 t xs ≡ 0 → Decided (tiles_fault k (suc t)) (n - (4 + length_in xs)) (rest_in_of xs)
    go ih z =
        let g = tile_good t xs (whole 3 t xs z) in
        ih (omega (arith, g.few, g.long)) (rest_long n xs b (omega arith) long)

-- at most j layouts, then c tiles
layouts_none : (j c : ℕ) (xs : List ℕ) → is_layout xs ≡ false → both_fault (suc j) c xs ≡ tiles_fault c 0 xs
unfolding layouts_fault after_layouts
layouts_none j c xs e = rw e

layouts_some : (j c : ℕ) (xs : List ℕ) → is_layout xs ≡ true → both_fault (suc j) c xs ≡ or_else (record_fault 5 0 xs) (both_fault j c (rest_in_of xs))
unfolding layouts_fault after_layouts
layouts_some j c xs e = rw e (go (by_test (eqb (record_fault 5 0 xs) 0)))
  where
    go : (eqb (record_fault 5 0 xs) 0 ≡ true) ⊎ (eqb (record_fault 5 0 xs) 0 ≡ false)
        → or_else (or_else (record_fault 5 0 xs) (layouts_fault j (rest_in_of xs))) (tiles_fault c 0 (after_layouts j (rest_in_of xs))) ≡ or_else (record_fault 5 0 xs) (both_fault j c (rest_in_of xs))
    go (inl q) = rw q
    go (inr q) = rw (q, q)

layouts_front : (j c n : ℕ) (xs : List ℕ) → Bytes xs → 20 * j + (138 * c + 65539) ≤ n → n < length xs → Decided (both_fault j c) n xs
unfolding layouts_fault after_layouts
layouts_front zero c n xs b room long = tiles_front c 0 n xs b (omega arith) long
layouts_front (suc j) c n xs b room long = go (by_test (is_layout xs)) (layouts_front j c (n - (4 + length_in xs)) (rest_in_of xs) (bytes_drop (4 + length_in xs) xs b))
  where
    same : is_layout (take n xs) ≡ is_layout xs
    same = layout_front n xs b (omega arith) long

    go : (is_layout xs ≡ true) ⊎ (is_layout xs ≡ false)
        → (20 * j + (138 * c + 65539) ≤ n - (4 + length_in xs) → n - (4 + length_in xs) < length (rest_in_of xs) → Decided (both_fault j c) (n - (4 + length_in xs)) (rest_in_of xs))
        → Decided (both_fault (suc j) c) n xs
    go (inl e) ih =
        let d = after 5 0 (both_fault j c) n xs b (omega arith) long (λ z. ih (omega (arith, layout_good xs (whole 5 0 xs z))) (rest_long n xs b (omega arith) long)) in
        (layouts_some j c (take n xs) (same ∙ e) ∙ d.0 ∙ sym (layouts_some j c xs e), λ q. d.1 (sym (layouts_some j c xs e) ∙ q))
    go (inr e) ih =
        let d = tiles_front c 0 n xs b (omega arith) long in
        (layouts_none j c (take n xs) (same ∙ e) ∙ d.0 ∙ sym (layouts_none j c xs e), λ q. d.1 (sym (layouts_none j c xs e) ∙ q))

-- record 2, for h hoppers, and what comes after it
counters_front : (h c n : ℕ) (xs : List ℕ) → Bytes xs → h ≤ 4 → 28 + (160 + (138 * c + 65539)) ≤ n → n < length xs → Decided (λ ys. or_else (record_fault 2 h ys) (both_fault 8 c (rest_in_of ys))) n xs
counters_front h c n xs b few room long =
    after 2 h (both_fault 8 c) n xs b (omega arith) long
    (λ z. layouts_front 8 c (n - (4 + length_in xs)) (rest_in_of xs) (bytes_drop (4 + length_in xs) xs b) (omega (arith, counters_good h xs (whole 2 h xs z))) (rest_long n xs b (omega arith) long))

-- ---- all records
module _ (xs : List ℕ) (b : Bytes xs) (long : enough < length xs) where
  abbrev settings : List ℕ → Settings
  settings ys = settings_in (length_in ys) (body_in ys)

  same_settings : settings (take enough xs) ≡ settings xs
  same_settings = rw (length_front enough xs b (omega arith) long, body_front enough xs b (omega arith) long) (settings_front (length_in xs) (enough - 4) (body_in xs) (omega arith))

  decided : Decided (λ ys. or_else (record_fault 1 0 ys) (or_else (record_fault 2 (hopper_count (settings xs)) (rest_in_of ys)) (both_fault 8 (total (settings xs)) (rest_in_of (rest_in_of ys))))) enough xs
  decided =
      after 1 0 (λ ys. or_else (record_fault 2 (hopper_count (settings xs)) ys) (both_fault 8 (total (settings xs)) (rest_in_of ys))) enough xs b (omega arith) long
      (λ z. counters_front (hopper_count (settings xs)) (total (settings xs)) (enough - (4 + length_in xs)) (rest_in_of xs) (bytes_drop (4 + length_in xs) xs b) (first_measured xs z).hoppers_few (small z) (rest_long enough xs b (omega arith) long))
    where
      small : record_fault 1 0 xs ≡ 0 → 28 + (160 + (138 * total (settings xs) + 65539)) ≤ enough - (4 + length_in xs)
      small z = go (settings_good xs (whole 1 0 xs z)).long
        where
          few : total (settings xs) ≤ 64
          few = (first_measured xs z).few

          go : (length_in xs ≡ 20) ⊎ (length_in xs ≡ 28) → 28 + (160 + (138 * total (settings xs) + 65539)) ≤ enough - (4 + length_in xs)
          go (inl e) = omega (arith, e, few)
          go (inr e) = omega (arith, e, few)

  fault_front : (fault (take enough xs) ≡ fault xs) × (fault xs ≢ 0)
  fault_front = (rw (fault_records (take enough xs), fault_records xs, same_settings) decided.0, λ z. decided.1 (sym (fault_records xs) ∙ z))

-- a fault gives its number and the all-zero floor
refused : (xs : List ℕ) → fault xs ≢ 0 → image_answer xs ≡ record { refusal = fault xs; floor = zero_floor }
unfolding image_answer image_refusal answer_by
refused xs n = let e : eqb (fault xs) 0 ≡ false = ne_eqb (fault xs) 0 n in rw (e, e)

-- for every input, however long
pub loaded_front : LoadedFront
loaded_front xs b = go (dec_le (length xs) enough)
  where
    go : Dec (length xs ≤ enough) → load_answer (take enough xs) ≡ load_answer xs
    go (yes short) = ap load_answer (take_all enough xs short)
    go (no n) =
        let long : enough < length xs = omega arith in
        let f = fault_front xs b long in
        let l : length (take enough xs) ≡ enough = length-take-le enough xs (omega arith) in
        let here : image_answer (take enough xs) ≡ record { refusal = fault xs; floor = zero_floor } = refused (take enough xs) (λ z. f.1 (sym f.0 ∙ z)) ∙ rw f.0 in
        load_some (take enough xs) (omega (arith, l)) ∙ here ∙ sym (refused xs f.1) ∙ sym (load_some xs (omega arith))
