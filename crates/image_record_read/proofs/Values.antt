-- The values of a record whose body starts at a place, in the code's words.
use mathlib.Core.Path.{◌≡◌, refl, sym, ap, ◌∙◌}
use mathlib.Core.Bool.{Bool, true, false, cond}
use mathlib.Core.List.{List, ◌∷◌}
use Prim.Native.Nat.{ℕ, zero, suc, ◌+◌, ◌*◌, ◌^◌, ◌≤◌, ◌<◌}
use native.Mathlib.Omega.{arith}
use native.Mathlib.Nat.{add-zero}
use native.Mathlib.Decide.{dec_le}
use lib.Dec.{ltb}
use borrow.Author.Tests.{lt-ltb, le-ltb, ltb-true, ltb-false}
use lib.ListN.{length, take, drop, get_or, replicate}
use lib.Seq.{drop-cons, drop-drop}
use Rattle.laws.proofs.Tables.{filled}
use Rattle.image_bytes.specs.Bytes.{le, fields_of, field}
use Rattle.image_bytes.proofs.FieldLaws.{field_in}
use Rattle.floor.specs.Layouts.{name_number}
use Rattle.floor.specs.Memory.{zero_layout, head}
use Rattle.image.specs.Image.{counters_widths, tile_widths, counters_in, tile_in, layout_in}
use Rattle.image.proofs.Sizes.{header_length, layout_length}
use Rattle.image.proofs.LoadedWrites.{canisters_length}
use Rattle.image_record_read.specs.InternalScan.{layout_from}
use Rattle.image_record_read.proofs.Refusals.{tile_byte}

-- ---- counters and tiles
fours_at : (h k : ℕ) (b : List ℕ) → get_or (fields_of (replicate h 4) b) k 0 ≡ cond (ltb k h) (le 4 (drop (4 * k) b)) 0
unfolding fields_of
fours_at zero k b = rw (le-ltb k 0 (omega arith))
fours_at (suc h) zero b = rw (lt-ltb 0 (suc h) (omega arith))
fours_at (suc h) (suc k) b =
    let e : 4 * suc k ≡ 4 + 4 * k = omega arith in
    fours_at h k (drop 4 b) ∙ rw (drop-drop (4 * k) 4 b, ← e) (same (ltb k h) refl)
  where
    same : (c : Bool) → ltb k h ≡ c → cond c (le 4 (drop (4 * suc k) b)) 0 ≡ cond (ltb (suc k) (suc h)) (le 4 (drop (4 * suc k) b)) 0
    same true q = rw (lt-ltb (suc k) (suc h) (omega (arith, ltb-true k h q)))
    same false q = rw (le-ltb (suc k) (suc h) (omega (arith, ltb-false k h q)))

module _ (s : List ℕ) (at : ℕ) where
  -- counter k of h
  counter_at : (h k : ℕ) → field (counters_widths h) (2 + k) (drop at s) ≡ cond (ltb k h) (le 4 (drop (at + 8 + 4 * k) s)) 0
  unfolding fields_of
  counter_at h k =
      let e : 2 + k ≡ suc (suc k) = omega arith in
      let n8 : at + 4 + 4 + 4 * k ≡ at + 8 + 4 * k = omega arith in
      let d : drop (4 * k) (drop 4 (drop 4 (drop at s))) ≡ drop (at + 8 + 4 * k) s = rw (drop-drop 4 at s, drop-drop 4 (at + 4) s, drop-drop (4 * k) (at + 4 + 4) s) (ap (λ (n : ℕ). drop n s) n8) in
      ap (λ (n : ℕ). get_or (fields_of (counters_widths h) (drop at s)) n 0) e ∙ fours_at h k (drop 4 (drop 4 (drop at s))) ∙ ap (λ (l : List ℕ). cond (ltb k h) (le 4 l) 0) d

  pub counters_code : (h : ℕ) (ds : List ℕ) → length ds ≡ 4 → ((k : ℕ) → k < h → get_or ds k 0 ≡ le 4 (drop (at + 8 + 4 * k) s)) → ((k : ℕ) → h ≤ k → get_or ds k 0 ≡ 0)
      → counters_in h (drop at s) ≡ record { last = le 4 (drop at s); booked = le 4 (drop (at + 4) s); delivered = ds }
  unfolding counters_in
  counters_code h ds len some none =
      rw (field_in (counters_widths h) 0 at s (omega arith), field_in (counters_widths h) 1 at s (omega arith), add-zero at)
      (ap (λ (l : List ℕ). record { last = le 4 (drop at s); booked = le 4 (drop (at + 4) s); delivered = l }) (sym (filled 4 (λ k. field (counters_widths h) (2 + k) (drop at s)) 0 ds len (λ k _. each k (dec_le (suc k) h)))))
    where
      each : (k : ℕ) → Dec (k < h) → get_or ds k 0 ≡ field (counters_widths h) (2 + k) (drop at s)
      each k (yes l) = some k l ∙ sym (counter_at h k ∙ rw (lt-ltb k h l))
      each k (no l) = none k (omega arith) ∙ sym (counter_at h k ∙ rw (le-ltb k h (omega arith)))

  pub tile_code : at + 6 ≤ length s
      → head (tile_in (drop at s)) ≡ record { running = get_or s (at + 1) 0; distance = get_or s (at + 2) 0; next = record { code = get_or s (at + 3) 0 }; token = record { code = get_or s (at + 4) 0 }; count = get_or s (at + 5) 0 }
  unfolding head tile_in
  tile_code h =
      rw (
        canisters_length (field tile_widths 5 (drop at s)) (drop 6 (drop at s)),
        tile_byte s at 1 (omega arith) h refl refl,
        tile_byte s at 2 (omega arith) h refl refl,
        tile_byte s at 3 (omega arith) h refl refl,
        tile_byte s at 4 (omega arith) h refl refl,
        tile_byte s at 5 (omega arith) h refl refl,
      )

-- ---- a name
next : (s : List ℕ) (n at up : ℕ) → up ≡ at + 1 → at < length s → take (suc n) (drop at s) ≡ get_or s at 0 ∷ take n (drop up s)
next s n at up e h = let k : up ≡ suc at = omega arith in rw (drop-cons s at 0 h, k)

pub name_code : (s : List ℕ) (at : ℕ) → at + 8 ≤ length s
    → name_number (take 8 (drop at s)) ≡ get_or s at 0 * 2 ^ 56 + (get_or s (at + 1) 0 * 2 ^ 48 + (get_or s (at + 2) 0 * 2 ^ 40 + (get_or s (at + 3) 0 * 2 ^ 32 + (get_or s (at + 4) 0 * 2 ^ 24 + (get_or s (at + 5) 0 * 2 ^ 16 + (get_or s (at + 6) 0 * 2 ^ 8 + (get_or s (at + 7) 0 * 2 ^ 0 + 0)))))))
unfolding name_number
name_code s at h =
    rw (
      next s 7 at (at + 1) (omega arith) (omega arith),
      next s 6 (at + 1) (at + 2) (omega arith) (omega arith),
      next s 5 (at + 2) (at + 3) (omega arith) (omega arith),
      next s 4 (at + 3) (at + 4) (omega arith) (omega arith),
      next s 3 (at + 4) (at + 5) (omega arith) (omega arith),
      next s 2 (at + 5) (at + 6) (omega arith) (omega arith),
      next s 1 (at + 6) (at + 7) (omega arith) (omega arith),
      next s 0 (at + 7) (at + 8) (omega arith) (omega arith),
    )

-- ---- the layouts
pub layout_code : (s : List ℕ) (at : ℕ) → layout_in (drop at s) ≡ record { name = name_number (take 8 (drop at s)); set = le 8 (drop (at + 8) s) }
unfolding layout_in
layout_code s at = rw (drop-drop 8 at s)

pub layout_some : (s : List ℕ) (from n k : ℕ) → k < n → layout_in (drop (from + header_length + layout_length * k) s) ≡ layout_from s from n k
unfolding layout_from
layout_some s from n k h = rw (lt-ltb k n h)

pub layout_none : (s : List ℕ) (from n k : ℕ) → n ≤ k → zero_layout ≡ layout_from s from n k
unfolding layout_from
layout_none s from n k h = rw (le-ltb k n h)
