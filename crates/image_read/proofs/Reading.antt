-- A canister in the code's words, and what memory holds of a place.
use mathlib.Core.Path.{◌≡◌, refl}
use mathlib.Core.Bool.{true, false}
use mathlib.Core.List.{List}
use Prim.Native.Nat.{ℕ, ◌+◌, ◌*◌, ◌≤◌, ◌<◌}
use native.Mathlib.Omega.{arith}
use native.Mathlib.Nat.{add-zero}
use borrow.Author.Tests.{lt-ltb, le-ltb}
use lib.ListN.{length, drop, get_or}
use Rattle.image_bytes.specs.Bytes.{le, field}
use Rattle.image_bytes.proofs.FieldLaws.{field_in}
use Rattle.floor.specs.Memory.{zero_canister}
use Rattle.image.specs.Image.{tile_widths, canister_widths, canister_in}
use Rattle.image_record_read.proofs.Refusals.{tile_byte}
use Rattle.image_read.specs.InternalArrays.{canister_at}

-- ---- the value
module _ (s : List ℕ) (at : ℕ) where
  pub canister_code : canister_in (drop at s) ≡ record { number = le 4 (drop at s); a = le 2 (drop (at + 4) s); b = le 2 (drop (at + 6) s) }
  unfolding canister_in
  canister_code = rw (field_in canister_widths 0 at s (omega arith), field_in canister_widths 1 at s (omega arith), field_in canister_widths 2 at s (omega arith), add-zero at)

-- ---- a place in memory
module _ (s : List ℕ) (p : ℕ) where
  pub canister_none : (j : ℕ) → zero_canister ≡ canister_at s p false j
  unfolding canister_at
  canister_none j = refl

  module _ (j : ℕ) (r : p + 6 ≤ length s) where
    pub count_is : field tile_widths 5 (drop p s) ≡ get_or s (p + 5) 0
    count_is = tile_byte s p 5 (omega arith) r refl refl

    pub canister_past : get_or s (p + 5) 0 ≤ j → zero_canister ≡ canister_at s p true j
    unfolding canister_at
    canister_past h = rw (count_is, le-ltb j (get_or s (p + 5) 0) h)

    pub canister_some : j < get_or s (p + 5) 0 → canister_in (drop (p + 6 + 8 * j) s) ≡ canister_at s p true j
    unfolding canister_at
    canister_some h = rw (count_is, lt-ltb j (get_or s (p + 5) 0) h)
