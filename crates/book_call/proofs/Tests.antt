-- A booking's tests on a floor: they are those that the code made, and what they tell where it is accepted.
use mathlib.Core.Path.{◌≡◌, sym, ◌∙◌}
use mathlib.Core.Bool.{true, true≢false}
use mathlib.Core.List.{List}
use Prim.Native.Nat.{ℕ, suc, ◌≤◌, ◌<◌}
use native.Mathlib.Omega.{arith}
use native.Mathlib.Decide.{dec_le}
use lib.ListN.{length}
use borrow.Author.Tests.{le-leb, leb-false}
use Rattle.laws.specs.Define.{refusal}
use Rattle.laws.proofs.Tests.{refusal_none}
use Rattle.floor.specs.declared.Canister.{Canister}
use Rattle.floor.specs.declared.Floor.{Floor}
use Rattle.floor.specs.Settings.{total}
use Rattle.floor.specs.Model.{tile_of, members_of}
use Rattle.floor.specs.Memory.{view}
use Rattle.floor.specs.Well.{well_formed}
use Rattle.floor.specs.Calls.{booking_tests, book_tests}
use Rattle.floor.proofs.Sound.{Inside}
use Rattle.floor.proofs.Well.{inside_fact}
use Rattle.floor.proofs.Pack.{well_sound}
use Rattle.floor.proofs.Capacity.{full_refused, sound_small}
use Rattle.floor.proofs.Calls.{BookPassed, book_tests_passed}

module _ (f : Floor) (t : ℕ) (c : Canister) where
  -- they are the floor's tests, where the tile has what the code read
  pub book_same : (running : ℕ) (l : List Canister) → (t < total f.settings → (running ≡ (tile_of (view f) t).running) × (l ≡ members_of (view f) t))
      → refusal (booking_tests f.settings f.counters.last t c running l) ≡ refusal (book_tests (view f) t c)
  unfolding booking_tests book_tests refusal view
  book_same running l own = go (dec_le (suc t) (total f.settings))
    where
      go : Dec (t < total f.settings) → refusal (booking_tests f.settings f.counters.last t c running l) ≡ refusal (book_tests (view f) t c)
      go (yes on) = rw ((own on).0, (own on).1)
      go (no o) = let off : total f.settings ≤ t = omega arith in rw (le-leb (total f.settings) t off)

  -- accepted
  module _ (h : refusal (book_tests (view f) t c) ≡ 0) where
    passed : BookPassed (view f) t c
    unfolding book_tests
    passed = book_tests_passed (view f) t c (refusal_none (book_tests (view f) t c) (omega arith) h)

    pub book_on_lem : t < total f.settings
    unfolding view
    book_on_lem = leb-false _ _ passed.on_floor

    book_above : f.counters.last < c.number
    unfolding view
    book_above = leb-false _ _ passed.above

    -- the counter of bookings has room for one more
    pub book_fits : well_formed f ≡ true → f.counters.booked < c.number
    unfolding view
    book_fits w = omega (arith, (well_sound f w).booked_last, book_above)

    book_inside : Inside f.settings c
    unfolding view
    book_inside = (inside_fact f.settings c).0 passed.within

    -- a full tile has no place for another
    pub book_room : well_formed f ≡ true → length (members_of (view f) t) < 16
    unfolding view
    book_room w = go (dec_le (suc (length (members_of (view f) t))) 16)
      where
        go : Dec (length (members_of (view f) t) < 16) → length (members_of (view f) t) < 16
        go (yes p) = p
        go (no p) =
            let S = well_sound f w in
            let n : length (members_of (view f) t) ≡ 16 = omega (arith, sound_small (view f) S t) in
            absurd (true≢false (sym passed.room ∙ full_refused f.settings S.measured (members_of (view f) t) c (S.inside t) (S.spaced t) n book_inside))
