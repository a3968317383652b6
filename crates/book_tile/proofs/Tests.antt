-- The refusals of a booking by what the code read, branch by branch.
use mathlib.Core.Path.{◌≡◌, sym, ◌∙◌}
use mathlib.Core.Logic.{◌≢◌}
use mathlib.Core.Bool.{Bool, true, false, not, ◌&&◌}
use mathlib.Core.List.{List}
use Prim.Native.Nat.{ℕ, ◌%◌, ◌≤◌}
use native.Mathlib.Omega.{arith}
use lib.Dec.{leb, eqb}
use borrow.Author.Tests.{eq-eqb, ne_eqb, leb-false, not-true, not-false}
use Rattle.laws.specs.Define.{all_of, bit, refusal}
use Rattle.floor.specs.declared.Canister.{Canister}
use Rattle.floor.specs.declared.Settings.{Settings}
use Rattle.floor.specs.Settings.{total, spacing, span}
use Rattle.floor.specs.Well.{inside, apart}
use Rattle.floor.specs.Calls.{booking_tests}

-- below 64 a tile's number is its own rest
source : (s : Settings) (t all : ℕ) (fill : Bool) → all ≡ total s → total s ≤ 64 → leb all t ≡ false → fill ≡ bit s.sources (t % 64) → bit s.sources t ≡ fill
source s t all fill e few on f =
    let m : t % 64 ≡ t = omega (arith, e, few, leb-false all t on) in
    rw m at (sym f)

within_no : (s : Settings) (c : Canister) → not (leb c.a (span s) && leb c.b (span s)) ≡ true → inside s c ≡ false
unfolding inside
within_no s c h = not-true (leb c.a (span s) && leb c.b (span s)) h

within_yes : (s : Settings) (c : Canister) → not (leb c.a (span s) && leb c.b (span s)) ≡ false → inside s c ≡ true
unfolding inside
within_yes s c h = not-false (leb c.a (span s) && leb c.b (span s)) h

-- the branches
module _ (s : Settings) (last t : ℕ) (c : Canister) (running : ℕ) (l : List Canister) (all : ℕ) (e : all ≡ total s) where
  pub book_4 : leb all t ≡ true → 4 ≡ refusal (booking_tests s last t c running l)
  unfolding booking_tests refusal
  book_4 off = rw (sym e, off)

  module _ (few : total s ≤ 64) (on : leb all t ≡ false) (fill : Bool) (f : fill ≡ bit s.sources (t % 64)) where
    pub book_5 : not fill ≡ true → 5 ≡ refusal (booking_tests s last t c running l)
    unfolding booking_tests refusal
    book_5 b = rw (source s t all fill e few on f, sym e, on, not-true fill b)

    module _ (b : not fill ≡ false) where
      is_source : bit s.sources t ≡ true
      is_source = source s t all fill e few on f ∙ not-false fill b

      pub book_6 : c.number ≡ 0 → 6 ≡ refusal (booking_tests s last t c running l)
      unfolding booking_tests refusal
      book_6 z = rw (is_source, sym e, on, eq-eqb c.number 0 z)

      module _ (z : c.number ≢ 0) where
        pub book_7 : not (leb c.a (span s) && leb c.b (span s)) ≡ true → 7 ≡ refusal (booking_tests s last t c running l)
        unfolding booking_tests refusal
        book_7 o = rw (is_source, sym e, on, ne_eqb c.number 0 z, within_no s c o)

        module _ (i : not (leb c.a (span s) && leb c.b (span s)) ≡ false) where
          pub book_31 : not (eqb running 1) ≡ true → 31 ≡ refusal (booking_tests s last t c running l)
          unfolding booking_tests refusal
          book_31 r = rw (is_source, sym e, on, ne_eqb c.number 0 z, within_yes s c i, not-true (eqb running 1) r)

          module _ (r : not (eqb running 1) ≡ false) where
            pub book_33 : leb c.number last ≡ true → 33 ≡ refusal (booking_tests s last t c running l)
            unfolding booking_tests refusal
            book_33 p = rw (is_source, sym e, on, ne_eqb c.number 0 z, within_yes s c i, not-false (eqb running 1) r, p)

            module _ (p : leb c.number last ≡ false) (room : Bool) (a : room ≡ all_of (apart (spacing s) c) l) where
              pub book_34 : not room ≡ true → 34 ≡ refusal (booking_tests s last t c running l)
              unfolding booking_tests refusal
              book_34 n = rw (is_source, sym e, on, ne_eqb c.number 0 z, within_yes s c i, not-false (eqb running 1) r, p, sym a, not-true room n)

              pub book_0 : not room ≡ false → 0 ≡ refusal (booking_tests s last t c running l)
              unfolding booking_tests refusal
              book_0 n = rw (is_source, sym e, on, ne_eqb c.number 0 z, within_yes s c i, not-false (eqb running 1) r, p, sym a, not-false room n)
