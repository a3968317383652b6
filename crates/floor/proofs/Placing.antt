-- A booking without a place: its place is the lowest one, its outcome is a booking's there, 40 means that there is none. The statement is specs/Placing.
use mathlib.Core.Path.{◌≡◌, refl, sym, ap, ◌∙◌}
use mathlib.Core.Logic.{◌⊎◌, inl, inr, ◌≢◌}
use mathlib.Core.Bool.{Bool, true, false, cond, not}
use mathlib.Core.List.{List, [], ◌∷◌}
use Prim.Native.Nat.{ℕ, suc, ◌≤◌, ◌<◌}
use native.Mathlib.Omega.{arith}
use lib.Dec.{ltb, eqb}
use borrow.Author.Tests.{ltb-true, ltb-false, leb-false, lt-leb, lt-ltb, le-ltb, le-leb, eqb-false, ne_eqb, not-false}
use Rattle.laws.specs.Define.{bit, refusal}
use Rattle.laws.proofs.Tests.{by_test}
use Rattle.floor.specs.declared.Canister.{Canister}
use Rattle.floor.specs.declared.Floor.{Floor}
use Rattle.floor.specs.declared.Placed.{Placed}
use Rattle.floor.specs.Settings.{total, spacing, span}
use Rattle.floor.specs.Model.{Model, runs_of_of, members_of}
use Rattle.floor.specs.Memory.{view, pack}
use Rattle.floor.specs.Well.{inside, well_formed}
use Rattle.floor.specs.Calls.{refusal_of, answer, book_tests, booked, book_answer}
use Rattle.floor.specs.Anywhere.{clear, place_b, place_a, anywhere_tests, placed_at, anywhere_answer}
use Rattle.floor.specs.Placing.{Free, LowestPlace, OthersPass, booked_at, Placing, PlaceFound}
use Rattle.floor.specs.CommutingCalls.{unplaced}
use Rattle.floor.proofs.Lowest.{at, clear_fact, lowest_is, found}
use Rattle.floor.proofs.Calls.{anywhere_tests_passed, clear_any}
use Rattle.floor.proofs.GuardedCalls.{accepted, booking_pos}

-- ---- the place
module _ (m : Model) (t : ℕ) where
  abbrev d : ℕ
  d = spacing m.settings

  abbrev n : ℕ
  n = suc (span m.settings)

  abbrev l : List Canister
  l = members_of m t

  abbrev A : ℕ
  A = place_a m.settings l

  abbrev B : ℕ
  B = place_b m.settings l

  free_clear : {a b : ℕ} → Free m t a b → clear d l a b ≡ true
  free_clear {a} {b} F = (clear_fact d l a b).1 F.spaced

  clear_free : (a b : ℕ) → a < n → b < n → clear d l a b ≡ true → Free m t a b
  clear_free a b p q e = record { a_within = omega arith; b_within = omega arith; spaced = (clear_fact d l a b).0 e }

  lowest : B ≤ span m.settings → LowestPlace m t A B
  unfolding place_a place_b
  lowest h =
      let L = lowest_is d n l (omega arith) in
      record {
        free = clear_free A B L.a_within L.b_within L.keeps;
        lowest_b = λ x y F. L.lowest_b x y (omega (arith, F.a_within)) (omega (arith, F.b_within)) (free_clear F);
        lowest_a = λ x F. L.lowest_a x (omega (arith, F.a_within)) (free_clear F);
      }

  there : (a b : ℕ) → Free m t a b → B ≤ span m.settings
  unfolding place_b
  there a b F = let h = found d n l a b (omega (arith, F.a_within)) (omega (arith, F.b_within)) (free_clear F) in omega arith

  -- it is the only lowest one
  b_one : (a b : ℕ) → LowestPlace m t a b → b ≡ B
  b_one a b P = let L = lowest (there a b P.free) in omega (arith, P.lowest_b A B L.free, L.lowest_b a b P.free)

  a_one : (a b : ℕ) → LowestPlace m t a b → a ≡ A
  a_one a b P =
      let L = lowest (there a b P.free) in
      let e = b_one a b P in
      omega (arith, P.lowest_a A (rw e L.free), L.lowest_a a (rw (sym e) P.free))

-- ---- the tests, of whatever outcome
-- 40 is given by its own test
forty : (b0 b1 b2 b3 b4 b5 b : Bool) → refusal ((b0, 30) ∷ (b1, 4) ∷ (b2, 5) ∷ (b3, 6) ∷ (b4, 31) ∷ (b5, 33) ∷ (b, 40) ∷ []) ≡ 40
    → (b0 ≡ false) × (b1 ≡ false) × (b2 ≡ false) × (b3 ≡ false) × (b4 ≡ false) × (b5 ≡ false) × (b ≡ true)
unfolding refusal
forty true b1 b2 b3 b4 b5 b h = absurd (omega arith)
forty false true b2 b3 b4 b5 b h = absurd (omega arith)
forty false false true b3 b4 b5 b h = absurd (omega arith)
forty false false false true b4 b5 b h = absurd (omega arith)
forty false false false false true b5 b h = absurd (omega arith)
forty false false false false false true b h = absurd (omega arith)
forty false false false false false false false h = absurd (omega arith)
forty false false false false false false true h = (refl, refl, refl, refl, refl, refl, refl)

-- beside a booking's tests at a place within the tile, where 34 is met if 40 is
alike : (b0 b1 b2 b3 b4 b5 b b' : Bool) → (b ≡ true → b' ≡ true) → refusal ((b0, 30) ∷ (b1, 4) ∷ (b2, 5) ∷ (b3, 6) ∷ (b4, 31) ∷ (b5, 33) ∷ (b, 40) ∷ []) ≢ 0
    → refusal ((b0, 30) ∷ (b1, 4) ∷ (b2, 5) ∷ (b3, 6) ∷ (false, 7) ∷ (b4, 31) ∷ (b5, 33) ∷ (b', 34) ∷ [])
    ≡ cond (eqb (refusal ((b0, 30) ∷ (b1, 4) ∷ (b2, 5) ∷ (b3, 6) ∷ (b4, 31) ∷ (b5, 33) ∷ (b, 40) ∷ [])) 40) 34 (refusal ((b0, 30) ∷ (b1, 4) ∷ (b2, 5) ∷ (b3, 6) ∷ (b4, 31) ∷ (b5, 33) ∷ (b, 40) ∷ []))
unfolding refusal
alike true b1 b2 b3 b4 b5 b b' s h = refl
alike false true b2 b3 b4 b5 b b' s h = refl
alike false false true b3 b4 b5 b b' s h = refl
alike false false false true b4 b5 b b' s h = refl
alike false false false false true b5 b b' s h = refl
alike false false false false false true b b' s h = refl
alike false false false false false false true b' s h = rw (s refl)
alike false false false false false false false b' s h = absurd (h refl)

-- ---- the call
module _ (f : Floor) (t number : ℕ) where
  abbrev r : Placed
  r = anywhere_answer f t number

  abbrev U : ℕ
  U = span (view f).settings

  number_is : r.refusal ≡ refusal_of f (anywhere_tests (view f) t number)
  unfolding anywhere_answer answer
  number_is = refl

  passes : r.refusal ≡ 0 → (OthersPass f t number) × (B (view f) t ≤ U)
  unfolding view
  passes h =
      let T = accepted f (anywhere_tests (view f) t number) (booking_pos {t = t} (unplaced number) (view f)) (sym number_is ∙ h) in
      let P = anywhere_tests_passed (view f) t number T.1 in (
        record {
          well = T.0;
          on_floor = leb-false (total f.settings) t P.on_floor;
          fill_tile = P.source;
          not_zero = eqb-false number 0 P.numbered;
          running = P.running;
          above_last = leb-false number f.counters.last P.above;
        },
        ltb-false U (B (view f) t) P.place,
      )

  -- the tests but the last
  only : (b : Bool) (k : ℕ) → OthersPass f t number → ltb U (B (view f) t) ≡ b → refusal ((b, 40) ∷ []) ≡ k → r.refusal ≡ k
  unfolding anywhere_answer answer refusal_of anywhere_tests refusal view
  only b k O e q =
      rw (O.well, lt-leb (total f.settings) t O.on_floor, O.fill_tile, ne_eqb number 0 O.not_zero, O.running, lt-leb number f.counters.last O.above_last, e) q

  no_free : B (view f) t ≤ U ⊎ U < B (view f) t → ((a b : ℕ) → ¬ (Free (view f) t a b)) → U < B (view f) t
  no_free (inr h) k = h
  no_free (inl h) k = absurd (k _ _ (lowest (view f) t h).free)

  either : B (view f) t ≤ U ⊎ U < B (view f) t
  either = go (by_test (ltb U (B (view f) t)))
    where
      go : (ltb U (B (view f) t) ≡ true) ⊎ (ltb U (B (view f) t) ≡ false) → B (view f) t ≤ U ⊎ U < B (view f) t
      go (inl h) = inr (ltb-true U (B (view f) t) h)
      go (inr h) = inl (ltb-false U (B (view f) t) h)

  forty_means : r.refusal ≡ 40 → OthersPass f t number × ((a b : ℕ) → ¬ (Free (view f) t a b))
  unfolding anywhere_answer answer refusal_of anywhere_tests view
  forty_means h =
      let T = forty _ _ _ _ _ _ _ h in (
        record {
          well = not-false (well_formed f) T.0;
          on_floor = leb-false (total f.settings) t T.1;
          fill_tile = not-false (bit f.settings.sources t) T.2;
          not_zero = eqb-false number 0 T.3;
          running = not-false (runs_of_of (view f) t) T.4;
          above_last = leb-false number f.counters.last T.5;
        },
        λ a b F. absurd (omega (arith, there (view f) t a b F, ltb-true U (B (view f) t) T.6)),
      )

  -- a booking there has the same tests
  tests_same : B (view f) t ≤ U → refusal_of f (book_tests (view f) t (at number (A (view f) t) (B (view f) t))) ≡ r.refusal
  unfolding anywhere_answer answer refusal_of refusal anywhere_tests book_tests inside
  tests_same h =
      let F = (lowest (view f) t h).free in
      rw (le-ltb U (B (view f) t) h, le-leb (A (view f) t) U F.a_within, le-leb (B (view f) t) U h, clear_any (spacing (view f).settings) number (A (view f) t) (B (view f) t) (members_of (view f) t), free_clear (view f) t F)

  outcome_same : B (view f) t ≤ U → booked_at f t number (A (view f) t) (B (view f) t) ≡ record { floor = r.floor; refusal = r.refusal }
  unfolding book_answer anywhere_answer answer placed_at
  outcome_same h = ap (λ (k : ℕ). record { refusal = k; floor = cond (eqb k 0) (pack (booked (view f) t (at number (A (view f) t) (B (view f) t)))) f }) (tests_same h)

  same_checks : r.refusal ≢ 0 → (a b : ℕ) → a ≤ span f.settings → b ≤ span f.settings → (booked_at f t number a b).refusal ≡ cond (eqb r.refusal 40) 34 r.refusal
  unfolding book_answer anywhere_answer answer refusal_of anywhere_tests book_tests inside view
  same_checks h a b p q =
      rw (le-leb a (span f.settings) p, le-leb b (span f.settings) q, clear_any (spacing f.settings) number a b (members_of (view f) t)) (alike _ _ _ _ _ _ _ _ none h)
    where
      none : ltb U (B (view f) t) ≡ true → not (clear (spacing f.settings) (members_of (view f) t) a b) ≡ true
      none k = go (by_test (clear (spacing f.settings) (members_of (view f) t) a b))
        where
          go : (clear (spacing f.settings) (members_of (view f) t) a b ≡ true) ⊎ (clear (spacing f.settings) (members_of (view f) t) a b ≡ false) → not (clear (spacing f.settings) (members_of (view f) t) a b) ≡ true
          go (inr e) = ap not e
          go (inl e) = absurd (omega (arith, ltb-true U (B (view f) t) k, there (view f) t a b (clear_free (view f) t a b (omega arith) (omega arith) e)))

  takes_lowest : r.refusal ≡ 0 → LowestPlace (view f) t r.a r.b
  unfolding anywhere_answer placed_at
  takes_lowest h = rw h (lowest (view f) t (passes h).1)

  refused_zeros : r.refusal ≢ 0 → (r.floor ≡ f) × (r.a ≡ 0) × (r.b ≡ 0)
  unfolding anywhere_answer answer
  refused_zeros h = let e = ne_eqb r.refusal 0 h in (rw e, rw e, rw e)

  one_call : Placing f t number r
  unfolding refusal
  one_call = record {
    takes = takes_lowest;
    as_booked = λ a b P.
        ap (λ (x : ℕ). booked_at f t number x b) (a_one (view f) t a b P) ∙ ap (λ (y : ℕ). booked_at f t number (A (view f) t) y) (b_one (view f) t a b P)
        ∙ outcome_same (there (view f) t a b P.free);
    accepted = (λ h. let P = passes h in (P.0, A (view f) t, B (view f) t, (lowest (view f) t P.1).free), λ P. only false 0 P.0 (le-ltb U (B (view f) t) (there (view f) t P.1 P.2 P.3)) refl);
    no_place = (forty_means, λ P. only true 40 P.0 (lt-ltb U (B (view f) t) (no_free either P.1)) refl);
    checks = same_checks;
    refused = refused_zeros;
  }

pub placing : PlaceFound
placing = one_call
