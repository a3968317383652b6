-- A call on a sound barge against the same call on the floor that it names, alone: `as_standalone`; a refused call on any barge: `refused`.
use mathlib.Core.Path.{◌≡◌, refl, sym, ◌∙◌, fun_ext}
use mathlib.Core.Logic.{inl, inr, ◌⊎◌, ◌≢◌}
use mathlib.Core.Bool.{Bool, true, false, cond, not, false≢true}
use mathlib.Core.List.{List, [], ◌∷◌}
use Prim.Native.Nat.{ℕ, ◌≤◌, ◌<◌}
use native.Mathlib.Omega.{arith}
use native.Mathlib.Decide.{ℕ_discrete}
use lib.Dec.{leb, eqb}
use borrow.Author.Tests.{eq-eqb, ne_eqb, leb-true, le-leb, lt-leb}
use Rattle.laws.specs.Define.{refusal}
use Rattle.laws.specs.Every.{All}
use Rattle.laws.proofs.Tests.{by_test}
use Rattle.floor.specs.declared.Floor.{Floor}
use Rattle.floor.specs.Memory.{view}
use Rattle.floor.specs.Well.{well_formed}
use Rattle.floor.specs.Calls.{refusal_of, answer, book_tests, book_answer, stop_tests, stop_answer, repair_tests, repair_answer, round_answer}
use Rattle.floor.specs.Anywhere.{anywhere_tests, anywhere_answer}
use Rattle.floor.specs.Demand3 as OneFloor
use Rattle.barge.specs.declared.Barge.{Barge}
use Rattle.barge.specs.Barges.{floor_at, aboard, barge_sound, barge_refusal, allowed, barge_book_anywhere, barge_round}
use Rattle.barge.specs.Lists.{BargeCall, book, anywhere, stop, repair, round, named, standalone, outcome, standalone_outcome, books, payload, standalone_payload, zero_payload, AsStandalone, Standalone, Refused}
use Rattle.barge.proofs.Answers.{extra, refusal_is, only_50, done, undone}
use Rattle.barge.proofs.PerFloor.{Listed, listed}

-- ---- on a lone floor every number is below 50
below_50 : (l : List (Bool × ℕ)) → All (λ x. x.1 < 50) l → refusal l < 50
unfolding refusal
below_50 [] h = omega arith
below_50 (x ∷ l) h = go x.0 (below_50 l h.1)
  where
    go : (y : Bool) → refusal l < 50 → cond y x.1 (refusal l) < 50
    go true r = h.0
    go false r = r

standalone_below : (f : Floor) (c : BargeCall) → (OneFloor.outcome f (standalone c)).refusal < 50
unfolding OneFloor.outcome book_answer anywhere_answer stop_answer repair_answer round_answer answer refusal_of book_tests anywhere_tests stop_tests repair_tests
standalone_below f (book k t c) = below_50 ((not (well_formed f), 30) ∷ book_tests (view f) t c) (omega arith)
standalone_below f (anywhere k t number) = below_50 ((not (well_formed f), 30) ∷ anywhere_tests (view f) t number) (omega arith)
standalone_below f (stop k t) = below_50 ((not (well_formed f), 30) ∷ stop_tests (view f) t) (omega arith)
standalone_below f (repair k t) = below_50 ((not (well_formed f), 30) ∷ repair_tests (view f) t) (omega arith)
standalone_below f (round k) = below_50 ((not (well_formed f), 30) ∷ []) (omega arith)

-- ---- the last test
at_or_above : (b : Barge) → refusal (allowed b) ≡ 50 → b.allowance ≤ aboard b
unfolding allowed refusal
at_or_above b e = go (by_test (leb b.allowance (aboard b)))
  where
    go : (leb b.allowance (aboard b) ≡ true) ⊎ (leb b.allowance (aboard b) ≡ false) → b.allowance ≤ aboard b
    go (inl y) = leb-true b.allowance (aboard b) y
    go (inr n) = let q = rw n at e in absurd (omega (arith, q))

over_is : (b : Barge) (c : BargeCall) → refusal (extra b c) ≡ 50 → (books c ≡ true) × (b.allowance ≤ aboard b)
unfolding refusal
over_is b (book k t c) e = (refl, at_or_above b e)
over_is b (anywhere k t number) e = (refl, at_or_above b e)
over_is b (stop k t) e = absurd (omega (arith, e))
over_is b (repair k t) e = absurd (omega (arith, e))
over_is b (round k) e = absurd (omega (arith, e))

is_over : (b : Barge) (c : BargeCall) → books c ≡ true → b.allowance ≤ aboard b → refusal (extra b c) ≡ 50
unfolding allowed refusal
is_over b (book k t c) y l = rw (le-leb b.allowance (aboard b) l)
is_over b (anywhere k t number) y l = rw (le-leb b.allowance (aboard b) l)
is_over b (stop k t) y l = absurd (false≢true y)
is_over b (repair k t) y l = absurd (false≢true y)
is_over b (round k) y l = absurd (false≢true y)

-- ---- what is told
payload_accepted : (b : Barge) (c : BargeCall) → (outcome b c).refusal ≡ 0 → payload b c ≡ standalone_payload (floor_at b (named c)) c
unfolding outcome barge_book_anywhere barge_round
payload_accepted b (book k t c) h = refl
payload_accepted b (anywhere k t number) h = rw h
payload_accepted b (stop k t) h = refl
payload_accepted b (repair k t) h = refl
payload_accepted b (round k) h = rw h

payload_refused : (b : Barge) (c : BargeCall) → (outcome b c).refusal ≢ 0 → payload b c ≡ zero_payload c
unfolding outcome barge_book_anywhere barge_round
payload_refused b (book k t c) h = refl
payload_refused b (anywhere k t number) h = rw (ne_eqb (outcome b (anywhere k t number)).refusal 0 h)
payload_refused b (stop k t) h = refl
payload_refused b (repair k t) h = refl
payload_refused b (round k) h = rw (ne_eqb (outcome b (round k)).refusal 0 h)

standalone_refused : (f : Floor) (c : BargeCall) → (OneFloor.outcome f (standalone c)).refusal ≢ 0 → standalone_payload f c ≡ zero_payload c
unfolding OneFloor.outcome anywhere_answer round_answer answer
standalone_refused f (book k t c) h = refl
standalone_refused f (anywhere k t number) h = rw (ne_eqb (anywhere_answer f t number).refusal 0 h)
standalone_refused f (stop k t) h = refl
standalone_refused f (repair k t) h = refl
standalone_refused f (round k) h = rw (ne_eqb (round_answer f).refusal 0 h)

module _ (b : Barge) (s : barge_sound b ≡ true) (c : BargeCall) (on : named c < 4) where
  -- the number: the lone call's own, else the last test's
  by_own : (standalone_outcome b c).refusal ≢ 0 → (outcome b c).refusal ≡ (standalone_outcome b c).refusal
  unfolding barge_refusal refusal
  by_own z = refusal_is b c ∙ rw (s, lt-leb 4 (named c) on, ne_eqb (standalone_outcome b c).refusal 0 z)

  by_last : (standalone_outcome b c).refusal ≡ 0 → (outcome b c).refusal ≡ refusal (extra b c)
  unfolding barge_refusal refusal
  by_last z = refusal_is b c ∙ rw (s, lt-leb 4 (named c) on, z)

  number : (outcome b c).refusal ≢ 50 → (outcome b c).refusal ≡ (standalone_outcome b c).refusal
  number n = go (ℕ_discrete (standalone_outcome b c).refusal 0)
    where
      go : Dec ((standalone_outcome b c).refusal ≡ 0) → (outcome b c).refusal ≡ (standalone_outcome b c).refusal
      go (no z) = by_own z
      go (yes z) = last (only_50 b c)
        where
          last : (refusal (extra b c) ≡ 0) ⊎ (refusal (extra b c) ≡ 50) → (outcome b c).refusal ≡ (standalone_outcome b c).refusal
          last (inl q) = by_last z ∙ q ∙ sym z
          last (inr q) = absurd (n (by_last z ∙ q))

  over : (outcome b c).refusal ≡ 50 → (books c ≡ true) × ((standalone_outcome b c).refusal ≡ 0) × (b.allowance ≤ aboard b)
  over e = go (ℕ_discrete (standalone_outcome b c).refusal 0)
    where
      go : Dec ((standalone_outcome b c).refusal ≡ 0) → (books c ≡ true) × ((standalone_outcome b c).refusal ≡ 0) × (b.allowance ≤ aboard b)
      go (yes z) = let q = over_is b c (sym (by_last z) ∙ e) in (q.0, z, q.1)
      go (no z) = absurd (omega (arith, standalone_below (floor_at b (named c)) c, by_own z, e))

  same_payload : (outcome b c).refusal ≢ 50 → payload b c ≡ standalone_payload (floor_at b (named c)) c
  same_payload n = go (ℕ_discrete (outcome b c).refusal 0)
    where
      go : Dec ((outcome b c).refusal ≡ 0) → payload b c ≡ standalone_payload (floor_at b (named c)) c
      go (yes z) = payload_accepted b c z
      go (no z) = payload_refused b c z ∙ sym (standalone_refused (floor_at b (named c)) c (λ q. z (number n ∙ q)))

  here : eqb (named c) (named c) ≡ true
  here = eq-eqb (named c) (named c) refl

  there : (outcome b c).refusal ≢ 50 → Listed (named c) b c
  there n = listed (named c) on b s c here n

  as_standalone_here : AsStandalone b c
  as_standalone_here = record {
    refusal = number;
    floor = λ n. (there n).floor;
    booked = λ n. rw here at (there n).booked;
    reported = λ n. fun_ext (λ k. rw here at ((there n).reported k));
    over = (over, λ p. by_last p.1 ∙ is_over b c p.0 p.2);
    same_payload = same_payload;
    barge = λ z. (done b c z).barge;
  }

pub as_standalone : Standalone
as_standalone b s c on = as_standalone_here b s c on

-- ---- refused, on any barge
by_30 : (b : Barge) (c : BargeCall) → barge_sound b ≡ false → (outcome b c).refusal ≡ 30
unfolding barge_refusal refusal
by_30 b c s = refusal_is b c ∙ rw s

by_49 : (b : Barge) (c : BargeCall) → barge_sound b ≡ true → 4 ≤ named c → (outcome b c).refusal ≡ 49
unfolding barge_refusal refusal
by_49 b c s l = refusal_is b c ∙ rw (s, le-leb 4 (named c) l)

pub refused : Refused
refused b c = record {
  given_back = λ z. let U = undone b c z in record { barge = U.barge; same_payload = payload_refused b c z; booked = U.booked; reported = U.reported };
  unsound = by_30 b c;
  no_floor = by_49 b c;
}
