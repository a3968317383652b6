-- A call on a barge, by what the code read: what refuses it first, what the call on its floor alone answers, the last test.
use mathlib.Core.Path.{◌≡◌, sym, ap, ◌∙◌}
use mathlib.Core.Logic.{◌≢◌}
use mathlib.Core.Bool.{Bool, true, false, cond, not}
use mathlib.Core.List.{List, [], ◌∷◌}
use Prim.Native.Nat.{ℕ}
use native.Mathlib.Omega.{arith}
use lib.Dec.{leb, eqb}
use lib.ListN.{length}
use borrow.Author.Tests.{eqb-true, ne_eqb, lt-leb, not-false}
use Rattle.laws.specs.Define.{refusal}
use Rattle.laws.proofs.Tests.{and_left, and_right, test_none}
use Rattle.floor.specs.declared.Canister.{Canister}
use Rattle.floor.specs.declared.Floor.{Floor}
use Rattle.floor.specs.declared.Answer.{Answer}
use Rattle.floor.specs.declared.Placed.{Placed}
use Rattle.floor.specs.declared.Rounded.{Rounded}
use Rattle.floor.specs.Memory.{view}
use Rattle.floor.specs.Calls.{refusal_of, answer, book_tests, book_answer, zero_report, round_answer}
use Rattle.floor.specs.Anywhere.{anywhere_answer}
use Rattle.barge.specs.declared.Barge.{Barge}
use Rattle.barge.specs.declared.BargeAnswer.{BargeAnswer}
use Rattle.barge.specs.declared.BargePlaced.{BargePlaced}
use Rattle.barge.specs.declared.BargeRounded.{BargeRounded}
use Rattle.barge.specs.Barges.{floor_at, with_floor, aboard, allowance_sound, barge_sound, barge_refusal, allowed, barge_with, barge_book, barge_book_anywhere, barge_round}
use Rattle.barge.proofs.Answers.{round_passes}
use Rattle.barge_parts.proofs.Joint.{read_at, On, begun_on}

-- a sound barge has four floors
four_floors : (b : Barge) → barge_sound b ≡ true → length b.floors ≡ 4
unfolding barge_sound
four_floors b s = eqb-true (length b.floors) 4 (and_left _ _ (and_right (allowance_sound b.allowance) _ s))

-- a lone booking's answer, by its number and its floor
pub book_of : (f : Floor) (t : ℕ) (c : Canister) (n : ℕ) → n ≡ refusal_of f (book_tests (view f) t c) → (g : Floor) → g ≡ (book_answer f t c).floor → ◌≡◌ {A = Answer} (record { refusal = n; floor = g }) (book_answer f t c)
unfolding book_answer answer
book_of f t c n en g eg = rw (en, eg)

-- 30 and 49 are passed, by what the call's begin answers
pub begun : (b : Barge) (k n : ℕ) → n ≡ refusal ((not (barge_sound b), 30) ∷ (leb 4 k, 49) ∷ []) → n ≡ 0 → On b k
begun b k n e z =
    let x = test_none (not (barge_sound b)) 30 ((leb 4 k, 49) ∷ []) (omega arith) (sym e ∙ z) in
    begun_on b k n (four_floors b (not-false (barge_sound b) x.0)) e z

-- n: what the call's begin answers
module _ (b : Barge) (k n : ℕ) (e : n ≡ refusal ((not (barge_sound b), 30) ∷ (leb 4 k, 49) ∷ [])) where
  pub by_first : (own : ℕ) (last : List (Bool × ℕ)) → n ≢ 0 → barge_refusal b k own last ≡ n
  unfolding barge_refusal refusal
  by_first own last z = go (barge_sound b) (leb 4 k) e
    where
      go : (s t : Bool) → n ≡ cond (not s) 30 (cond t 49 0) → cond (not s) 30 (cond t 49 (cond (not (eqb own 0)) own (refusal last))) ≡ n
      go true true e = sym e
      go true false e = absurd (z e)
      go false t e = sym e

  pub book_begins : (t : ℕ) (c : Canister) → n ≢ 0 → ◌≡◌ {A = BargeAnswer} (record { barge = b; refusal = n }) (barge_book b k t c)
  unfolding barge_book barge_with
  book_begins t c z = rw (by_first (book_answer (floor_at b k) t c).refusal (allowed b) z, ne_eqb n 0 z)

  pub anywhere_begins : (t number : ℕ) → n ≢ 0 → ◌≡◌ {A = BargePlaced} (record { barge = b; a = 0; b = 0; refusal = n }) (barge_book_anywhere b k t number)
  unfolding barge_book_anywhere barge_with
  anywhere_begins t number z = rw (by_first (anywhere_answer (floor_at b k) t number).refusal (allowed b) z, ne_eqb n 0 z)

  pub round_begins : n ≢ 0 → ◌≡◌ {A = BargeRounded} (record { barge = b; report = zero_report; refusal = n }) (barge_round b k)
  unfolding barge_round barge_with
  round_begins z = rw (by_first (round_answer (floor_at b k)).refusal [] z, ne_eqb n 0 z)

-- the begin has passed
module _ (b : Barge) (k : ℕ) (B : On b k) where
  pub by_own : (own : ℕ) (last : List (Bool × ℕ)) → own ≢ 0 → barge_refusal b k own last ≡ own
  unfolding barge_refusal refusal
  by_own own last o = rw (B.sound, lt-leb 4 k B.named, ne_eqb own 0 o)

  pub by_last : (own : ℕ) (last : List (Bool × ℕ)) → own ≡ 0 → barge_refusal b k own last ≡ refusal last
  unfolding barge_refusal refusal
  by_last own last o = rw (B.sound, lt-leb 4 k B.named, o)

  -- the last test of a booking, by the total that was found
  by_total : (own : ℕ) → own ≡ 0 → (total m : ℕ) → total ≡ aboard b → m ≡ refusal ((leb b.allowance total, 50) ∷ []) → barge_refusal b k own (allowed b) ≡ m
  unfolding allowed
  by_total own o total m a t = by_last own (allowed b) o ∙ rw (sym a) (sym t)

  module _ (t : ℕ) (c : Canister) (r : Answer) (er : r ≡ book_answer (read_at b k) t c) where
    same_book : book_answer (floor_at b k) t c ≡ r
    same_book = sym (er ∙ ap (λ (f : Floor). book_answer f t c) B.is)

    pub book_own : r.refusal ≢ 0 → ◌≡◌ {A = BargeAnswer} (record { barge = b; refusal = r.refusal }) (barge_book b k t c)
    unfolding barge_book barge_with
    book_own o = rw (same_book, by_own r.refusal (allowed b) o, ne_eqb r.refusal 0 o)

    module _ (o : r.refusal ≡ 0) (total m : ℕ) (a : total ≡ aboard b) (l : m ≡ refusal ((leb b.allowance total, 50) ∷ [])) where
      pub book_full : m ≢ 0 → ◌≡◌ {A = BargeAnswer} (record { barge = b; refusal = m }) (barge_book b k t c)
      unfolding barge_book barge_with
      book_full x = rw (same_book, by_total r.refusal o total m a l, ne_eqb m 0 x)

      pub book_done : m ≡ 0 → ◌≡◌ {A = BargeAnswer} (record { barge = with_floor b k r.floor; refusal = m }) (barge_book b k t c)
      unfolding barge_book barge_with
      book_done x = rw (same_book, by_total r.refusal o total m a l, x)

  module _ (t number : ℕ) (r : Placed) (er : r ≡ anywhere_answer (read_at b k) t number) where
    same_place : anywhere_answer (floor_at b k) t number ≡ r
    same_place = sym (er ∙ ap (λ (f : Floor). anywhere_answer f t number) B.is)

    pub anywhere_own : r.refusal ≢ 0 → ◌≡◌ {A = BargePlaced} (record { barge = b; a = 0; b = 0; refusal = r.refusal }) (barge_book_anywhere b k t number)
    unfolding barge_book_anywhere barge_with
    anywhere_own o = rw (same_place, by_own r.refusal (allowed b) o, ne_eqb r.refusal 0 o)

    module _ (o : r.refusal ≡ 0) (total m : ℕ) (a : total ≡ aboard b) (l : m ≡ refusal ((leb b.allowance total, 50) ∷ [])) where
      pub anywhere_full : m ≢ 0 → ◌≡◌ {A = BargePlaced} (record { barge = b; a = 0; b = 0; refusal = m }) (barge_book_anywhere b k t number)
      unfolding barge_book_anywhere barge_with
      anywhere_full x = rw (same_place, by_total r.refusal o total m a l, ne_eqb m 0 x)

      pub anywhere_done : m ≡ 0 → ◌≡◌ {A = BargePlaced} (record { barge = with_floor b k r.floor; a = r.a; b = r.b; refusal = m }) (barge_book_anywhere b k t number)
      unfolding barge_book_anywhere barge_with
      anywhere_done x = rw (same_place, by_total r.refusal o total m a l, x)

  pub round_done : (n : ℕ) → n ≡ 0 → (r : Rounded) → r ≡ round_answer (read_at b k)
      → ◌≡◌ {A = BargeRounded} (record { barge = with_floor b k r.floor; report = r.report; refusal = n }) (barge_round b k)
  unfolding barge_round barge_with refusal
  round_done n z r er =
      let same : round_answer (floor_at b k) ≡ r = sym (er ∙ ap round_answer B.is) in
      let own : r.refusal ≡ 0 = ap (λ (x : Rounded). x.refusal) er ∙ round_passes (read_at b k) B.well in
      rw (same, by_last r.refusal [] own, z)
