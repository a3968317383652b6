-- On what a call's outcome on a floor depends.
use mathlib.Core.Path.{◌≡◌, sym, ap, ◌∙◌}
use mathlib.Core.Bool.{Bool, true, false, cond}
use mathlib.Core.List.{List, []}
use Prim.Native.Nat.{ℕ}
use native.Mathlib.Omega.{arith}
use lib.Dec.{eqb}
use lib.Seq.{get_or-set_same}
use borrow.Author.Tests.{lt-leb}
use Rattle.floor.specs.declared.Floor.{Floor}
use Rattle.floor.specs.declared.Answer.{Answer}
use Rattle.floor.specs.declared.Rounded.{Rounded}
use Rattle.floor.specs.Memory.{zero_floor}
use Rattle.floor.specs.Calls.{book_answer, stop_answer, repair_answer, zero_report, round_answer}
use Rattle.floor.specs.Anywhere.{anywhere_answer}
use Rattle.barge.specs.declared.Barge.{Barge}
use Rattle.barge.specs.Barges.{floor_at, with_floor, aboard, barge_refusal, allowed, barge_with, barge_book, barge_book_anywhere, barge_stop, barge_repair, barge_round}
use Rattle.barge.specs.Alike.{Agree, RoundAlike, StopAlike, RepairAlike, BookAlike, AnywhereAlike}
use Rattle.barge.proofs.Answers.{Sound, sound_of}

module _ (b d : Barge) (j k : ℕ) (A : Agree b d j k) where
  -- the number, by the lone answer's and the tests after it
  numbers : (own : ℕ) (last : List (Bool × ℕ)) → barge_refusal b j own last ≡ barge_refusal d k own last
  unfolding barge_refusal
  numbers own last = rw (A.sound, A.sound_too, lt-leb 4 j A.on, lt-leb 4 k A.on_too)

  -- the floor, by the number and the lone answer's floor
  floors : (n : ℕ) (f : Floor) → floor_at (barge_with b j n f) j ≡ floor_at (barge_with d k n f) k
  unfolding barge_with
  floors n f = go (eqb n 0)
    where
      S : Sound b
      S = sound_of b A.sound

      Z : Sound d
      Z = sound_of d A.sound_too

      go : (x : Bool) → floor_at (cond x (with_floor b j f) b) j ≡ floor_at (cond x (with_floor d k f) d) k
      go true = get_or-set_same b.floors j f zero_floor (omega (arith, S.four, A.on)) ∙ sym (get_or-set_same d.floors k f zero_floor (omega (arith, Z.four, A.on_too)))
      go false = A.floor

pub round_alike : RoundAlike
unfolding barge_round
round_alike b d j k A =
    let l = round_answer (floor_at d k) in
    let e = ap round_answer A.floor in
    let n = barge_refusal d k l.refusal [] in
    let q = ap (λ (r : Rounded). barge_refusal b j r.refusal []) e ∙ numbers b d j k A l.refusal [] in
    (q, (λ i. cond (eqb (q i) 0) (e i).report zero_report), (λ i. floor_at (barge_with b j (q i) (e i).floor) j) ∙ floors b d j k A n l.floor)

pub stop_alike : StopAlike
unfolding barge_stop
stop_alike b d j k t A =
    let l = stop_answer (floor_at d k) t in
    let e = ap (λ (f : Floor). stop_answer f t) A.floor in
    let n = barge_refusal d k l.refusal [] in
    let q = ap (λ (r : Answer). barge_refusal b j r.refusal []) e ∙ numbers b d j k A l.refusal [] in
    (q, (λ i. floor_at (barge_with b j (q i) (e i).floor) j) ∙ floors b d j k A n l.floor)

pub repair_alike : RepairAlike
unfolding barge_repair
repair_alike b d j k t A =
    let l = repair_answer (floor_at d k) t in
    let e = ap (λ (f : Floor). repair_answer f t) A.floor in
    let n = barge_refusal d k l.refusal [] in
    let q = ap (λ (r : Answer). barge_refusal b j r.refusal []) e ∙ numbers b d j k A l.refusal [] in
    (q, (λ i. floor_at (barge_with b j (q i) (e i).floor) j) ∙ floors b d j k A n l.floor)

-- the last test of a booking
allowed_alike : (b d : Barge) → aboard b ≡ aboard d → b.allowance ≡ d.allowance → allowed b ≡ allowed d
unfolding allowed
allowed_alike b d e w = rw (e, w)

pub book_alike : BookAlike
unfolding barge_book
book_alike b d j k t c A =
    let l = book_answer (floor_at d k) t c in
    let e = ap (λ (f : Floor). book_answer f t c) A.there.floor in
    let a = allowed_alike b d A.total A.allowance in
    let n = barge_refusal d k l.refusal (allowed d) in
    let q = (λ i. barge_refusal b j (e i).refusal (a i)) ∙ numbers b d j k A.there l.refusal (allowed d) in
    (q, (λ i. floor_at (barge_with b j (q i) (e i).floor) j) ∙ floors b d j k A.there n l.floor)

pub anywhere_alike : AnywhereAlike
unfolding barge_book_anywhere
anywhere_alike b d j k t number A =
    let l = anywhere_answer (floor_at d k) t number in
    let e = ap (λ (f : Floor). anywhere_answer f t number) A.there.floor in
    let a = allowed_alike b d A.total A.allowance in
    let n = barge_refusal d k l.refusal (allowed d) in
    let q = (λ i. barge_refusal b j (e i).refusal (a i)) ∙ numbers b d j k A.there l.refusal (allowed d) in
    (q, (λ i. cond (eqb (q i) 0) (e i).a 0), (λ i. cond (eqb (q i) 0) (e i).b 0), (λ i. floor_at (barge_with b j (q i) (e i).floor) j) ∙ floors b d j k A.there n l.floor)
