-- One call on a barge: a sound barge, a call that is accepted, one that is refused; the other floors.
use mathlib.Core.Path.{◌≡◌, refl, sym, ap, ◌∙◌, fun_ext}
use mathlib.Core.Logic.{◌⊎◌, inl, inr, ◌≢◌}
use mathlib.Core.Bool.{Bool, true, false, cond, not, false≢true}
use mathlib.Core.List.{List, [], ◌∷◌}
use Prim.Native.Nat.{ℕ, zero, suc, ◌<◌}
use native.Mathlib.Omega.{arith}
use native.Mathlib.Decide.{ℕ_discrete}
use lib.Dec.{leb, eqb}
use lib.ListN.{length, length-set}
use lib.Seq.{get_or-set_same, get_or-set_other}
use borrow.Author.Tests.{eqb-true, eq-eqb, ne_eqb, leb-false, lt-leb}
use Rattle.laws.specs.Define.{refusal}
use Rattle.laws.proofs.Tests.{and_left, and_right, and_true, test_none}
use Rattle.laws.proofs.Tables.{all_at, all_from_each}
use Rattle.floor.specs.declared.Floor.{Floor}
use Rattle.floor.specs.Memory.{zero_floor}
use Rattle.floor.specs.Well.{well_formed}
use Rattle.floor.specs.Calls.{zero_report, round_answer}
use Rattle.floor.specs.Reports.{listed_at}
use Rattle.floor.specs.Demand3.{is_round}
use Rattle.floor.specs.Demand3 as OneFloor
use Rattle.floor.proofs.Lists.{call_keeps, round_accepted}
use Rattle.barge.specs.declared.Barge.{Barge}
use Rattle.barge.specs.Barges.{floor_at, with_floor, allowance_sound, barge_sound, barge_refusal, allowed, barge_with, barge_book, barge_book_anywhere, barge_stop, barge_repair, barge_round}
use Rattle.barge.specs.Lists.{BargeCall, book, anywhere, stop, repair, round, named, standalone, standalone_outcome, InRange, outcome, Others}

-- ---- a sound barge
pub record Sound (b : Barge) : Type 0 where
  pub allowance : allowance_sound b.allowance ≡ true
  pub four : length b.floors ≡ 4
  pub each : (k : ℕ) → k < 4 → well_formed (floor_at b k) ≡ true

pub sound_of : (b : Barge) → barge_sound b ≡ true → Sound b
unfolding barge_sound
sound_of b h =
    let h1 = and_right (allowance_sound b.allowance) _ h in
    let four : length b.floors ≡ 4 = eqb-true (length b.floors) 4 (and_left (eqb (length b.floors) 4) _ h1) in
    record {
      allowance = and_left (allowance_sound b.allowance) _ h;
      four = four;
      each = λ k l. all_at well_formed b.floors zero_floor (and_right (eqb (length b.floors) 4) _ h1) k (omega arith);
    }

sound_is : (b : Barge) → Sound b → barge_sound b ≡ true
unfolding barge_sound
sound_is b S =
    and_true S.allowance (and_true (eq-eqb (length b.floors) 4 S.four) (all_from_each well_formed b.floors zero_floor (λ k l. S.each k (omega (arith, S.four)))))

-- one floor anew
with_sound : (b : Barge) (k : ℕ) (f : Floor) → Sound b → k < 4 → well_formed f ≡ true → Sound (with_floor b k f)
with_sound b k f S l w = record {
  allowance = S.allowance;
  four = length-set b.floors k f ∙ S.four;
  each = λ j h. at j h (ℕ_discrete j k);
}
  where
    at : (j : ℕ) → j < 4 → Dec (j ≡ k) → well_formed (floor_at (with_floor b k f) j) ≡ true
    at j h (yes e) = rw (e, get_or-set_same b.floors k f zero_floor (omega (arith, S.four))) w
    at j h (no n) = rw (get_or-set_other b.floors k j f zero_floor n) (S.each j h)

-- ---- one call, accepted or refused
-- the tests after the call's own
abbrev pub extra : Barge → BargeCall → List (Bool × ℕ)
extra b (book k t c) = allowed b
extra b (anywhere k t number) = allowed b
extra b (stop k t) = []
extra b (repair k t) = []
extra b (round k) = []

pub refusal_is : (b : Barge) (c : BargeCall) → (outcome b c).refusal ≡ barge_refusal b (named c) (standalone_outcome b c).refusal (extra b c)
unfolding outcome barge_book barge_book_anywhere barge_stop barge_repair barge_round OneFloor.outcome
refusal_is b (book k t c) = refl
refusal_is b (anywhere k t number) = refl
refusal_is b (stop k t) = refl
refusal_is b (repair k t) = refl
refusal_is b (round k) = refl

pub record Done (b : Barge) (c : BargeCall) : Type 0 where
  pub on : named c < 4
  pub own : (standalone_outcome b c).refusal ≡ 0
  pub last : refusal (extra b c) ≡ 0
  pub barge : (outcome b c).barge ≡ with_floor b (named c) (standalone_outcome b c).floor
  pub booked : (outcome b c).booked ≡ (standalone_outcome b c).booked
  pub reported : (outcome b c).reported ≡ (standalone_outcome b c).reported

-- a call's own refusal as a test
own_none : (own : ℕ) (last : List (Bool × ℕ)) → refusal ((not (eqb own 0), own) ∷ last) ≡ 0 → (own ≡ 0) × (refusal last ≡ 0)
unfolding refusal
own_none own last q = go (eqb own 0) refl q
  where
    go : (e : Bool) → eqb own 0 ≡ e → cond (not e) own (refusal last) ≡ 0 → (own ≡ 0) × (refusal last ≡ 0)
    go true e q = (eqb-true own 0 e, q)
    go false e q = absurd (false≢true (sym e ∙ eq-eqb own 0 q))

passed : (b : Barge) (k own : ℕ) (last : List (Bool × ℕ)) → barge_refusal b k own last ≡ 0 → (leb 4 k ≡ false) × (own ≡ 0) × (refusal last ≡ 0)
unfolding barge_refusal
passed b k own last h =
    let rest : List (Bool × ℕ) = (not (eqb own 0), own) ∷ last in
    let x = test_none (not (barge_sound b)) 30 ((leb 4 k, 49) ∷ rest) (omega arith) h in
    let y = test_none (leb 4 k) 49 rest (omega arith) x.1 in
    let z = own_none own last y.1 in
    (y.0, z.0, z.1)

pub done : (b : Barge) (c : BargeCall) → (outcome b c).refusal ≡ 0 → Done b c
unfolding outcome barge_book barge_book_anywhere barge_stop barge_repair barge_round barge_with OneFloor.outcome
done b c h = go c (passed b (named c) (standalone_outcome b c).refusal (extra b c) (sym (refusal_is b c) ∙ h)) h
  where
    go : (c : BargeCall) → (leb 4 (named c) ≡ false) × ((standalone_outcome b c).refusal ≡ 0) × (refusal (extra b c) ≡ 0) → (outcome b c).refusal ≡ 0 → Done b c
    go (book k t c) p h = record { on = leb-false 4 k p.0; own = p.1; last = p.2; barge = rw h; booked = rw (h, p.1); reported = refl }
    go (anywhere k t number) p h = record { on = leb-false 4 k p.0; own = p.1; last = p.2; barge = rw h; booked = rw (h, p.1); reported = refl }
    go (stop k t) p h = record { on = leb-false 4 k p.0; own = p.1; last = p.2; barge = rw h; booked = refl; reported = refl }
    go (repair k t) p h = record { on = leb-false 4 k p.0; own = p.1; last = p.2; barge = rw h; booked = refl; reported = refl }
    go (round k) p h = record { on = leb-false 4 k p.0; own = p.1; last = p.2; barge = rw h; booked = refl; reported = rw h }

pub record Undone (b : Barge) (c : BargeCall) : Type 0 where
  pub barge : (outcome b c).barge ≡ b
  pub booked : (outcome b c).booked ≡ []
  pub reported : (outcome b c).reported ≡ (λ _. [])

-- a report of zeros lists nothing
pub none_listed : listed_at zero_report ≡ (λ _. [])
unfolding listed_at zero_report
none_listed = fun_ext at
  where
    at : (k : ℕ) → listed_at zero_report k ≡ []
    at zero = refl
    at (suc zero) = refl
    at (suc (suc zero)) = refl
    at (suc (suc (suc zero))) = refl
    at (suc (suc (suc (suc k)))) = refl

pub undone : (b : Barge) (c : BargeCall) → (outcome b c).refusal ≢ 0 → Undone b c
unfolding outcome barge_book barge_book_anywhere barge_stop barge_repair barge_round barge_with
undone b (book k t c) h = let e = ne_eqb (outcome b (book k t c)).refusal 0 h in record { barge = rw e; booked = rw e; reported = refl }
undone b (anywhere k t number) h = let e = ne_eqb (outcome b (anywhere k t number)).refusal 0 h in record { barge = rw e; booked = rw e; reported = refl }
undone b (stop k t) h = let e = ne_eqb (outcome b (stop k t)).refusal 0 h in record { barge = rw e; booked = refl; reported = refl }
undone b (repair k t) h = let e = ne_eqb (outcome b (repair k t)).refusal 0 h in record { barge = rw e; booked = refl; reported = refl }
undone b (round k) h = let e = ne_eqb (outcome b (round k)).refusal 0 h in record { barge = rw e; booked = refl; reported = rw e none_listed }

-- ---- "leave the other three"
pub others : Others
others b c j n = go (ℕ_discrete (outcome b c).refusal 0)
  where
    go : Dec ((outcome b c).refusal ≡ 0) → floor_at (outcome b c).barge j ≡ floor_at b j
    go (yes z) = ap (λ (x : Barge). floor_at x j) (done b c z).barge ∙ get_or-set_other b.floors (named c) j (standalone_outcome b c).floor zero_floor n
    go (no z) = ap (λ (x : Barge). floor_at x j) (undone b c z).barge

-- ---- on a sound barge
-- what is left after the call's own tests is 50 or nothing
one_test : (x : Bool) (k : ℕ) → (refusal ((x, k) ∷ []) ≡ 0) ⊎ (refusal ((x, k) ∷ []) ≡ k)
unfolding refusal
one_test true k = inr refl
one_test false k = inl refl

allowed_50 : (b : Barge) → (refusal (allowed b) ≡ 0) ⊎ (refusal (allowed b) ≡ 50)
unfolding allowed
allowed_50 b = one_test _ 50

pub only_50 : (b : Barge) (c : BargeCall) → (refusal (extra b c) ≡ 0) ⊎ (refusal (extra b c) ≡ 50)
unfolding refusal
only_50 b (book k t c) = allowed_50 b
only_50 b (anywhere k t number) = allowed_50 b
only_50 b (stop k t) = inl refl
only_50 b (repair k t) = inl refl
only_50 b (round k) = inl refl

-- a call that names a floor of it and is refused, but not by 50, is refused on that floor
pub own_refused : (b : Barge) (c : BargeCall) → barge_sound b ≡ true → named c < 4 → (outcome b c).refusal ≢ 0 → (outcome b c).refusal ≢ 50 → (standalone_outcome b c).refusal ≢ 0
unfolding barge_refusal refusal
own_refused b c s l h n z = go (only_50 b c) (refusal_is b c ∙ rw (s, lt-leb 4 (named c) l, z))
  where
    go : (refusal (extra b c) ≡ 0) ⊎ (refusal (extra b c) ≡ 50) → (outcome b c).refusal ≡ refusal (extra b c) → ⊥
    go (inl k) e = h (e ∙ k)
    go (inr k) e = n (e ∙ k)

-- a round is accepted
pub round_passes : (f : Floor) → well_formed f ≡ true → (round_answer f).refusal ≡ 0
unfolding round_answer
round_passes f w = round_accepted f w

pub round_done : (b : Barge) (c : BargeCall) → barge_sound b ≡ true → named c < 4 → is_round (standalone c) ≡ true → (outcome b c).refusal ≡ 0
unfolding barge_refusal refusal OneFloor.outcome
round_done b (book k t c) s l r = absurd (false≢true r)
round_done b (anywhere k t number) s l r = absurd (false≢true r)
round_done b (stop k t) s l r = absurd (false≢true r)
round_done b (repair k t) s l r = absurd (false≢true r)
round_done b (round k) s l r = refusal_is b (round k) ∙ rw (s, lt-leb 4 k l, round_passes (floor_at b k) ((sound_of b s).each k l))

-- it stays sound
pub stays : (b : Barge) (c : BargeCall) → barge_sound b ≡ true → InRange c → barge_sound (outcome b c).barge ≡ true
stays b c s t = go (ℕ_discrete (outcome b c).refusal 0)
  where
    S : Sound b
    S = sound_of b s

    go : Dec ((outcome b c).refusal ≡ 0) → barge_sound (outcome b c).barge ≡ true
    go (yes z) =
        let D = done b c z in
        rw D.barge (sound_is (with_floor b (named c) (standalone_outcome b c).floor) (with_sound b (named c) (standalone_outcome b c).floor S D.on (call_keeps (floor_at b (named c)) (S.each (named c) D.on) (standalone c) t).0))
    go (no z) = rw (undone b c z).barge s
