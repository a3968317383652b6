-- The joint total, call by call and over lists.
use mathlib.Core.Path.{◌≡◌, refl, sym, ap, ◌∙◌}
use mathlib.Core.Bool.{Bool, true, false, cond}
use mathlib.Core.List.{List, [], ◌∷◌, map}
use Prim.Native.Nat.{ℕ, zero, suc, ◌+◌, ◌≤◌, ◌<◌}
use native.Mathlib.Omega.{arith}
use native.Mathlib.Decide.{ℕ_discrete}
use lib.Dec.{leb, eqb}
use lib.ListN.{length, get_or, set, length-append}
use borrow.Author.Tests.{leb-false}
use Rattle.laws.specs.Define.{sum, cat, refusal}
use Rattle.laws.specs.Every.{All}
use Rattle.laws.proofs.Lists.{length_perm, cat_nil}
use Rattle.laws.proofs.Tests.{test_none}
use Rattle.floor.specs.declared.Floor.{Floor}
use Rattle.floor.specs.Model.{numbers_on}
use Rattle.floor.specs.Memory.{zero_floor, view}
use Rattle.floor.specs.Well.{well_formed}
use Rattle.floor.specs.Demand3 as OneFloor
use Rattle.floor.proofs.Lists.{call_keeps}
use Rattle.barge.specs.declared.Barge.{Barge}
use Rattle.barge.specs.Barges.{floor_at, with_floor, on_floor_of, aboard, barge_sound, allowed}
use Rattle.barge.specs.Lists.{BargeCall, book, anywhere, stop, repair, round, named, standalone, standalone_outcome, InRange, outcome, barge_after, booked_in, reported_in, JointTotal}
use Rattle.barge.proofs.Answers.{sound_of, done, undone, stays}

-- ---- one call
sum_set : (l : List Floor) (k : ℕ) (f : Floor) → k < length l → sum (map on_floor_of (set l k f)) + on_floor_of (get_or l k zero_floor) ≡ sum (map on_floor_of l) + on_floor_of f
unfolding sum
sum_set [] k f h = absurd (omega arith)
sum_set (x ∷ l) zero f h = omega arith
sum_set (x ∷ l) (suc k) f h = omega (arith, sum_set l k f (omega arith))

standalone_total : (f : Floor) → well_formed f ≡ true → (c : OneFloor.Call) → OneFloor.InRange c → on_floor_of (OneFloor.outcome f c).floor + length (cat 4 (OneFloor.outcome f c).reported) ≡ on_floor_of f + length (OneFloor.outcome f c).booked
unfolding on_floor_of
standalone_total f w c t =
    let o = OneFloor.outcome f c in
    let K = (call_keeps f w c t).1 in
    sym (length-append (numbers_on (view o.floor)) (cat 4 o.reported)) ∙ length_perm K.nums ∙ length-append (numbers_on (view f)) o.booked

changed : (b : Barge) (k : ℕ) (f : Floor) (x y : ℕ) → k < length b.floors → on_floor_of f + x ≡ on_floor_of (floor_at b k) + y → aboard (with_floor b k f) + x ≡ aboard b + y
unfolding aboard
changed b k f x y h e = omega (arith, sum_set b.floors k f h)

pub total : (b : Barge) (c : BargeCall) → barge_sound b ≡ true → InRange c → aboard (outcome b c).barge + length (cat 4 (outcome b c).reported) ≡ aboard b + length (outcome b c).booked
total b c s t = go (ℕ_discrete (outcome b c).refusal 0)
  where
    go : Dec ((outcome b c).refusal ≡ 0) → aboard (outcome b c).barge + length (cat 4 (outcome b c).reported) ≡ aboard b + length (outcome b c).booked
    go (yes z) =
        let D = done b c z in
        let l = standalone_outcome b c in
        rw (D.barge, D.reported, D.booked)
        (changed b (named c) l.floor (length (cat 4 l.reported)) (length l.booked) (omega (arith, (sound_of b s).four, D.on)) (standalone_total (floor_at b (named c)) ((sound_of b s).each (named c) D.on) (standalone c) t))
    go (no z) = let U = undone b c z in rw (U.barge, U.reported, U.booked, cat_nil {A = ℕ} 4)

same_allowance : (b : Barge) (c : BargeCall) → (outcome b c).barge.allowance ≡ b.allowance
same_allowance b c = go (ℕ_discrete (outcome b c).refusal 0)
  where
    go : Dec ((outcome b c).refusal ≡ 0) → (outcome b c).barge.allowance ≡ b.allowance
    go (yes z) = ap (λ (x : Barge). x.allowance) (done b c z).barge
    go (no z) = ap (λ (x : Barge). x.allowance) (undone b c z).barge

-- an accepted booking found the total below the allowance
below : (b : Barge) → refusal (allowed b) ≡ 0 → aboard b < b.allowance
unfolding allowed
below b h = leb-false b.allowance (aboard b) (test_none (leb b.allowance (aboard b)) 50 [] (omega arith) h).0

one_or_none : (x : Bool) (n : ℕ) → length (cond x (n ∷ []) []) ≤ 1
one_or_none true n = omega arith
one_or_none false n = omega arith

-- no call takes the total above the greater of total and allowance
stays_under : (b : Barge) (c : BargeCall) → barge_sound b ≡ true → InRange c → (n : ℕ) → b.allowance ≤ n → aboard b ≤ n → aboard (outcome b c).barge ≤ n
unfolding outcome
stays_under b c s t n h l = go c (total b c s t) (ℕ_discrete (outcome b c).refusal 0)
  where
    go : (c : BargeCall) → aboard (outcome b c).barge + length (cat 4 (outcome b c).reported) ≡ aboard b + length (outcome b c).booked → Dec ((outcome b c).refusal ≡ 0) → aboard (outcome b c).barge ≤ n
    go c e (no z) = rw (undone b c z).barge l
    go (book k t x) e (yes z) = omega (arith, e, below b (done b (book k t x) z).last, one_or_none (eqb (outcome b (book k t x)).refusal 0) x.number)
    go (anywhere k t number) e (yes z) = omega (arith, e, below b (done b (anywhere k t number) z).last, one_or_none (eqb (outcome b (anywhere k t number)).refusal 0) number)
    go (stop k t) e (yes z) = omega (arith, e)
    go (repair k t) e (yes z) = omega (arith, e)
    go (round k) e (yes z) = omega (arith, e)

-- ---- lists
record Over (b : Barge) (cs : List BargeCall) : Type 0 where
  sound : barge_sound (barge_after b cs) ≡ true
  allowance : (barge_after b cs).allowance ≡ b.allowance
  counted : aboard (barge_after b cs) + length (reported_in b cs) ≡ aboard b + length (booked_in b cs)
  under : (n : ℕ) → b.allowance ≤ n → aboard b ≤ n → aboard (barge_after b cs) ≤ n

over : (b : Barge) → barge_sound b ≡ true → (cs : List BargeCall) → All InRange cs → Over b cs
unfolding barge_after booked_in reported_in
over b s [] h = record { sound = s; allowance = refl; counted = refl; under = λ n x y. y }
over b s (c ∷ cs) h =
    let d = (outcome b c).barge in
    let R = over d (stays b c s h.0) cs h.1 in
    record {
      sound = R.sound;
      allowance = R.allowance ∙ same_allowance b c;
      counted = omega (arith, R.counted, total b c s h.0, length-append (outcome b c).booked (booked_in d cs), length-append (cat 4 (outcome b c).reported) (reported_in d cs));
      under = λ n x y. R.under n (omega (arith, same_allowance b c)) (stays_under b c s h.0 n x y);
    }

pub totals : JointTotal
totals b s cs h =
    let O = over b s cs h in
    record {
      sound = O.sound;
      same_allowance = O.allowance;
      counted = O.counted;
      within = λ l. O.under b.allowance (omega arith) l;
      above = λ l. O.under (aboard b) l (omega arith);
    }
