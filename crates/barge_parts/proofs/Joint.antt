-- How a call begins: the four floors one after another, and the joint total by their counters.
use mathlib.Core.Path.{◌≡◌, refl, sym, ap, ◌∙◌}
use mathlib.Core.Bool.{Bool, true, false, cond, not, ◌&&◌}
use mathlib.Core.List.{List, [], ◌∷◌, map}
use Prim.Native.Nat.{ℕ, zero, suc, ◌+◌, ◌-◌, ◌≤◌, ◌<◌}
use native.Mathlib.Omega.{arith}
use native.Mathlib.Numerals.{add-one}
use lib.Dec.{leb}
use lib.ListN.{length, get_or}
use borrow.Author.Tests.{eq-eqb, leb-false, not-false}
use Rattle.laws.specs.Define.{all_of, all_below, sum, refusal}
use Rattle.laws.proofs.Tests.{and_right, test_none}
use Rattle.laws.proofs.Lists.{get_same}
use Rattle.laws.proofs.Tables.{below_at}
use Rattle.floor.specs.declared.Floor.{Floor}
use Rattle.floor.specs.Memory.{zero_settings, zero_counters, zero_floor, view}
use Rattle.floor.specs.Well.{well_formed}
use Rattle.floor.specs.Move.{with_delivered}
use Rattle.floor.proofs.Pack.{well_sound}
use Rattle.barge.specs.declared.Barge.{Barge}
use Rattle.barge.specs.Barges.{floor_at, on_floor_of, aboard, allowance_sound, barge_sound}

-- ---- four of them
pub sum_four : (l : List ℕ) → length l ≡ 4 → sum l ≡ get_or l 0 0 + (get_or l 1 0 + (get_or l 2 0 + get_or l 3 0))
unfolding sum
sum_four [] e = absurd (omega arith)
sum_four (a ∷ []) e = absurd (omega arith)
sum_four (a ∷ b ∷ []) e = absurd (omega arith)
sum_four (a ∷ b ∷ c ∷ []) e = absurd (omega arith)
sum_four (a ∷ b ∷ c ∷ d ∷ []) e = omega arith
sum_four (a ∷ b ∷ c ∷ d ∷ x ∷ l) e = absurd (omega arith)

all_four : {A : Type 0} (p : A → Bool) (l : List A) (z : A) → length l ≡ 4 → all_of p l ≡ all_below (λ k. p (get_or l k z)) 4
unfolding all_of all_below
all_four p [] z e = absurd (omega arith)
all_four p (a ∷ []) z e = absurd (omega arith)
all_four p (a ∷ b ∷ []) z e = absurd (omega arith)
all_four p (a ∷ b ∷ c ∷ []) z e = absurd (omega arith)
all_four p (a ∷ b ∷ c ∷ d ∷ []) z e = go (p a) (p b) (p c) (p d)
  where
    go : (w x y v : Bool) → (w && (x && (y && (v && true)))) ≡ ((((true && w) && x) && y) && v)
    go true true true true = refl
    go true true true false = refl
    go true true false v = refl
    go true false y v = refl
    go false x y v = refl
all_four p (a ∷ b ∷ c ∷ d ∷ x ∷ l) z e = absurd (omega arith)

-- ---- one floor, as the code reads it; beyond the fourth, which is never read, another one than `floor_at` has
abbrev blank : Floor
blank = record { settings = zero_settings; counters = with_delivered zero_counters []; tiles = []; canisters = []; layouts = [] }

abbrev pub read_at : Barge → ℕ → Floor
read_at b k = get_or b.floors k blank

pub read_is : (b : Barge) (k : ℕ) → length b.floors ≡ 4 → k < 4 → read_at b k ≡ floor_at b k
read_is b k e h = get_same b.floors k blank zero_floor (omega (arith, e))

abbrev pub well_at : Barge → ℕ → Bool
well_at b k = well_formed (read_at b k)

-- a well-formed floor's counters tell its canisters
pub counters_few : (f : Floor) → well_formed f ≡ true → sum f.counters.delivered ≤ f.counters.booked
unfolding view
counters_few f w = omega (arith, (well_sound f w).counted)

pub counters_tell : (f : Floor) → well_formed f ≡ true → f.counters.booked - sum f.counters.delivered ≡ on_floor_of f
unfolding on_floor_of view
counters_tell f w = omega (arith, (well_sound f w).counted)

-- the canisters on those of the first k floors that are well formed
unfoldable pub counted : Barge → ℕ → ℕ
counted b zero = 0
counted b (suc k) = counted b k + cond (well_at b k) (on_floor_of (read_at b k)) 0

next : (b : Barge) (k n : ℕ) (well : Bool) → well ≡ well_at b k → n ≡ cond well ((read_at b k).counters.booked - sum (read_at b k).counters.delivered) 0 → counted b k + n ≡ counted b (suc k)
unfolding counted
next b k n true w e = ap (λ (i : ℕ). counted b k + i) (e ∙ counters_tell (read_at b k) (sym w)) ∙ rw (sym w)
next b k n false w e = rw (e, sym w)

pub counted_step : (b : Barge) (k n : ℕ) (well : Bool) → well ≡ well_at b k → n ≡ cond well ((read_at b k).counters.booked - sum (read_at b k).counters.delivered) 0 → counted b k + n ≡ counted b (k + 1)
counted_step b k n well w e = next b k n well w e ∙ ap (counted b) (sym (add-one k))

-- ---- all four
pub sound_by : (b : Barge) → length b.floors ≡ 4 → (allowance_sound b.allowance && all_below (well_at b) 4) ≡ barge_sound b
unfolding barge_sound
sound_by b e = rw (eq-eqb (length b.floors) 4 e, all_four well_formed b.floors blank e)

-- a floor of a sound barge
pub read_well : (b : Barge) → length b.floors ≡ 4 → barge_sound b ≡ true → (k : ℕ) → k < 4 → well_formed (read_at b k) ≡ true
read_well b e s = below_at (well_at b) 4 (and_right (allowance_sound b.allowance) (all_below (well_at b) 4) (sound_by b e ∙ s))

each_four : (l : List Floor) → length l ≡ 4
    → (((0 + on_floor_of (get_or l 0 blank)) + on_floor_of (get_or l 1 blank)) + on_floor_of (get_or l 2 blank)) + on_floor_of (get_or l 3 blank) ≡ sum (map on_floor_of l)
unfolding sum
each_four [] e = absurd (omega arith)
each_four (a ∷ []) e = absurd (omega arith)
each_four (a ∷ b ∷ []) e = absurd (omega arith)
each_four (a ∷ b ∷ c ∷ []) e = absurd (omega arith)
each_four (a ∷ b ∷ c ∷ d ∷ []) e = omega arith
each_four (a ∷ b ∷ c ∷ d ∷ x ∷ l) e = absurd (omega arith)

counted_is : (b : Barge) → length b.floors ≡ 4 → ((k : ℕ) → k < 4 → well_at b k ≡ true) → counted b 4 ≡ sum (map on_floor_of b.floors)
unfolding counted
counted_is b e w = rw (w 0 (omega arith), w 1 (omega arith), w 2 (omega arith), w 3 (omega arith)) (each_four b.floors e)

pub counted_all : (b : Barge) → length b.floors ≡ 4 → barge_sound b ≡ true → counted b 4 ≡ aboard b
unfolding aboard
counted_all b e s = counted_is b e (read_well b e s)

-- 30 and 49 are passed: the floor that the call names
pub record On (b : Barge) (k : ℕ) : Type 0 where
  pub sound : barge_sound b ≡ true
  pub named : k < 4
  pub well : well_formed (read_at b k) ≡ true
  pub is : read_at b k ≡ floor_at b k

pub begun_on : (b : Barge) (k n : ℕ) → length b.floors ≡ 4 → n ≡ refusal ((not (barge_sound b), 30) ∷ (leb 4 k, 49) ∷ []) → n ≡ 0 → On b k
begun_on b k n four e z =
    let x = test_none (not (barge_sound b)) 30 ((leb 4 k, 49) ∷ []) (omega arith) (sym e ∙ z) in
    let y = test_none (leb 4 k) 49 [] (omega arith) x.1 in
    let s = not-false (barge_sound b) x.0 in
    let h = leb-false 4 k y.0 in
    record { sound = s; named = h; well = read_well b four s k h; is = read_is b k four h }
