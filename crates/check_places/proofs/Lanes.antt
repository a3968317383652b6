-- Sixteen places at once: the places stand twice in a line, and each is compared with those up to eight further on; so every two of nine to sixteen meet.
use mathlib.Core.Path.{◌≡◌, sym, ap, subst, ◌∙◌}
use mathlib.Core.Logic.{◌⊎◌, inl, inr, ⊎_elim, ◌↔◌}
use mathlib.Core.Bool.{true}
use mathlib.Core.List.{List}
use Prim.Native.Nat.{ℕ, zero, suc, ◌+◌, ◌-◌, ◌≤◌, ◌<◌}
use Prim.Native.Nat.{max, min}
use native.Mathlib.Omega.{arith}
use Rattle.std.specs.Int.{abs_diff}
use native.Mathlib.Numerals.{add-one}
use native.Mathlib.Decide.{dec_le, ℕ_discrete}
use lib.Dec.{leb}
use lib.ListN.{length, take, get_or, replicate, get_or-replicate}
use borrow.Author.Tests.{leb-true, le-leb}
use Rattle.std.proofs.lemmas.List.{get_or-take, length-take-le}
use Rattle.laws.specs.Define.{pairs_of, all_of}
use Rattle.laws.specs.InternalFilled.{Upto}
use Rattle.laws.proofs.Tests.{same_test, r_le, r_or}
use Rattle.laws.proofs.Tables.{all_at, all_from_each, pairs_at, pairs_from_each}
use Rattle.floor.specs.declared.Canister.{Canister}
use Rattle.floor.specs.Memory.{zero_canister}
use Rattle.floor.specs.Well.{apart}
use Rattle.check_places.specs.InternalLanes.{farther, distance_at, Compared}

abbrev at : List Canister → ℕ → Canister
at items i = get_or items i zero_canister

-- ---- the first k of n places stand in a line, and again n further on
pub record Twice (read : Canister → ℕ) (n : ℕ) (items : List Canister) (k : ℕ) (line : List ℕ) : Type 0 where
  pub size : length line ≡ 32
  pub first : Upto k (λ i. read (at items i)) 0 line
  pub second : (i : ℕ) → i < k → get_or line (n + i) 0 ≡ read (at items i)

-- ---- the lesser of two and the greater
less_into : (d x y : ℕ) → d ≤ min x y → (d ≤ x) × (d ≤ y)
less_into d x y h = (omega arith, omega arith)

less_out : (d x y : ℕ) → d ≤ x → d ≤ y → d ≤ min x y
less_out d x y p q = omega arith

farther_back : (xa xb ya yb : ℕ) → farther xa xb ya yb ≡ farther ya yb xa xb
farther_back xa xb ya yb = (λ t. max (back xa ya t) (back xb yb t))
  where
    back : (x y : ℕ) → abs_diff x y ≡ abs_diff y x
    back x y = omega arith

-- ---- the least distance of place i from those up to k further on
pub lowest : List ℕ → List ℕ → ℕ → ℕ → ℕ
lowest a b i zero = 65535
lowest a b i (suc k) = min (lowest a b i k) (distance_at a b i (i + (k + 1)))

pub lowest_none : (a b : List ℕ) → Upto 16 (λ i. lowest a b i 0) 0 (replicate 16 65535)
unfolding lowest
lowest_none a b i h = get_or-replicate 16 i 65535 0 h

pub lowest_more : (a b old new : List ℕ) (k : ℕ) → Upto 16 (λ i. lowest a b i k) 0 old → Compared a b (k + 1) old new → Upto 16 (λ i. lowest a b i (k + 1)) 0 new
unfolding lowest
lowest_more a b old new k u t i h = t.each i h ∙ ap (λ (m : ℕ). min m (distance_at a b i (i + (k + 1)))) (u i h) ∙ sym (ap (lowest a b i) (add-one k))

lowest_into : (a b : List ℕ) (d i k : ℕ) → d ≤ lowest a b i k → (j : ℕ) → j < k → d ≤ distance_at a b i (i + (j + 1))
unfolding lowest
lowest_into a b d i zero h j p = absurd (omega arith)
lowest_into a b d i (suc k) h j p = let t = less_into d (lowest a b i k) (distance_at a b i (i + (k + 1))) h in go (ℕ_discrete j k) t.1 (lowest_into a b d i k t.0 j)
  where
    go : Dec (j ≡ k) → d ≤ distance_at a b i (i + (k + 1)) → (j < k → d ≤ distance_at a b i (i + (j + 1))) → d ≤ distance_at a b i (i + (j + 1))
    go (yes e) t ih = rw e t
    go (no e) t ih = ih (omega arith)

lowest_out : (a b : List ℕ) (d i k : ℕ) → d ≤ 65535 → ((j : ℕ) → j < k → d ≤ distance_at a b i (i + (j + 1))) → d ≤ lowest a b i k
unfolding lowest
lowest_out a b d i zero m f = m
lowest_out a b d i (suc k) m f = less_out d (lowest a b i k) (distance_at a b i (i + (k + 1))) (lowest_out a b d i k m (λ j p. f j (omega arith))) (f k (omega arith))

-- ---- two canisters stand apart exactly where their distance is enough
reads_apart : (d : ℕ) (x y : Canister) → apart d x y ≡ true ↔ (x.a + d ≤ y.a ⊎ y.a + d ≤ x.a) ⊎ (x.b + d ≤ y.b ⊎ y.b + d ≤ x.b)
unfolding apart
reads_apart d x y = r_or (r_or (r_le (x.a + d) y.a) (r_le (y.a + d) x.a)) (r_or (r_le (x.b + d) y.b) (r_le (y.b + d) x.b))

far : (d : ℕ) (x y : Canister) → d ≤ farther x.a x.b y.a y.b → apart d x y ≡ true
far d x y h = (reads_apart d x y).1 (go (dec_le (x.a + d) y.a) (dec_le (y.a + d) x.a) (dec_le (x.b + d) y.b))
  where
    go : Dec (x.a + d ≤ y.a) → Dec (y.a + d ≤ x.a) → Dec (x.b + d ≤ y.b) → (x.a + d ≤ y.a ⊎ y.a + d ≤ x.a) ⊎ (x.b + d ≤ y.b ⊎ y.b + d ≤ x.b)
    go (yes p) q r = inl (inl p)
    go (no p) (yes q) r = inl (inr q)
    go (no p) (no q) (yes r) = inr (inl r)
    go (no p) (no q) (no r) = inr (inr (omega arith))

near : (d : ℕ) (x y : Canister) → apart d x y ≡ true → d ≤ farther x.a x.b y.a y.b
near d x y h = ⊎_elim (⊎_elim (λ p. omega arith) (λ p. omega arith)) (⊎_elim (λ p. omega arith) (λ p. omega arith)) ((reads_apart d x y).0 h)

pub apart_by : (d : ℕ) (x y : Canister) → leb d (farther x.a x.b y.a y.b) ≡ apart d x y
apart_by d x y = same_test (leb d (farther x.a x.b y.a y.b)) (apart d x y) (λ h. far d x y (leb-true d (farther x.a x.b y.a y.b) h)) (λ h. le-leb d (farther x.a x.b y.a y.b) (near d x y h))

-- ---- every two of nine to sixteen are compared at one of eight shifts
module _ (n : ℕ) (items : List Canister) (a b : List ℕ) (some : 9 ≤ n) (few : n ≤ 16) (long : length items ≡ n) (in_a : Twice (λ c. c.a) n items n a) (in_b : Twice (λ c. c.b) n items n b) where
  -- place i from place j, and place j from place i where that stands again
  straight : (i j : ℕ) → i < n → j < n → distance_at a b i j ≡ farther (at items i).a (at items i).b (at items j).a (at items j).b
  straight i j p q = rw (in_a.first i p, in_a.first j q, in_b.first i p, in_b.first j q)

  around : (i j : ℕ) → i < n → j < n → distance_at a b j (n + i) ≡ farther (at items i).a (at items i).b (at items j).a (at items j).b
  around i j p q =
      (λ t. farther (in_a.first j q t) (in_b.first j q t) (in_a.second i p t) (in_b.second i p t))
      ∙ farther_back (at items j).a (at items j).b (at items i).a (at items i).b

  meet : (d : ℕ) → ((i : ℕ) → i < n → d ≤ lowest a b i 8) → (i j : ℕ) → i < j → j < n → apart d (at items i) (at items j) ≡ true
  meet d f i j p q = far d (at items i) (at items j) (go (dec_le (j - i) 8))
    where
      compared : (i k m : ℕ) → i < n → k < 8 → i + (k + 1) ≡ m → d ≤ distance_at a b i m
      compared i k m p h e = subst (λ (m : ℕ). d ≤ distance_at a b i m) e (lowest_into a b d i 8 (f i p) k h)

      go : Dec (j - i ≤ 8) → d ≤ farther (at items i).a (at items i).b (at items j).a (at items j).b
      go (yes e) = subst (λ (m : ℕ). d ≤ m) (straight i j (omega arith) q) (compared i (j - i - 1) j (omega arith) (omega arith) (omega arith))
      go (no e) = subst (λ (m : ℕ). d ≤ m) (around i j (omega arith) q) (compared j (n - (j - i) - 1) (n + i) q (omega arith) (omega arith))

  met : (d : ℕ) → d ≤ 65535 → ((i j : ℕ) → i < j → j < n → apart d (at items i) (at items j) ≡ true) → (i : ℕ) → i < n → d ≤ lowest a b i 8
  met d m f i p = lowest_out a b d i 8 m (λ k h. go (i + (k + 1)) (omega arith) (omega arith) (dec_le (suc (i + (k + 1))) n))
    where
      go : (j : ℕ) → i < j → j < i + 9 → Dec (j < n) → d ≤ distance_at a b i j
      go j h q (yes e) = subst (λ (m : ℕ). d ≤ m) (sym (straight i j p e)) (near d (at items i) (at items j) (f i j h e))
      go j h q (no e) =
          let u : n + (j - n) ≡ j = omega arith in
          let v : j - n < i = omega arith in
          subst (λ (m : ℕ). d ≤ distance_at a b i m) u (subst (λ (m : ℕ). d ≤ m) (sym (around (j - n) i (omega arith) p)) (near d (at items (j - n)) (at items i) (f (j - n) i v p)))

  pub lanes_apart : (d : ℕ) (least : List ℕ) → d ≤ 65535 → length least ≡ 16 → Upto 16 (λ i. lowest a b i 8) 0 least → all_of (λ x. leb d x) (take n least) ≡ pairs_of (apart d) items
  lanes_apart d least m size u = same_test (all_of (λ x. leb d x) (take n least)) (pairs_of (apart d) items) into out
    where
      long_take : length (take n least) ≡ n
      long_take = length-take-le n least (omega arith)

      into : all_of (λ x. leb d x) (take n least) ≡ true → pairs_of (apart d) items ≡ true
      into e = pairs_from_each (apart d) items zero_canister (λ i j p q. meet d far_enough i j p (omega (arith, long)))
        where
          far_enough : (i : ℕ) → i < n → d ≤ lowest a b i 8
          far_enough i p =
              let t = rw (get_or-take n least i 0 p) at (all_at (λ x. leb d x) (take n least) 0 e i (omega (arith, long_take))) in
              omega (arith, u i (omega arith), leb-true d (get_or least i 0) t)

      out : pairs_of (apart d) items ≡ true → all_of (λ x. leb d x) (take n least) ≡ true
      out e = all_from_each (λ x. leb d x) (take n least) 0 (λ i p. one i (omega (arith, long_take)))
        where
          two : (i j : ℕ) → i < j → j < n → apart d (at items i) (at items j) ≡ true
          two i j p q = pairs_at (apart d) items zero_canister e i j p (omega (arith, long))

          one : (i : ℕ) → i < n → leb d (get_or (take n least) i 0) ≡ true
          one i p = rw (get_or-take n least i 0 p) (le-leb d (get_or least i 0) (omega (arith, u i (omega arith), met d m two i p)))
