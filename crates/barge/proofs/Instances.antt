-- [13] on a concrete barge and list: the joint total, and demand 3 of each of the four floors.
use mathlib.Core.Path.{◌≡◌, subst}
use mathlib.Core.Logic.{◌↔◌}
use mathlib.Core.Bool.{true, not}
use mathlib.Core.List.{List, [], ◌∷◌, ◌++◌, Permᴰ}
use Prim.Native.Nat.{ℕ, ◌+◌, ◌≤◌, ◌<◌}
use native.Mathlib.Omega.{arith}
use lib.Dec.{eqb}
use lib.ListN.{length, get_or}
use Rattle.laws.specs.Define.{all_of, pairs_of}
use Rattle.laws.specs.Every.{All}
use Rattle.floor.specs.declared.Floor.{Floor}
use Rattle.floor.specs.Settings.{spacing}
use Rattle.floor.specs.Model.{runs_of_of, members_of, numbers_on}
use Rattle.floor.specs.Memory.{view}
use Rattle.floor.specs.Well.{inside, apart, well_formed}
use Rattle.floor.specs.Bound.{bound}
use Rattle.floor.specs.Live.{LivePath, connected, connected_count}
use Rattle.floor.proofs.Calling.{can}
use Rattle.barge.specs.Barges.{floor_at, aboard, barge_sound}
use Rattle.barge.specs.Lists.{BargeCall, book, anywhere, stop, repair, round, InRange, barge_after, booked_in, reported_in, Totals}
use Rattle.barge.specs.PerFloor.{booked_on, reported_on, reported_all_on, runs_on_of, QuietOn, rounds_on, Promises}
use Rattle.barge.proofs.Samples.{four}
use Rattle.barge.proofs.PerFloor.{per_floor}
use Rattle.barge.proofs.Totals.{totals}
use Rattle.barge.proofs.StandaloneInstances.{loaded, loaded_sound, loaded_four, sizes}

-- calls of each kind on floors 1 and 3, and on a floor that isn't there; of those on floor 3 the second booking is 50 with an allowance of 5, the first stop is 8
unfoldable mixed : List BargeCall
mixed = book 4 0 (can 1 0 0) ∷ anywhere 3 2 7 ∷ book 3 1 (can 8 0 4) ∷ stop 3 0 ∷ stop 3 1 ∷ repair 3 1 ∷ anywhere 1 0 9 ∷ round 3 ∷ round 1 ∷ []

in_range : All InRange mixed
unfolding mixed can
in_range = (omega arith, (omega arith, (omega arith, (tt, (tt, (tt, (omega arith, (tt, (tt, tt)))))))))

-- ---- `totals`: below the allowance, at it, and above it
below : Totals (loaded 5) mixed
below = totals (loaded 5) (loaded_sound 5 sizes.0) mixed in_range

full : Totals (loaded 4) mixed
full = totals (loaded 4) (loaded_sound 4 sizes.1.0) mixed in_range

over : Totals (loaded 3) mixed
over = totals (loaded 3) (loaded_sound 3 sizes.1.1.0) mixed in_range

stays_sound : (barge_sound (barge_after (loaded 5) mixed) ≡ true) × (barge_sound (barge_after (loaded 3) mixed) ≡ true)
stays_sound = (below.sound, over.sound)

same_allowance : ((barge_after (loaded 5) mixed).allowance ≡ 5) × ((barge_after (loaded 3) mixed).allowance ≡ 3)
unfolding four loaded
same_allowance = (below.same_allowance, over.same_allowance)

counted : aboard (barge_after (loaded 5) mixed) + length (reported_in (loaded 5) mixed) ≡ 4 + length (booked_in (loaded 5) mixed)
counted = subst (λ (n : ℕ). aboard (barge_after (loaded 5) mixed) + length (reported_in (loaded 5) mixed) ≡ n + length (booked_in (loaded 5) mixed)) (loaded_four 5) below.counted

-- 4 of 4, and 4 of 5
within : (aboard (barge_after (loaded 4) mixed) ≤ 4) × (aboard (barge_after (loaded 5) mixed) ≤ 5)
unfolding four loaded
within = (full.within (omega (arith, loaded_four 4)), below.within (omega (arith, loaded_four 5)))

-- 4 of 3, and 4 of 4
above : (aboard (barge_after (loaded 3) mixed) ≤ 4) × (aboard (barge_after (loaded 4) mixed) ≤ 4)
unfolding four loaded
above =
    let most : (n : ℕ) → aboard (barge_after (loaded n) mixed) ≤ aboard (loaded n) → aboard (barge_after (loaded n) mixed) ≤ 4 = λ n h. omega (arith, h, loaded_four n) in
    (most 3 (over.above (omega (arith, loaded_four 3))), most 4 (full.above (omega (arith, loaded_four 4))))

-- ---- `per_floor`, floor j
module _ (j : ℕ) (l : j < 4) where
  P : Promises j (loaded 5) mixed
  P = per_floor j l (loaded 5) (loaded_sound 5 sizes.0) mixed in_range

  first : P.first ≡ floor_at (loaded 5) j
  first = P.is_first

  now : P.now ≡ floor_at (barge_after (loaded 5) mixed) j
  now = P.is_now

  well : well_formed P.now ≡ true
  well = P.well

  same_settings : P.now.settings ≡ P.first.settings
  same_settings = P.same_settings

  inside_at : (t : ℕ) → all_of (inside P.first.settings) (members_of (view P.now) t) ≡ true
  inside_at t = P.within t

  spaced_at : (t : ℕ) → pairs_of (apart (spacing P.first.settings)) (members_of (view P.now) t) ≡ true
  spaced_at t = P.spaced t

  kept : Permᴰ (numbers_on (view P.first) ++ booked_on j (loaded 5) mixed) (numbers_on (view P.now) ++ reported_all_on j (loaded 5) mixed)
  kept = P.kept

  once_before : pairs_of (λ x y. not (eqb x y)) (numbers_on (view P.first) ++ booked_on j (loaded 5) mixed) ≡ true
  once_before = P.once_before

  once_now : pairs_of (λ x y. not (eqb x y)) (numbers_on (view P.now) ++ reported_all_on j (loaded 5) mixed) ≡ true
  once_now = P.once_now

  booked : P.now.counters.booked ≡ P.first.counters.booked + length (booked_on j (loaded 5) mixed)
  booked = P.booked

  delivered : (k : ℕ) → get_or P.now.counters.delivered k 0 ≡ get_or P.first.counters.delivered k 0 + length (reported_on j (loaded 5) mixed k)
  delivered k = P.delivered k

  runs_now : (t : ℕ) → runs_on_of j (loaded 5) mixed t ≡ runs_of_of (view P.now) t
  runs_now t = P.runs_now t

  counts_live : (t : ℕ) → LivePath P.first.settings (runs_on_of j (loaded 5) mixed) t ↔ connected P.first.settings (runs_on_of j (loaded 5) mixed) t ≡ true
  counts_live t = P.counts_live t

  -- also while the other floors go on; on floors 1 and 3 of a barge it is applied in ListSamples
  emptied : (ds : List BargeCall) → All InRange ds → QuietOn j (barge_after (loaded 5) mixed) ds → bound P.first.settings (connected_count (view P.now) (runs_on_of j (loaded 5) mixed)) ≤ rounds_on j ds
      → (t : ℕ) → LivePath P.first.settings (runs_on_of j (loaded 5) mixed) t → members_of (view (floor_at (barge_after (barge_after (loaded 5) mixed) ds) j)) t ≡ []
  emptied ds h q n t p = P.emptied ds h q n t p

-- two canisters of tile 1 of floor 3, and of floor 1; what was delivered to the second hopper of floor 3
spaced_three : pairs_of (apart (spacing (floor_at (loaded 5) 3).settings)) (members_of (view (floor_at (barge_after (loaded 5) mixed) 3)) 1) ≡ true
spaced_three =
    subst (λ (f : Floor). pairs_of (apart (spacing (floor_at (loaded 5) 3).settings)) (members_of (view f) 1) ≡ true) (now 3 (omega arith))
    (subst (λ (f : Floor). pairs_of (apart (spacing f.settings)) (members_of (view (P 3 (omega arith)).now) 1) ≡ true) (first 3 (omega arith)) (spaced_at 3 (omega arith) 1))
