-- [13] on concrete barges: floor 3 of one is floor 1 of another, whose other floors, total and allowance differ; all that a call gives there is the same.
use mathlib.Core.Path.{◌≡◌, refl}
use mathlib.Core.Bool.{true}
use Prim.Native.Nat.{ℕ}
use native.Mathlib.Omega.{arith}
use Rattle.laws.specs.Define.{all_of, sum}
use Rattle.floor.specs.declared.Canister.{Canister}
use Rattle.floor.proofs.TablesByValue.{Made, floor_of, made}
use Rattle.barge.specs.declared.Barge.{Barge}
use Rattle.barge.specs.Barges.{floor_at, aboard, allowance_sound, barge_sound, barge_book, barge_book_anywhere, barge_stop, barge_repair, barge_round}
use Rattle.barge.specs.Alike.{Agree, AgreeInAll}
use Rattle.barge.proofs.Samples.{four}
use Rattle.barge.proofs.Alike.{round_alike, stop_alike, repair_alike, book_alike, anywhere_alike}
use Rattle.barge.proofs.StandaloneInstances.{laden, bare, single, laden_shows, bare_shows, single_shows, counts_test, on_shown, loaded, loaded_sound, loaded_four, sizes}

-- floor 1 is laden, as floor 3 of `loaded`; the first floor and the allowance vary
unfoldable moved : Made → ℕ → Barge
moved e n = four (floor_of e) (floor_of laden) (floor_of bare) (floor_of bare) n

-- laden twice, seven allowed: another total and another allowance
twice_sound : barge_sound (moved laden 7) ≡ true
unfolding four moved barge_sound allowance_sound all_of
twice_sound = rw (laden_shows.well, bare_shows.well)

-- the same total and the same allowance, 5
moved_sound : barge_sound (moved single 5) ≡ true
unfolding four moved barge_sound allowance_sound all_of
moved_sound = rw (single_shows.well, laden_shows.well, bare_shows.well)

moved_four : aboard (moved single 5) ≡ 4
unfolding four moved aboard sum
moved_four =
    rw (on_shown (floor_of bare) (made bare).1 bare_shows 0 counts_test.1.0, on_shown (floor_of single) (made single).1 single_shows 1 counts_test.1.1, on_shown (floor_of laden) (made laden).1 laden_shows 3 counts_test.0)

agree : Agree (loaded 5) (moved laden 7) 3 1
unfolding four loaded moved
agree = record { sound = loaded_sound 5 sizes.0; sound_too = twice_sound; on = omega arith; on_too = omega arith; floor = refl }

-- two floors of one barge
agree_within : Agree (moved laden 7) (moved laden 7) 0 1
unfolding four moved
agree_within = record { sound = twice_sound; sound_too = twice_sound; on = omega arith; on_too = omega arith; floor = refl }

agree_in_all : AgreeInAll (loaded 5) (moved single 5) 3 1
unfolding four loaded moved
agree_in_all = record {
  there = record { sound = loaded_sound 5 sizes.0; sound_too = moved_sound; on = omega arith; on_too = omega arith; floor = refl };
  total = omega (arith, loaded_four 5, moved_four);
  allowance = refl;
}

-- ---- "a round's outcome on a floor depends on that floor's state only"
round_same : ((barge_round (loaded 5) 3).refusal ≡ (barge_round (moved laden 7) 1).refusal) × ((barge_round (loaded 5) 3).report ≡ (barge_round (moved laden 7) 1).report)
    × (floor_at (barge_round (loaded 5) 3).barge 3 ≡ floor_at (barge_round (moved laden 7) 1).barge 1)
round_same = let r = round_alike (loaded 5) (moved laden 7) 3 1 agree in (r.0, r.1, r.2)

round_within : ((barge_round (moved laden 7) 0).report ≡ (barge_round (moved laden 7) 1).report) × (floor_at (barge_round (moved laden 7) 0).barge 0 ≡ floor_at (barge_round (moved laden 7) 1).barge 1)
round_within = let r = round_alike (moved laden 7) (moved laden 7) 0 1 agree_within in (r.1, r.2)

stop_same : (t : ℕ) → ((barge_stop (loaded 5) 3 t).refusal ≡ (barge_stop (moved laden 7) 1 t).refusal) × (floor_at (barge_stop (loaded 5) 3 t).barge 3 ≡ floor_at (barge_stop (moved laden 7) 1 t).barge 1)
stop_same t = let r = stop_alike (loaded 5) (moved laden 7) 3 1 t agree in (r.0, r.1)

repair_same : (t : ℕ) → ((barge_repair (loaded 5) 3 t).refusal ≡ (barge_repair (moved laden 7) 1 t).refusal) × (floor_at (barge_repair (loaded 5) 3 t).barge 3 ≡ floor_at (barge_repair (moved laden 7) 1 t).barge 1)
repair_same t = let r = repair_alike (loaded 5) (moved laden 7) 3 1 t agree in (r.0, r.1)

-- ---- "a booking's also on the joint total and allowance"
book_same : (t : ℕ) (c : Canister) → ((barge_book (loaded 5) 3 t c).refusal ≡ (barge_book (moved single 5) 1 t c).refusal) × (floor_at (barge_book (loaded 5) 3 t c).barge 3 ≡ floor_at (barge_book (moved single 5) 1 t c).barge 1)
book_same t c = let r = book_alike (loaded 5) (moved single 5) 3 1 t c agree_in_all in (r.0, r.1)

anywhere_same : (t number : ℕ) → ((barge_book_anywhere (loaded 5) 3 t number).refusal ≡ (barge_book_anywhere (moved single 5) 1 t number).refusal)
    × ((barge_book_anywhere (loaded 5) 3 t number).a ≡ (barge_book_anywhere (moved single 5) 1 t number).a)
    × ((barge_book_anywhere (loaded 5) 3 t number).b ≡ (barge_book_anywhere (moved single 5) 1 t number).b)
    × (floor_at (barge_book_anywhere (loaded 5) 3 t number).barge 3 ≡ floor_at (barge_book_anywhere (moved single 5) 1 t number).barge 1)
anywhere_same t number = let r = anywhere_alike (loaded 5) (moved single 5) 3 1 t number agree_in_all in (r.0, r.1, r.2, r.3)
