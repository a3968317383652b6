-- On what a call's outcome on a floor depends: two sound barges that agree on that answer alike. The theorems are those of proofs/Alike.
use Rattle.std.specs.Prelude.{◌≡◌, true, ℕ, ◌<◌}
use Rattle.floor.specs.declared.Canister.{Canister}
use Rattle.barge.specs.declared.Barge.{Barge}
use Rattle.barge.specs.Barges.{floor_at, aboard, barge_sound, barge_book, barge_book_anywhere, barge_stop, barge_repair, barge_round}

-- two sound barges, floor j of b the same as floor k of d; the barges may be one, and the floors the same one
pub record Agree (b d : Barge) (j k : ℕ) : Type 0 where
  pub sound : barge_sound b ≡ true
  pub sound_too : barge_sound d ≡ true
  pub on : j < 4
  pub on_too : k < 4
  pub floor : floor_at b j ≡ floor_at d k

-- with the same joint total and allowance too
pub record AgreeInAll (b d : Barge) (j k : ℕ) : Type 0 where
  pub there : Agree b d j k
  pub total : aboard b ≡ aboard d
  pub allowance : b.allowance ≡ d.allowance

-- "On a sound barge a round's outcome on a floor depends on that floor's state only"
abbrev pub RoundAlike : Type 0
RoundAlike = (b d : Barge) (j k : ℕ) → Agree b d j k
    → ((barge_round b j).refusal ≡ (barge_round d k).refusal) × ((barge_round b j).report ≡ (barge_round d k).report) × (floor_at (barge_round b j).barge j ≡ floor_at (barge_round d k).barge k)

-- so does that of a stop and of a repair
abbrev pub StopAlike : Type 0
StopAlike = (b d : Barge) (j k t : ℕ) → Agree b d j k
    → ((barge_stop b j t).refusal ≡ (barge_stop d k t).refusal) × (floor_at (barge_stop b j t).barge j ≡ floor_at (barge_stop d k t).barge k)

abbrev pub RepairAlike : Type 0
RepairAlike = (b d : Barge) (j k t : ℕ) → Agree b d j k
    → ((barge_repair b j t).refusal ≡ (barge_repair d k t).refusal) × (floor_at (barge_repair b j t).barge j ≡ floor_at (barge_repair d k t).barge k)

-- "a booking's also on the joint total and allowance"
abbrev pub BookAlike : Type 0
BookAlike = (b d : Barge) (j k t : ℕ) (c : Canister) → AgreeInAll b d j k
    → ((barge_book b j t c).refusal ≡ (barge_book d k t c).refusal) × (floor_at (barge_book b j t c).barge j ≡ floor_at (barge_book d k t c).barge k)

abbrev pub AnywhereAlike : Type 0
AnywhereAlike = (b d : Barge) (j k t number : ℕ) → AgreeInAll b d j k
    → ((barge_book_anywhere b j t number).refusal ≡ (barge_book_anywhere d k t number).refusal)
    × ((barge_book_anywhere b j t number).a ≡ (barge_book_anywhere d k t number).a)
    × ((barge_book_anywhere b j t number).b ≡ (barge_book_anywhere d k t number).b)
    × (floor_at (barge_book_anywhere b j t number).barge j ≡ floor_at (barge_book_anywhere d k t number).barge k)
