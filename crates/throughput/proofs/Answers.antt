-- The answer of feeding a round, case by case; and what a list of counts has of those that are refused.
use Rattle.std.proofs.Common.{◌≡◌, ℕ, ◌+◌, ◌*◌, ◌<◌, ◌≤◌, true, false, ◌&&◌, ltb, leb, ◌⊎◌, List, [], ◌∷◌, sym, refl, ap, inl, inr, arith, ltb-true, le-ltb, lt-ltb, leb-false, leb-true}
use Rattle.laws.specs.Define.{refusal, filter}
use Rattle.laws.proofs.Tests.{and_left, and_right, by_test}
use Rattle.throughput.specs.declared.Throughput.{Throughput}
use Rattle.throughput.specs.declared.Feeding.{Feeding}
use Rattle.throughput.specs.declared.Fed.{Fed}
use Rattle.throughput.specs.declared.Fed.TheVariants.{Open, Closed, Refused}
use Rattle.throughput.specs.Rate.{rate_of}
use Rattle.throughput.specs.Window.{rates_sound, rates_in_order, record_sound, feed_refusal, feed_answer, opened, closed_by, values_by, values_of, feed_values}
use Rattle.throughput.specs.Lists.{feed_all, closed_rates_of, counted}
use Rattle.throughput.specs.Feeds.{RefusedNothing}

abbrev pub answered : Throughput → Fed → Feeding
answered t f = record { throughput = t; fed = f }

pub sound_window : (t : Throughput) → record_sound t ≡ true → (t.rounds < 256) × (t.deliveries ≤ 4 * t.rounds)
unfolding record_sound
sound_window t h =
    let rest = rates_sound t.last t.least t.greatest && rates_in_order t.last t.least t.greatest t.closed in
    let k = and_right (ltb t.rounds 256) (leb t.deliveries (4 * t.rounds) && rest) h in
    (ltb-true _ _ (and_left (ltb t.rounds 256) (leb t.deliveries (4 * t.rounds) && rest) h), leb-true _ _ (and_left (leb t.deliveries (4 * t.rounds)) rest k))

pub feed_unsound : (t : Throughput) (n : ℕ) → record_sound t ≡ false → answered t (Refused 30) ≡ feed_answer t n
unfolding feed_answer feed_refusal refusal
feed_unsound t n h = rw h refl

pub feed_many : (t : Throughput) (n : ℕ) → record_sound t ≡ true → 4 < n → answered t (Refused 41) ≡ feed_answer t n
unfolding feed_answer feed_refusal refusal
feed_many t n h l = rw (h, lt-ltb 4 n l) refl

pub feed_open : (t : Throughput) (n : ℕ) → record_sound t ≡ true → n ≤ 4 → t.rounds < 255 → answered (opened t n) (Open (t.rounds + 1)) ≡ feed_answer t n
unfolding feed_answer feed_refusal refusal
feed_open t n h l k = rw (h, le-ltb 4 n l, lt-ltb (t.rounds + 1) 256 (omega arith)) refl

pub feed_close : (t : Throughput) (n : ℕ) → record_sound t ≡ true → n ≤ 4 → 255 ≤ t.rounds
    → answered (closed_by t (rate_of (t.deliveries + n))) (Closed (rate_of (t.deliveries + n))) ≡ feed_answer t n
unfolding feed_answer feed_refusal refusal
feed_close t n h l k = rw (h, le-ltb 4 n l, le-ltb (t.rounds + 1) 256 (omega arith)) refl

-- ---- the same by number and values
pub values_unsound : (t : Throughput) (n : ℕ) → record_sound t ≡ false → feed_values t n ≡ values_by t (Refused 30)
unfolding feed_values values_of
values_unsound t n h = ap values_of (sym (feed_unsound t n h))

pub values_many : (t : Throughput) (n : ℕ) → record_sound t ≡ true → 4 < n → feed_values t n ≡ values_by t (Refused 41)
unfolding feed_values values_of
values_many t n h l = ap values_of (sym (feed_many t n h l))

pub values_open : (t : Throughput) (n : ℕ) → record_sound t ≡ true → n ≤ 4 → t.rounds < 255 → feed_values t n ≡ values_by (opened t n) (Open (t.rounds + 1))
unfolding feed_values values_of
values_open t n h l k = ap values_of (sym (feed_open t n h l k))

pub values_close : (t : Throughput) (n : ℕ) → record_sound t ≡ true → n ≤ 4 → 255 ≤ t.rounds → feed_values t n ≡ values_by (closed_by t (rate_of (t.deliveries + n))) (Closed (rate_of (t.deliveries + n)))
unfolding feed_values values_of
values_close t n h l k = ap values_of (sym (feed_close t n h l k))

-- a count above 4 is refused, by 30 or by 41
pub values_above : (t : Throughput) (n : ℕ) → 4 < n → (k : ℕ) × (feed_values t n ≡ values_by t (Refused k))
values_above t n l = go (by_test (record_sound t))
  where
    go : (record_sound t ≡ true) ⊎ (record_sound t ≡ false) → (k : ℕ) × (feed_values t n ≡ values_by t (Refused k))
    go (inl h) = (41, values_many t n h l)
    go (inr h) = (30, values_unsound t n h)

-- ---- refused counts change nothing
step_out : (n : ℕ) (l : List ℕ) → ((t : Throughput) → (feed_all t l ≡ feed_all t (counted l)) × (closed_rates_of t l ≡ closed_rates_of t (counted l)))
    → (t : Throughput) → (feed_all t (n ∷ l) ≡ feed_all t (counted (n ∷ l))) × (closed_rates_of t (n ∷ l) ≡ closed_rates_of t (counted (n ∷ l)))
unfolding feed_all closed_rates_of counted filter
step_out n l ih t = go (by_test (leb n 4))
  where
    go : (leb n 4 ≡ true) ⊎ (leb n 4 ≡ false) → (feed_all t (n ∷ l) ≡ feed_all t (counted (n ∷ l))) × (closed_rates_of t (n ∷ l) ≡ closed_rates_of t (counted (n ∷ l)))
    go (inl h) = let i = ih (feed_values t n).throughput in rw h (i.0, rw i.1 refl)
    go (inr h) = let e = values_above t n (leb-false n 4 h) in rw (h, e.1) (ih t)

pub refused_nothing : RefusedNothing
unfolding feed_all closed_rates_of counted filter
refused_nothing t [] = (refl, refl)
refused_nothing t (n ∷ l) = step_out n l (λ r. refused_nothing r l) t
