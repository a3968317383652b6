-- What is promised of feeding a record. The statements are specs/Feeds.
use Rattle.std.proofs.Common.{◌≡◌, ℕ, zero, suc, ◌+◌, ◌*◌, ◌<◌, ◌≤◌, Bool, true, false, not, ◌&&◌, ◌||◌, T, eqb, ltb, leb, ◌≢◌, ◌⊎◌, List, [], ◌∷◌, map, sym, refl, ap, ◌∙◌, subst, inl, inr, mul-pos, zero-add, arith, ltb-false, ltb-true, lt-ltb, eq-eqb, ne_eqb, eqb-true, le-leb, leb-true}
use lib.Ieee.{Float, nan, inf, fin, binary64, up, down, fits, le, eq, of_bits}
use lib.Ieee.Exact.{HasValue}
use lib.Ieee.Fits.{down_pos}
use Rattle.laws.specs.Define.{filter, sum}
use Rattle.laws.specs.Every.{All}
use Rattle.laws.proofs.Tests.{by_test, and_left, and_right, and_true}
use Rattle.laws.proofs.Lists.{all_of_lem, all_imp, all_filter}
use Rattle.throughput.specs.declared.Throughput.{Throughput}
use Rattle.throughput.specs.declared.FedValues.{FedValues}
use Rattle.throughput.specs.Rate.{rate_of, rate_sound, deliveries_of}
use Rattle.throughput.specs.Window.{zero64, rates_sound, rates_in_order, record_sound, closed_by, feed_values}
use Rattle.throughput.specs.Lists.{zero_throughput, feed_all, closed_rates_of, counted, windows, open_rounds_of, open_deliveries_of, last_of, least_of, greatest_of, record_after}
use Rattle.throughput.specs.Feeds.{IsRate, AreBinary64, SoundRecord, SoundIs, Opens, Closes, FeedIs, Feeds}
use Rattle.throughput.proofs.Exact.{cut as cut-back, rate_exact, rate_fits, value_sound, sound_value, sound_rate, times}
use Rattle.throughput.proofs.Answers.{sound_window, values_unsound, values_many, values_open, values_close, refused_nothing}
use Rattle.throughput.proofs.Order.{rate_zero, zero_is}
use Rattle.throughput.proofs.Windows.{cut, cuts_sum, cuts_most}
use Rattle.throughput.proofs.Records.{start, feeds_start}
use Rattle.throughput.proofs.Keeps.{rest_sound, feed_keeps}

-- ---- rates
has_rate : (x : Float) (n : ℕ) → n ≤ 1024 → HasValue x false n 256 → IsRate x n
unfolding of_bits
has_rate x n h v = record { exact = v; product = times x n h v; most = h }

pub is_rate : (n : ℕ) → n ≤ 1024 → IsRate (rate_of n) n
is_rate n h = has_rate (rate_of n) n h (rate_exact n h)

sound_is_rate : (x : Float) → rate_sound x ≡ true → (n : ℕ) × IsRate x n
sound_is_rate x h = let v = sound_value x h in (v.0, has_rate x v.0 v.1 v.2)

-- the deliveries are read back from the rate
pub read_back : (x : Float) (n : ℕ) → IsRate x n → deliveries_of x ≡ n
unfolding deliveries_of of_bits
read_back x n r = rw (value_sound x n r.most r.exact, times x n r.most r.exact) (cut-back n r.most)

-- ---- a sound record
zero_count : (x : Float) (n : ℕ) → HasValue x false n 256 → eq x zero64 ≡ true → n ≡ 0
unfolding eq
zero_count nan n v h = absurd v
zero_count (inf s) n v h = absurd v
zero_count (fin s m e) zero v h = refl
zero_count (fin s m e) (suc n) v h =
    let z = eqb-true (m * up e * 1) (0 * down e) (and_left (eqb (m * up e * 1) (0 * down e)) _ h) in
    let p : 0 < suc n * down e = mul-pos (omega arith) (down_pos e) in
    absurd (omega (arith, z, p, v.1))

is_zero : (x : Float) → T (fits binary64 x) → rate_sound x ≡ true → eq x zero64 ≡ true → x ≡ zero64
is_zero x f h e =
    let r = sound_rate x f h in
    let z : r.0 ≡ 0 = zero_count x r.0 (subst (λ (y : Float). HasValue y false r.0 256) (sym r.2) (rate_exact r.0 r.1)) e in
    r.2 ∙ ap rate_of z ∙ rate_zero

module _ (t : Throughput) where
  a : Bool
  a = le t.least t.last

  b : Bool
  b = le t.last t.greatest

  zeros : Bool
  zeros = eq t.last zero64 && (eq t.least zero64 && eq t.greatest zero64)

  sound_facts : AreBinary64 t → record_sound t ≡ true → SoundRecord t
  unfolding rates_sound rates_in_order a b zeros
  sound_facts f h =
      let w = sound_window t h in
      let r = rest_sound t h in
      let three = and_left (rates_sound t.last t.least t.greatest) (rates_in_order t.last t.least t.greatest t.closed) r in
      let order = and_right (rates_sound t.last t.least t.greatest) (rates_in_order t.last t.least t.greatest t.closed) r in
      let s1 = and_left (rate_sound t.last) (rate_sound t.least && rate_sound t.greatest) three in
      let s23 = and_right (rate_sound t.last) (rate_sound t.least && rate_sound t.greatest) three in
      let s2 = and_left (rate_sound t.least) (rate_sound t.greatest) s23 in
      let s3 = and_right (rate_sound t.least) (rate_sound t.greatest) s23 in
      let o = and_right a (b && (not (eqb t.closed 0) || zeros)) order in
      record {
        open_rounds = w.0;
        open_deliveries = w.1;
        last = sound_is_rate t.last s1;
        least = sound_is_rate t.least s2;
        greatest = sound_is_rate t.greatest s3;
        least_last = and_left a (b && (not (eqb t.closed 0) || zeros)) order;
        last_greatest = and_left b (not (eqb t.closed 0) || zeros) o;
        before = λ z. let q : zeros ≡ true = subst (λ (x : Bool). (not x || zeros) ≡ true) (eq-eqb t.closed 0 z) (and_right b (not (eqb t.closed 0) || zeros) o) in
            let q2 = and_right (eq t.last zero64) (eq t.least zero64 && eq t.greatest zero64) q in (
              is_zero t.last f.0 s1 (and_left (eq t.last zero64) (eq t.least zero64 && eq t.greatest zero64) q),
              is_zero t.least f.1 s2 (and_left (eq t.least zero64) (eq t.greatest zero64) q2),
              is_zero t.greatest f.2 s3 (and_right (eq t.least zero64) (eq t.greatest zero64) q2),
            );
      }

  facts_sound : SoundRecord t → record_sound t ≡ true
  unfolding record_sound rates_sound rates_in_order
  facts_sound R =
      and_true (lt-ltb t.rounds 256 R.open_rounds)
      (and_true (le-leb t.deliveries (4 * t.rounds) R.open_deliveries)
      (and_true (and_true (good R.last) (and_true (good R.least) (good R.greatest)))
      (and_true R.least_last (and_true R.last_greatest (go (by_test (eqb t.closed 0)))))))
    where
      good : {x : Float} → (n : ℕ) × IsRate x n → rate_sound x ≡ true
      good r = value_sound _ r.0 r.1.most r.1.exact

      go : (eqb t.closed 0 ≡ true) ⊎ (eqb t.closed 0 ≡ false) → (not (eqb t.closed 0) || (eq t.last zero64 && (eq t.least zero64 && eq t.greatest zero64))) ≡ true
      go (inl e) = let z = R.before (eqb-true t.closed 0 e) in rw (e, z.0, z.1, z.2, zero_is) refl
      go (inr e) = rw e refl

pub sound_record : SoundIs
sound_record t f = (sound_facts t f, facts_sound t)

-- ---- one feed
opens : (t : Throughput) (n : ℕ) → record_sound t ≡ true → n ≤ 4 → t.rounds < 255 → Opens t n (feed_values t n)
opens t n h l k = rw (values_open t n h l k) (record { accepted = refl; kind = refl; rounds = refl; most = omega arith; after = refl })

closes : (t : Throughput) (n : ℕ) → record_sound t ≡ true → n ≤ 4 → t.rounds ≡ 255 → Closes t n (feed_values t n)
unfolding closed_by
closes t n h l k =
    let w = sound_window t h in
    rw (values_close t n h l (omega arith)) (record {
      accepted = refl;
      kind = refl;
      rate = is_rate (t.deliveries + n) (omega (arith, w.0, w.1));
      last = refl;
      first = λ z. rw (eq-eqb t.closed 0 z) (refl, refl);
      later = λ z. rw (ne_eqb t.closed 0 z) (refl, refl);
      emptied = (refl, refl);
      closed = refl;
    })

abbrev Unchanged : Throughput → FedValues → Type 0
Unchanged t x = x.refusal ≢ 0 → (x.throughput ≡ t) × (x.rate ≡ zero64) × (x.rounds ≡ 0)

unchanged : (t : Throughput) (n : ℕ) → Unchanged t (feed_values t n)
unchanged t n = go (by_test (record_sound t)) (by_test (ltb 4 n)) (by_test (ltb t.rounds 255))
  where
    go : (record_sound t ≡ true) ⊎ (record_sound t ≡ false) → (ltb 4 n ≡ true) ⊎ (ltb 4 n ≡ false) → (ltb t.rounds 255 ≡ true) ⊎ (ltb t.rounds 255 ≡ false) → Unchanged t (feed_values t n)
    go (inr h) m y = rw (values_unsound t n h) (λ _. (refl, refl, refl))
    go (inl h) (inl m) y = rw (values_many t n h (ltb-true 4 n m)) (λ _. (refl, refl, refl))
    go (inl h) (inr m) (inl y) = rw (values_open t n h (ltb-false 4 n m) (ltb-true t.rounds 255 y)) (λ z. absurd (z refl))
    go (inl h) (inr m) (inr y) = rw (values_close t n h (ltb-false 4 n m) (ltb-false t.rounds 255 y)) (λ z. absurd (z refl))

pub feed_promises : FeedIs
feed_promises t n = record {
  unsound = λ h. rw (values_unsound t n h) (refl, refl);
  above = λ h l. rw (values_many t n h l) (refl, refl);
  unchanged = unchanged t n;
  opens = opens t n;
  closes = closes t n;
  sound = feed_keeps t n;
}

-- ---- lists
pub counted_few : (l : List ℕ) → All (λ n. n ≤ 4) (counted l)
unfolding counted
counted_few l = all_imp (λ n. Unit {0} × (leb n 4 ≡ true)) (λ n. n ≤ 4) (filter (λ n. leb n 4) l) (λ n p. leb-true n 4 p.1) (all_filter (λ _. Unit {0}) (λ n. leb n 4) l (all_of_lem (λ _. Unit {0}) l (λ _ _. tt)))

zero_start : zero_throughput ≡ start 0 0
unfolding zero_throughput
zero_start = refl

record_binary64 : (ws : List ℕ) (k s : ℕ) → AreBinary64 (record_after ws k s)
unfolding record_after fits
record_binary64 [] k s = (tt, tt, tt)
record_binary64 (w ∷ ws) k s = (rate_fits (last_of w ws), rate_fits (least_of w ws), rate_fits (greatest_of w ws))

pub feeds : Feeds
feeds l =
    let m = counted l in
    let few = counted_few l in
    let s = feeds_start m few 0 0 (omega arith, omega arith) in
    let c = cut m in
    let k = refused_nothing zero_throughput l in
    let z : feed_all zero_throughput l ≡ feed_all (start 0 0) m = k.0 ∙ ap (λ (t : Throughput). feed_all t m) zero_start in
    let e : feed_all zero_throughput l ≡ record_after (windows m) (open_rounds_of m) (open_deliveries_of m) = z ∙ s.0 ∙ (λ i. record_after (c.0 i) (c.1 i) (c.2 i)) in
    record {
      after = e;
      sound = sound_facts (feed_all zero_throughput l) (subst AreBinary64 (sym e) (record_binary64 (windows m) (open_rounds_of m) (open_deliveries_of m))) (ap record_sound z ∙ s.2);
      closed_rates = k.1 ∙ ap (λ (t : Throughput). closed_rates_of t m) zero_start ∙ s.1 ∙ ap (map rate_of) c.0;
      rates = all_imp (λ w. w ≤ 1024) (λ w. IsRate (rate_of w) w) (windows m) is_rate (subst (All (λ w. w ≤ 1024)) c.0 (cuts_most m few 0 0 (omega arith) (omega arith)));
      total = (λ i. sum (sym c.0 i) + sym c.2 i) ∙ cuts_sum m 0 0 ∙ zero-add (sum m);
    }
