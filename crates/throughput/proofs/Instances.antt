-- What is promised of feeding, on records made by hand and on a list of counts, every promise by its name.
use Rattle.std.proofs.Common.{◌≡◌, ℕ, ◌+◌, ◌*◌, ◌<◌, ◌≤◌, true, false, ◌≢◌, List, [], ◌∷◌, ◌++◌, replicate, pos, sym, refl, ◌∙◌, arith}
use lib.Ieee.{binary64, fits, mul, le, of_int}
use lib.Ieee.Exact.{HasValue}
use Rattle.laws.specs.Define.{filter, sum, tab}
use Rattle.throughput.specs.declared.Throughput.{Throughput}
use Rattle.throughput.specs.declared.FedValues.{FedValues}
use Rattle.throughput.specs.Rate.{per_window, rate_of}
use Rattle.throughput.specs.Window.{zero64, record_sound, opened, lower, higher, feed_values}
use Rattle.throughput.specs.Lists.{zero_throughput, feed_all, closed_rates_of, counted, windows, open_rounds_of, open_deliveries_of, last_of, least_of, greatest_of, record_after, closed_record}
use Rattle.throughput.specs.Feeds.{IsRate, AreBinary64, SoundRecord, Opens, Closes}
use Rattle.throughput.proofs.Exact.{rate_fits}
use Rattle.throughput.proofs.Order.{rate_zero, rate_le}
use Rattle.throughput.proofs.Answers.{refused_nothing}
use Rattle.throughput.proofs.Promises.{is_rate, read_back, sound_record, feed_promises, feeds}
use Rattle.throughput.proofs.Cases.{fed}

-- ---- records by hand: windows with 512, 256 and 768 deliveries have closed, or none has; the open window has k rounds and d deliveries
unfoldable hand : ℕ → ℕ → ℕ → Throughput
hand k d flag = record { last = rate_of 512; least = rate_of 256; greatest = rate_of 768; rounds = k; deliveries = d; closed = flag }

unfoldable first : ℕ → ℕ → Throughput
first k d = record { last = zero64; least = zero64; greatest = zero64; rounds = k; deliveries = d; closed = 0 }

hand_binary64 : (k d flag : ℕ) → AreBinary64 (hand k d flag)
unfolding hand
hand_binary64 k d flag = (rate_fits 512, rate_fits 256, rate_fits 768)

first_binary64 : (k d : ℕ) → AreBinary64 (first k d)
unfolding first fits
first_binary64 k d = (tt, tt, tt)

-- ---- a sound record, from what it has and back
hand_facts : (k d flag : ℕ) → k < 256 → d ≤ 4 * k → flag ≢ 0 → SoundRecord (hand k d flag)
unfolding hand
hand_facts k d flag h l n =
    record {
      open_rounds = h;
      open_deliveries = l;
      last = (512, is_rate 512 (omega arith));
      least = (256, is_rate 256 (omega arith));
      greatest = (768, is_rate 768 (omega arith));
      least_last = rate_le 256 512 (omega arith) (omega arith);
      last_greatest = rate_le 512 768 (omega arith) (omega arith);
      before = λ z. absurd (n z);
    }

hand_sound : (k d flag : ℕ) → k < 256 → d ≤ 4 * k → flag ≢ 0 → record_sound (hand k d flag) ≡ true
hand_sound k d flag h l n = (sound_record (hand k d flag) (hand_binary64 k d flag)).1 (hand_facts k d flag h l n)

first_sound : (k d : ℕ) → k < 256 → d ≤ 4 * k → record_sound (first k d) ≡ true
unfolding first le
first_sound k d h l =
    let none : IsRate zero64 0 = rw rate_zero at (is_rate 0 (omega arith)) in
    (sound_record (first k d) (first_binary64 k d)).1 (record {
      open_rounds = h;
      open_deliveries = l;
      last = (0, none);
      least = (0, none);
      greatest = (0, none);
      least_last = refl;
      last_greatest = refl;
      before = λ _. (refl, refl, refl);
    })

hand_test : (record_sound (hand 255 1020 200) ≡ true) × (record_sound (hand 256 0 1) ≡ false)
unfolding fed hand
hand_test = (refl, refl)

abbrev facts : SoundRecord (hand 255 1020 200)
facts = (sound_record (hand 255 1020 200) (hand_binary64 255 1020 200)).0 hand_test.0

facts_window : (255 < 256) × (1020 ≤ 1020)
unfolding hand
facts_window = (facts.open_rounds, facts.open_deliveries)

-- the deliveries of the closed windows, from their rates
facts_counts : (facts.last.0 ≡ 512) × (facts.least.0 ≡ 256) × (facts.greatest.0 ≡ 768)
unfolding hand
facts_counts =
    let back : (n : ℕ) → n ≤ 1024 → (r : (m : ℕ) × IsRate (rate_of n) m) → r.0 ≡ n = λ n h r. sym (read_back (rate_of n) r.0 r.1) ∙ read_back (rate_of n) n (is_rate n h) in
    (back 512 (omega arith) facts.last, back 256 (omega arith) facts.least, back 768 (omega arith) facts.greatest)

facts_order : (le (rate_of 256) (rate_of 512) ≡ true) × (le (rate_of 512) (rate_of 768) ≡ true)
unfolding hand
facts_order = (facts.least_last, facts.last_greatest)

first_test : record_sound (first 3 12) ≡ true
unfolding fed first
first_test = refl

first_before : ((first 3 12).last ≡ zero64) × ((first 3 12).least ≡ zero64) × ((first 3 12).greatest ≡ zero64)
unfolding first
first_before = ((sound_record (first 3 12) (first_binary64 3 12)).0 first_test).before refl

-- ---- a feed: 30, whatever the count; 41; each gives the record back
full : record_sound (hand 255 1020 200) ≡ true
full = hand_sound 255 1020 200 (omega arith) (omega arith) (omega arith)

unsound : (n : ℕ) → ((feed_values (hand 256 0 1) n).refusal ≡ 30) × ((feed_values (hand 256 0 1) n).kind ≡ 0)
unsound n = (feed_promises (hand 256 0 1) n).unsound hand_test.1

above : (n : ℕ) → 4 < n → ((feed_values (hand 255 1020 200) n).refusal ≡ 41) × ((feed_values (hand 255 1020 200) n).kind ≡ 0)
above n h = (feed_promises (hand 255 1020 200) n).above full h

abbrev Unchanged : Throughput → ℕ → Type 0
Unchanged t n = ((feed_values t n).throughput ≡ t) × ((feed_values t n).rate ≡ zero64) × ((feed_values t n).rounds ≡ 0)

unchanged_41 : Unchanged (hand 255 1020 200) 5
unchanged_41 = (feed_promises (hand 255 1020 200) 5).unchanged (λ e. absurd (omega (arith, e, (above 5 (omega arith)).0)))

unchanged_30 : Unchanged (hand 256 0 1) 2
unchanged_30 = (feed_promises (hand 256 0 1) 2).unchanged (λ e. absurd (omega (arith, e, (unsound 2).0)))

-- the 255th round, with the most deliveries
abbrev opening : FedValues
opening = feed_values (hand 254 1016 200) 4

opens : Opens (hand 254 1016 200) 4 opening
unfolding hand
opens = (feed_promises (hand 254 1016 200) 4).opens (hand_sound 254 1016 200 (omega arith) (omega arith) (omega arith)) (omega arith) (omega arith)

open_values : (opening.refusal ≡ 0) × (opening.kind ≡ 1) × (opening.rounds ≡ 255)
unfolding hand
open_values = (opens.accepted, opens.kind, opens.rounds)

open_most : opening.rounds ≤ 255
open_most = opens.most

open_after : opening.throughput ≡ hand 255 1020 200
unfolding hand opened
open_after = opens.after

-- the 256th, after other closed windows and as the first
abbrev closing : FedValues
closing = feed_values (hand 255 1020 200) 4

closes : Closes (hand 255 1020 200) 4 closing
unfolding hand
closes = (feed_promises (hand 255 1020 200) 4).closes full (omega arith) refl

close_values : (closing.refusal ≡ 0) × (closing.kind ≡ 2)
close_values = (closes.accepted, closes.kind)

close_rate : IsRate closing.rate 1024
unfolding hand
close_rate = closes.rate

close_exact : HasValue closing.rate false 1024 256 × ((mul binary64 closing.rate per_window ≡ of_int binary64 (pos 1024)) × (1024 ≤ 1024))
close_exact = (close_rate.exact, (close_rate.product, close_rate.most))

close_rates : (closing.throughput.last ≡ closing.rate) × (closing.throughput.least ≡ lower (rate_of 256) closing.rate) × (closing.throughput.greatest ≡ higher (rate_of 768) closing.rate)
unfolding hand
close_rates = let r = closes.later (omega arith) in (closes.last, r.0, r.1)

close_window : (closing.throughput.rounds ≡ 0) × (closing.throughput.deliveries ≡ 0) × (closing.throughput.closed ≡ 1)
close_window = (closes.emptied.0, closes.emptied.1, closes.closed)

abbrev beginning : FedValues
beginning = feed_values (first 255 3) 1

begins : Closes (first 255 3) 1 beginning
unfolding first
begins = (feed_promises (first 255 3) 1).closes (first_sound 255 3 (omega arith) (omega arith)) (omega arith) refl

begin_rates : IsRate beginning.rate 4 × ((beginning.throughput.last ≡ beginning.rate) × (beginning.throughput.least ≡ beginning.rate) × (beginning.throughput.greatest ≡ beginning.rate))
unfolding first
begin_rates = let r = begins.first refl in (begins.rate, (begins.last, r.0, r.1))

-- what it gives is sound again, refused counts included
fed_sound : (n : ℕ) → AreBinary64 (feed_values (hand 255 1020 200) n).throughput × (record_sound (feed_values (hand 255 1020 200) n).throughput ≡ true)
fed_sound n = (feed_promises (hand 255 1020 200) n).sound (hand_binary64 255 1020 200) full

-- ---- a list: 256 rounds with four each, then 256 with none and one with three; 7 and 9 are refused
unfoldable counts : List ℕ
counts = replicate 256 4 ++ ((7 ∷ replicate 256 0) ++ (9 ∷ 3 ∷ []))

counts_windows : windows (counted counts) ≡ 1024 ∷ 0 ∷ []
unfolding windows counted filter tab sum counts
counts_windows = refl

counts_open : (open_rounds_of (counted counts) ≡ 1) × (open_deliveries_of (counted counts) ≡ 3)
unfolding open_rounds_of open_deliveries_of counted filter sum counts
counts_open = (refl, refl)

counts_sum : sum (counted counts) ≡ 1027
unfolding counted filter sum counts
counts_sum = refl

list_after_lem : feed_all zero_throughput counts ≡ closed_record 0 0 1024 1 3
unfolding record_after last_of least_of greatest_of
list_after_lem = rw (counts_windows, counts_open.0, counts_open.1) at (feeds counts).after

list_sound : SoundRecord (closed_record 0 0 1024 1 3)
list_sound = rw list_after_lem at (feeds counts).sound

list_closed_rates : closed_rates_of zero_throughput counts ≡ rate_of 1024 ∷ rate_of 0 ∷ []
list_closed_rates = rw counts_windows at (feeds counts).closed_rates

list_rates : IsRate (rate_of 1024) 1024 × (IsRate (rate_of 0) 0 × Unit {0})
list_rates = rw counts_windows at (feeds counts).rates

list_total : sum (windows (counted counts)) + open_deliveries_of (counted counts) ≡ 1027
list_total = (feeds counts).total ∙ counts_sum

-- from any record
refused : (t : Throughput) → (feed_all t (5 ∷ 2 ∷ 9 ∷ []) ≡ feed_all t (2 ∷ [])) × (closed_rates_of t (5 ∷ 2 ∷ 9 ∷ []) ≡ closed_rates_of t (2 ∷ []))
unfolding counted filter
refused t = refused_nothing t (5 ∷ 2 ∷ 9 ∷ [])
