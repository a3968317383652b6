-- What is promised of feeding a record ([2]). The theorems are `feed_promises`, `sound_record` and `feeds` of proofs/Promises, and `refused_nothing` of proofs/Answers.
use Rattle.std.specs.Prelude.{◌≡◌, ℕ, ◌+◌, ◌*◌, ◌<◌, ◌≤◌, true, false, T, ◌≢◌, ◌↔◌, List, map, pos, Float}
use Rattle.std.specs.Float.{binary64}
use Rattle.std.specs.Float.Ieee.{fits, mul, le, of_int}
use Rattle.std.specs.Float.Ieee.Exact.{HasValue}
use Rattle.laws.specs.Define.{sum}
use Rattle.laws.specs.Every.{All}
use Rattle.throughput.specs.declared.Throughput.{Throughput}
use Rattle.throughput.specs.declared.FedValues.{FedValues}
use Rattle.throughput.specs.Rate.{per_window, rate_of}
use Rattle.throughput.specs.Window.{zero64, record_sound, opened, lower, higher, feed_values}
use Rattle.throughput.specs.Lists.{zero_throughput, feed_all, closed_rates_of, counted, windows, open_rounds_of, open_deliveries_of, record_after}

-- "The rate times 256 is the deliveries exactly, and lies between 0 and 1,024": x is an f64 and n its whole number of deliveries
pub record IsRate (x : Float) (n : ℕ) : Type 0 where
  -- by scaled whole numbers: x is finite and without a sign, and m × up e × 256 = n × down e
  pub exact : HasValue x false n 256
  -- by f64's own product with 256
  pub product : mul binary64 x per_window ≡ of_int binary64 (pos n)
  pub most : n ≤ 1024

-- three values that memory can hold: each is an f64
abbrev pub AreBinary64 : Throughput → Type 0
AreBinary64 t = T (fits binary64 t.last) × T (fits binary64 t.least) × T (fits binary64 t.greatest)

-- what a sound record is: 30 refuses nothing else
pub record SoundRecord (t : Throughput) : Type 0 where
  pub open_rounds : t.rounds < 256
  pub open_deliveries : t.deliveries ≤ 4 * t.rounds
  pub last : (n : ℕ) × IsRate t.last n
  pub least : (n : ℕ) × IsRate t.least n
  pub greatest : (n : ℕ) × IsRate t.greatest n
  pub least_last : le t.least t.last ≡ true
  pub last_greatest : le t.last t.greatest ≡ true
  pub before : t.closed ≡ 0 → (t.last ≡ zero64) × (t.least ≡ zero64) × (t.greatest ≡ zero64)

abbrev pub SoundIs : Type 0
SoundIs = (t : Throughput) → AreBinary64 t → record_sound t ≡ true ↔ SoundRecord t

-- an open round's answer a: "that the window is still open and how many rounds it has"
pub record Opens (t : Throughput) (n : ℕ) (a : FedValues) : Type 0 where
  pub accepted : a.refusal ≡ 0
  pub kind : a.kind ≡ 1
  pub rounds : a.rounds ≡ t.rounds + 1
  pub most : a.rounds ≤ 255
  pub after : a.throughput ≡ opened t n

-- a closing round's answer a: "its rate as an f64"
pub record Closes (t : Throughput) (n : ℕ) (a : FedValues) : Type 0 where
  pub accepted : a.refusal ≡ 0
  pub kind : a.kind ≡ 2
  pub rate : IsRate a.rate (t.deliveries + n)
  pub last : a.throughput.last ≡ a.rate
  pub first : t.closed ≡ 0 → (a.throughput.least ≡ a.rate) × (a.throughput.greatest ≡ a.rate)
  pub later : t.closed ≢ 0 → (a.throughput.least ≡ lower t.least a.rate) × (a.throughput.greatest ≡ higher t.greatest a.rate)
  pub emptied : (a.throughput.rounds ≡ 0) × (a.throughput.deliveries ≡ 0)
  pub closed : a.throughput.closed ≡ 1

-- one feed of count n to any record t
pub record FeedPromises (t : Throughput) (n : ℕ) : Type 0 where
  pub unsound : record_sound t ≡ false → ((feed_values t n).refusal ≡ 30) × ((feed_values t n).kind ≡ 0)
  pub above : record_sound t ≡ true → 4 < n → ((feed_values t n).refusal ≡ 41) × ((feed_values t n).kind ≡ 0)
  -- "A refusal gives the record back unchanged"
  pub unchanged : (feed_values t n).refusal ≢ 0 → ((feed_values t n).throughput ≡ t) × ((feed_values t n).rate ≡ zero64) × ((feed_values t n).rounds ≡ 0)
  pub opens : record_sound t ≡ true → n ≤ 4 → t.rounds < 255 → Opens t n (feed_values t n)
  pub closes : record_sound t ≡ true → n ≤ 4 → t.rounds ≡ 255 → Closes t n (feed_values t n)
  pub sound : AreBinary64 t → record_sound t ≡ true → AreBinary64 (feed_values t n).throughput × (record_sound (feed_values t n).throughput ≡ true)

abbrev pub FeedIs : Type 0
FeedIs = (t : Throughput) (n : ℕ) → FeedPromises t n

-- a refused count in a list changes nothing, whatever record the list begins with
abbrev pub RefusedNothing : Type 0
RefusedNothing = (t : Throughput) (l : List ℕ) → (feed_all t l ≡ feed_all t (counted l)) × (closed_rates_of t l ≡ closed_rates_of t (counted l))

-- any list of counts l, fed to the all-zero record
pub record ListPromises (l : List ℕ) : Type 0 where
  pub after : feed_all zero_throughput l ≡ record_after (windows (counted l)) (open_rounds_of (counted l)) (open_deliveries_of (counted l))
  pub sound : SoundRecord (feed_all zero_throughput l)
  -- the k-th closed rate is that of the k-th window
  pub closed_rates : closed_rates_of zero_throughput l ≡ map rate_of (windows (counted l))
  pub rates : All (λ w. IsRate (rate_of w) w) (windows (counted l))
  -- nothing is lost: the closed windows and the open one have all that was counted
  pub total : sum (windows (counted l)) + open_deliveries_of (counted l) ≡ sum (counted l)

abbrev pub Feeds : Type 0
Feeds = (l : List ℕ) → ListPromises l
