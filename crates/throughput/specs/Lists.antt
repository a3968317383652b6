-- Document 02's [2] over whole lists of counts. Definitions only; the theorem's statement is `Feeds` of specs/Feeds.
use Rattle.std.specs.Prelude.{ℕ, ◌*◌, ◌/◌, ◌%◌, min, max, cond, List, [], ◌∷◌, ◌++◌, length, take, drop, ◌==◌, nat_le, Float}
use Rattle.laws.specs.Define.{tab, filter, sum}
use Rattle.throughput.specs.declared.Throughput.{Throughput}
use Rattle.throughput.specs.declared.FedValues.{FedValues}
use Rattle.throughput.specs.Rate.{rate_of}
use Rattle.throughput.specs.Window.{zero64, feed_values}

-- ---- what the calls do
-- "before that all three are 0"
unfoldable pub zero_throughput : Throughput
zero_throughput = record { last = zero64; least = zero64; greatest = zero64; rounds = 0; deliveries = 0; closed = 0 }

-- the record after the counts, each fed to the record that the one before it left
unfoldable pub feed_all : Throughput → List ℕ → Throughput
feed_all t [] = t
feed_all t (n ∷ l) = feed_all (feed_values t n).throughput l

-- the rate that an answer tells, if it tells one
abbrev pub rate_in : FedValues → List Float
rate_in a = cond (a.kind == 2) (a.rate ∷ []) []

-- the closed rates, in order
unfoldable pub closed_rates_of : Throughput → List ℕ → List Float
closed_rates_of t [] = []
closed_rates_of t (n ∷ l) = rate_in (feed_values t n) ++ closed_rates_of (feed_values t n).throughput l

-- ---- what they should do
-- the counts that are not refused
unfoldable pub counted : List ℕ → List ℕ
counted l = filter (λ n. nat_le n 4) l

-- "windows of 256 rounds": the deliveries of each full window of the counts l, in order
unfoldable pub windows : List ℕ → List ℕ
windows l = tab (length l / 256) (λ k. sum (take 256 (drop (256 * k) l)))

-- the rounds and the deliveries of the window left open
unfoldable pub open_rounds_of : List ℕ → ℕ
open_rounds_of l = length l % 256

unfoldable pub open_deliveries_of : List ℕ → ℕ
open_deliveries_of l = sum (drop (256 * (length l / 256)) l)

-- of x and the numbers after it: the last, the least and the greatest
unfoldable pub last_of : ℕ → List ℕ → ℕ
last_of x [] = x
last_of x (w ∷ ws) = last_of w ws

unfoldable pub least_of : ℕ → List ℕ → ℕ
least_of x [] = x
least_of x (w ∷ ws) = least_of (min x w) ws

unfoldable pub greatest_of : ℕ → List ℕ → ℕ
greatest_of x [] = x
greatest_of x (w ∷ ws) = greatest_of (max x w) ws

-- the record of closed windows with these last, least and greatest deliveries, and an open one of k rounds with s
abbrev pub closed_record : ℕ → ℕ → ℕ → ℕ → ℕ → Throughput
closed_record z a g k s = record { last = rate_of z; least = rate_of a; greatest = rate_of g; rounds = k; deliveries = s; closed = 1 }

-- the record that the closed windows ws and an open one make; "before that all three are 0"
unfoldable pub record_after : List ℕ → ℕ → ℕ → Throughput
record_after [] k s = record { last = zero64; least = zero64; greatest = zero64; rounds = k; deliveries = s; closed = 0 }
record_after (w ∷ ws) k s = closed_record (last_of w ws) (least_of w ws) (greatest_of w ws) k s
