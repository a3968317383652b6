-- The records of the hoppers after a round, and whether it closed a window.
use Rattle.std.specs.Prelude.{List, ℕ, eqb, get_or}
use Rattle.laws.specs.Define.{tab}
use Rattle.floor.specs.declared.Delivery.{Delivery}
use Rattle.floor.specs.Calls.{no_delivery}
use Rattle.throughput.specs.declared.Throughput.{Throughput}
use Rattle.throughput.specs.declared.FedValues.{FedValues}
use Rattle.throughput.specs.Window.{feed_values}
use Rattle.throughput.specs.Lists.{zero_throughput}
use Rattle.console_throughput.specs.declared.Followed.{Followed}

-- what feeding record k tells: the count of the hopper with k hoppers before it
unfoldable pub fed_at : List Throughput → List Delivery → ℕ → FedValues
fed_at ts ds k = feed_values (get_or ts k zero_throughput) (get_or ds k no_delivery).count

-- all four fed; closed tells whether the first closed a window: begun and fed together, all four have the same rounds
unfoldable pub followed_by : List Throughput → List Delivery → Followed
followed_by ts ds = record { records = tab 4 (λ k. (fed_at ts ds k).throughput); closed = eqb (fed_at ts ds 0).kind 2 }
