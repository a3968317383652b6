-- Four records fed from four deliveries, as the code reads them: at a place that isn't there it would read other values.
use mathlib.Core.Path.{◌≡◌, refl}
use mathlib.Core.List.{List, [], ◌∷◌}
use Prim.Native.Nat.{ℕ}
use native.Mathlib.Omega.{arith}
use lib.Dec.{eqb}
use lib.Ieee.{nan}
use lib.ListN.{length, get_or}
use Rattle.laws.specs.Define.{tab}
use Rattle.floor.specs.declared.Delivery.{Delivery}
use Rattle.throughput.specs.declared.Throughput.{Throughput}
use Rattle.throughput.specs.declared.FedValues.{FedValues}
use Rattle.throughput.specs.Window.{feed_values}
use Rattle.console_throughput.specs.declared.Followed.{Followed}
use Rattle.console_throughput.specs.Follow.{fed_at, followed_by}

abbrev pub read_at : List Throughput → List Delivery → ℕ → FedValues
read_at ts ds k = feed_values (get_or ts k (record { last = nan; least = nan; greatest = nan; rounds = 0; deliveries = 0; closed = 0 })) (get_or ds k (record { numbers = []; count = 0 })).count

abbrev pub Fed : List Throughput → List Delivery → Followed
Fed ts ds = record { records = (read_at ts ds 0).throughput ∷ (read_at ts ds 1).throughput ∷ (read_at ts ds 2).throughput ∷ (read_at ts ds 3).throughput ∷ []; closed = eqb (read_at ts ds 0).kind 2 }

pub fed_four : (ts : List Throughput) (ds : List Delivery) → length ts ≡ 4 → length ds ≡ 4 → Fed ts ds ≡ followed_by ts ds
unfolding followed_by fed_at tab
fed_four [] ds p q = absurd (omega arith)
fed_four (t ∷ []) ds p q = absurd (omega arith)
fed_four (t ∷ u ∷ []) ds p q = absurd (omega arith)
fed_four (t ∷ u ∷ v ∷ []) ds p q = absurd (omega arith)
fed_four (t ∷ u ∷ v ∷ w ∷ x ∷ ts) ds p q = absurd (omega arith)
fed_four (t ∷ u ∷ v ∷ w ∷ []) [] p q = absurd (omega arith)
fed_four (t ∷ u ∷ v ∷ w ∷ []) (a ∷ []) p q = absurd (omega arith)
fed_four (t ∷ u ∷ v ∷ w ∷ []) (a ∷ b ∷ []) p q = absurd (omega arith)
fed_four (t ∷ u ∷ v ∷ w ∷ []) (a ∷ b ∷ c ∷ []) p q = absurd (omega arith)
fed_four (t ∷ u ∷ v ∷ w ∷ []) (a ∷ b ∷ c ∷ d ∷ []) p q = refl
fed_four (t ∷ u ∷ v ∷ w ∷ []) (a ∷ b ∷ c ∷ d ∷ e ∷ ds) p q = absurd (omega arith)
