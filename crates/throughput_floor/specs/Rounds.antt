-- Document 02's [2] and [10]: "The throughput record follows one hopper." What a list of calls hands to such a record. The theorem is `joined` of proofs/Joined.
use Rattle.std.specs.Prelude.{◌≡◌, true, List, [], ◌∷◌, ◌++◌, map, ℕ, ◌+◌, ◌≤◌, length, get_or}
use Rattle.laws.specs.Define.{sum}
use Rattle.laws.specs.Every.{All}
use Rattle.floor.specs.declared.Floor.{Floor}
use Rattle.floor.specs.declared.Report.{Report}
use Rattle.floor.specs.Well.{well_formed}
use Rattle.floor.specs.Calls.{no_delivery, round_answer}
use Rattle.floor.specs.Demand3.{Call, book, anywhere, stop, repair, round, keep, forget, recall, list, InRange, outcome, floor_after, rounds_in}
use Rattle.throughput.specs.Rate.{rate_of}
use Rattle.throughput.specs.Lists.{zero_throughput, feed_all, closed_rates_of, windows, open_rounds_of, open_deliveries_of, record_after}

-- a report's delivered count for hopper k, the hoppers in tile order from 0 on
abbrev pub count_at : Report → ℕ → ℕ
count_at r k = (get_or r.deliveries k no_delivery).count

-- "each round's delivered count"; no other call has one
unfoldable pub count_of : Floor → Call → ℕ → List ℕ
count_of f (book t c) k = []
count_of f (anywhere t number) k = []
count_of f (stop t) k = []
count_of f (repair t) k = []
count_of f round k = count_at (round_answer f).report k ∷ []
count_of f (keep name) k = []
count_of f (forget name) k = []
count_of f (recall name) k = []
count_of f (list l) k = []

unfoldable pub counts_in : Floor → List Call → ℕ → List ℕ
counts_in f [] k = []
counts_in f (c ∷ cs) k = count_of f c k ++ counts_in (outcome f c).floor cs k

-- the list cs from floor f, and the all-zero record fed hopper k's counts
pub record Follows (f : Floor) (cs : List Call) (k : ℕ) : Type 0 where
  pub counts : List ℕ
  pub are_counts : counts ≡ counts_in f cs k
  -- one for each round, and none is refused
  pub rounds : length counts ≡ rounds_in cs
  pub few : All (λ n. n ≤ 4) counts
  pub after : feed_all zero_throughput counts ≡ record_after (windows counts) (open_rounds_of counts) (open_deliveries_of counts)
  pub closed_rates : closed_rates_of zero_throughput counts ≡ map rate_of (windows counts)
  -- the closed windows and the open one have what the hopper's delivered counter rose by
  pub rose : get_or (floor_after f cs).counters.delivered k 0 ≡ get_or f.counters.delivered k 0 + (sum (windows counts) + open_deliveries_of counts)

abbrev pub Joined : Type 0
Joined = (f : Floor) → well_formed f ≡ true → (cs : List Call) → All InRange cs → (k : ℕ) → Follows f cs k
