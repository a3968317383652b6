-- The theorem `joined` on the floor `eight` of Several, W 4 with hoppers 0 and 3, for its second hopper; every promise by its name.
use mathlib.Core.Path.{◌≡◌, refl, ap, ◌∙◌}
use mathlib.Core.Bool.{true}
use mathlib.Core.List.{List, [], ◌∷◌}
use Prim.Native.Nat.{ℕ, ◌/◌, ◌%◌, ◌≤◌}
use native.Mathlib.Omega.{arith}
use lib.ListN.{length, get_or, length-map}
use Rattle.laws.specs.Define.{sum, tab}
use Rattle.laws.specs.Every.{All}
use Rattle.laws.proofs.Tables.{tab_length}
use Rattle.floor.specs.declared.Floor.{Floor}
use Rattle.floor.specs.Well.{well_formed}
use Rattle.floor.specs.Demand3.{Call, book, stop, round, InRange, outcome, floor_after}
use Rattle.floor.proofs.Calling.{can, holds}
use Rattle.floor.proofs.Lists.{list_keeps}
use Rattle.floor.proofs.Instances.{rounds, in_range_rounds}
use Rattle.throughput.specs.declared.Throughput.{Throughput}
use Rattle.throughput.specs.Rate.{rate_of}
use Rattle.throughput.specs.Window.{zero64}
use Rattle.throughput.specs.Lists.{zero_throughput, feed_all, closed_rates_of, windows, open_rounds_of, open_deliveries_of, record_after}
use Rattle.throughput_floor.specs.Rounds.{count_of, counts_in, Follows}
use Rattle.throughput_floor.proofs.Joined.{joined}
use Rattle.throughput_floor.proofs.Several.{ends, eight}

-- ---- two rounds, a refused stop (8) before them and a booking between them: four are delivered to hopper 3, then one
unfoldable calls : List Call
calls = stop 0 ∷ round ∷ book 2 (can 9 79 0) ∷ round ∷ []

eight_well : well_formed eight ≡ true
unfolding holds eight ends
eight_well = refl

calls_in_range : All InRange calls
unfolding calls can
calls_in_range = (tt, (tt, (omega arith, (tt, tt))))

calls_counts : counts_in eight calls 1 ≡ 4 ∷ 1 ∷ []
unfolding holds eight ends calls outcome count_of counts_in
calls_counts = refl

abbrev follows : Follows eight calls 1
follows = joined eight eight_well calls calls_in_range 1

eight_counts : follows.counts ≡ 4 ∷ 1 ∷ []
eight_counts = follows.are_counts ∙ calls_counts

eight_rounds : length follows.counts ≡ 2
unfolding calls
eight_rounds = follows.rounds

eight_few : All (λ n. n ≤ 4) (4 ∷ 1 ∷ [])
eight_few = rw eight_counts at follows.few

eight_after : feed_all zero_throughput (4 ∷ 1 ∷ []) ≡ record { last = zero64; least = zero64; greatest = zero64; rounds = 2; deliveries = 5; closed = 0 }
unfolding windows open_rounds_of open_deliveries_of record_after tab sum
eight_after = rw eight_counts at follows.after

eight_rates : closed_rates_of zero_throughput (4 ∷ 1 ∷ []) ≡ []
unfolding windows tab
eight_rates = rw eight_counts at follows.closed_rates

eight_before : get_or eight.counters.delivered 1 0 ≡ 0
unfolding holds eight ends
eight_before = refl

eight_rose : get_or (floor_after eight calls).counters.delivered 1 0 ≡ 5
unfolding windows open_deliveries_of tab sum
eight_rose = rw (eight_counts, eight_before) at follows.rose

-- ---- a round more, from the floor that this leaves: its counter is 5 already
abbrev later : Floor
later = floor_after eight calls

unfoldable further : List Call
further = book 2 (can 10 79 0) ∷ round ∷ []

further_in_range : All InRange further
unfolding further can
further_in_range = (omega arith, (tt, tt))

further_counts : counts_in later further 1 ≡ 1 ∷ []
unfolding holds eight ends calls further outcome floor_after count_of counts_in
further_counts = refl

later_rose : get_or (floor_after later further).counters.delivered 1 0 ≡ 6
unfolding windows open_deliveries_of tab sum
later_rose =
    let F = joined later (list_keeps eight eight_well calls calls_in_range).0 further further_in_range 1 in
    rw (F.are_counts, further_counts, eight_rose) at F.rose

-- ---- 256 rounds: one rate is told, and the open window is empty
abbrev window : Follows eight (rounds 256) 1
window = joined eight eight_well (rounds 256) (in_range_rounds 256) 1

one_rate : length (closed_rates_of zero_throughput window.counts) ≡ 1
unfolding windows
one_rate =
    ap length window.closed_rates ∙ length-map (windows window.counts) rate_of
    ∙ tab_length (length window.counts / 256) (λ k. sum _) ∙ ap (λ (n : ℕ). n / 256) window.rounds

rounds_after : (ws : List ℕ) (k s : ℕ) → (record_after ws k s).rounds ≡ k
unfolding record_after
rounds_after [] k s = refl
rounds_after (w ∷ ws) k s = refl

none_open : (feed_all zero_throughput window.counts).rounds ≡ 0
unfolding open_rounds_of
none_open =
    ap (λ (t : Throughput). t.rounds) window.after ∙ rounds_after (windows window.counts) (open_rounds_of window.counts) (open_deliveries_of window.counts)
    ∙ ap (λ (n : ℕ). n % 256) window.rounds
