-- With several hoppers a record follows one of them: what all take in a round may pass 4, and is 41.
use mathlib.Core.Path.{◌≡◌, refl}
use mathlib.Core.Bool.{true}
use mathlib.Core.List.{[], ◌∷◌, map}
use Rattle.laws.specs.Define.{sum}
use Rattle.floor.specs.declared.Delivery.{Delivery}
use Rattle.floor.specs.declared.Floor.{Floor}
use Rattle.floor.specs.declared.Settings.{Settings}
use Rattle.floor.specs.Calls.{fresh_answer, round_answer}
use Rattle.floor.proofs.Calling.{got, book, Table, holds}
use Rattle.throughput.specs.Lists.{zero_throughput}
use Rattle.throughput.proofs.Cases.{fed}
use Rattle.throughput_floor.specs.Rounds.{count_at}

-- W 4, hoppers 0 and 3; l 21 and r 0, so that four stand along each border
unfoldable pub ends : Settings
ends = record { columns = 4; rows = 1; hoppers = 9; sources = 6; width = 100; length = 21; gap = 0; travel = 10 }

-- four at the west border of tile 1, four at the east border of tile 2
unfoldable pub eight : Floor
eight =
    book 8 79 78 2 (book 7 79 52 2 (book 6 79 26 2 (book 5 79 0 2 (book 4 0 78 1 (book 3 0 52 1 (book 2 0 26 1 (book 1 0 0 1 (got (fresh_answer ends)))))))))

-- what each hopper takes in a round; what a record is told for one of them, and for both together
unfoldable several_cases_lem : Table
several_cases_lem =
    let r = (round_answer eight).report in
    (count_at r 0 ∷ count_at r 1 ∷ count_at r 2 ∷ [], 4 ∷ 4 ∷ 0 ∷ [])
    ∷ (fed zero_throughput (count_at r 0), 0 ∷ 1 ∷ 1 ∷ 0 ∷ 0 ∷ 0 ∷ 0 ∷ 1 ∷ 4 ∷ 0 ∷ [])
    ∷ (fed zero_throughput (sum (map (λ (d : Delivery). d.count) r.deliveries)), 41 ∷ 0 ∷ 0 ∷ 0 ∷ 0 ∷ 0 ∷ 0 ∷ 0 ∷ 0 ∷ 0 ∷ [])
    ∷ []

several_cases : holds several_cases_lem ≡ true
unfolding holds several_cases_lem eight ends fed zero_throughput
several_cases = refl
