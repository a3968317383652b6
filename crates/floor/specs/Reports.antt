-- What is promised of every round's report. The theorem is `reports` of proofs/Reports.
use Rattle.std.specs.Prelude.{◌≡◌, true, List, ℕ, ◌-◌, ◌≤◌, ◌<◌, length, get_or, take, drop, replicate}
use Rattle.laws.specs.Every.{All, Pairs}
use Rattle.floor.specs.declared.Delivery.{Delivery}
use Rattle.floor.specs.declared.Floor.{Floor}
use Rattle.floor.specs.declared.Report.{Report}
use Rattle.floor.specs.Settings.{hoppers_of}
use Rattle.floor.specs.Well.{well_formed}
use Rattle.floor.specs.Calls.{no_delivery, round_answer}

-- one hopper's numbers: the first `count` of its four
abbrev pub listed : Delivery → List ℕ
listed d = take d.count d.numbers

-- those for hopper k, the hoppers in tile order from 0 on
unfoldable pub listed_at : Report → ℕ → List ℕ
listed_at r k = listed (get_or r.deliveries k no_delivery)

-- "the delivered numbers, rising; never more than four"; zeros after them, and no number is 0
pub record Listing (d : Delivery) : Type 0 where
  pub few : d.count ≤ 4
  pub rising : Pairs (λ x y. x < y) (listed d)
  pub none_zero : All (λ n. 0 < n) (listed d)
  pub zeros : drop d.count d.numbers ≡ replicate (4 - d.count) 0

-- "Deliveries are listed for each hopper, at most four apiece"; zeros beyond the last hopper
pub record Lists (hoppers : ℕ) (ds : List Delivery) : Type 0 where
  pub four : length ds ≡ 4
  pub each : (k : ℕ) → Listing (get_or ds k no_delivery)
  pub beyond : (k : ℕ) → hoppers ≤ k → get_or ds k no_delivery ≡ no_delivery

abbrev pub Reports : Type 0
Reports = (f : Floor) → well_formed f ≡ true → Lists (length (hoppers_of f.settings)) (round_answer f).report.deliveries
