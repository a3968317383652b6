-- What holds at the heads of the loops: over the entries, for the lowest ready label and for a label asked for; over the deliveries, for their numbers.
use mathlib.Core.Path.{◌≡◌}
use mathlib.Core.Bool.{Bool, false}
use mathlib.Core.List.{List}
use Prim.Native.Nat.{ℕ, ◌*◌, ◌≤◌}
use lib.ListN.{length, take}
use Rattle.laws.specs.InternalFilled.{Upto}
use Rattle.floor.specs.declared.Delivery.{Delivery}
use Rattle.plan.specs.declared.Entry.{Entry}
use Rattle.plan.specs.Entries.{done}
use Rattle.plan_parts.proofs.Listed.{listed_upto}
use Rattle.plan_parts.proofs.Lowest.{ready_in, Lowest}

pub record LowestSought (entries : List Entry) (table : List Bool) (best k : ℕ) : Type 0 where
  pub table_length : length table ≡ 256
  pub tabled : Upto 256 (done entries) false table
  pub lowest : Lowest entries (take k entries) best

pub record LabelSought (label : ℕ) (entries : List Entry) (table : List Bool) (ready : Bool) (k : ℕ) : Type 0 where
  pub table_length : length table ≡ 256
  pub tabled : Upto 256 (done entries) false table
  pub found : ready ≡ ready_in entries (take k entries) label

pub record NumbersListed (deliveries : List Delivery) (items : List ℕ) (m h : ℕ) : Type 0 where
  pub no_more : m ≤ 4 * h
  pub items_length : length items ≡ 16
  pub listed : take m items ≡ listed_upto h deliveries
