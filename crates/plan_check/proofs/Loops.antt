-- What holds at the heads of the loops over entries: tested against a table; for their numbers; for the tables of labels.
use mathlib.Core.Path.{◌≡◌}
use mathlib.Core.Bool.{Bool, false}
use mathlib.Core.List.{List}
use Prim.Native.Nat.{ℕ, ◌≤◌}
use lib.ListN.{length, take}
use Rattle.laws.specs.Define.{all_of, pairs_of}
use Rattle.laws.specs.InternalFilled.{Upto}
use Rattle.plan.specs.declared.Entry.{Entry}
use Rattle.plan.specs.Entries.{booked_numbers, present, done}
use Rattle.plan_check.proofs.Tables.{unlike}

pub record Tested (entries : List Entry) (f : ℕ → Bool) (test : Entry → Bool) (table : List Bool) (ok : Bool) (k : ℕ) : Type 0 where
  pub table_length : length table ≡ 256
  pub tabled : Upto 256 f false table
  pub tested : ok ≡ all_of test (take k entries)

pub record Gathered (entries : List Entry) (items : List ℕ) (m k : ℕ) : Type 0 where
  pub items_length : length items ≡ 64
  pub no_more : m ≤ k
  pub gathered : take m items ≡ booked_numbers (take k entries)

pub record LabelsTabled (entries : List Entry) (table : List Bool) (ok : Bool) (k : ℕ) : Type 0 where
  pub table_length : length table ≡ 256
  pub tabled : Upto 256 (present (take k entries)) false table
  pub differ : ok ≡ pairs_of unlike (take k entries)

pub record DoneTabled (entries : List Entry) (table : List Bool) (k : ℕ) : Type 0 where
  pub table_length : length table ≡ 256
  pub tabled : Upto 256 (done (take k entries)) false table
