-- The numbers of the faults that a record or a count is refused by.
use Rattle.std.specs.Prelude.{ℕ}
use Rattle.throughput.specs.declared.Fault.{Fault}
use Rattle.throughput.specs.declared.Fault.TheVariants.{Unsound, CountTooHigh}

-- the number of each
abbrev pub fault_number : Fault → ℕ
fault_number Unsound = 30
fault_number CountTooHigh = 41
