use mathlib.Core.Path.{◌≡◌}
use lib.ListN.{length, take}
use Rattle.floor.specs.Model.{numbers}
use Rattle.check_floor.proofs.list_numbers.Given as goal

abbrev pub invariant-loop-k : goal.invariant-loop-k
invariant-loop-k l = (length l.keys ≡ 1024) × (take l.k l.keys ≡ take l.k (numbers l.canisters))
