use Prim.Native.Nat.{suc, ◌-◌, ◌≤◌}
use Rattle.floor.specs.Settings.{spacing, span}
use Rattle.book_search.proofs.Search.{Bare}
use Rattle.book_search.proofs.find_place.Given as goal

abbrev pub invariant-loop-b : goal.invariant-loop-b
invariant-loop-b l = (l.b ≤ suc (span l.s)) × Bare (spacing l.s) (suc (span l.s)) l.own l.b

abbrev pub decreases-loop-b : goal.decreases-loop-b
decreases-loop-b l = suc (span l.s) - l.b
