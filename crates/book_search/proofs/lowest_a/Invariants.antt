use Prim.Native.Nat.{◌-◌, ◌≤◌}
use Rattle.floor.specs.Settings.{spacing}
use Rattle.book_search.proofs.Search.{Passed}
use Rattle.book_search.proofs.lowest_a.Given as goal

abbrev pub invariant-loop-c : goal.invariant-loop-c
invariant-loop-c l = (l.a ≤ l.span) × Passed (spacing l.s) l.own l.b l.a

abbrev pub decreases-loop-c : goal.decreases-loop-c
decreases-loop-c l = l.span - l.a
