use Prim.Native.Nat.{◌≤◌, ◌<◌}
use lib.ListN.{take}
use Rattle.laws.specs.Every.{All}
use Rattle.book_search.proofs.Search.{Ahead}
use Rattle.book_search.proofs.next_b.Given as goal

abbrev pub invariant-loop-c : goal.invariant-loop-c
invariant-loop-c l = (l.b < l.next) × (l.next ≤ l.initial.next) × All (Ahead l.d l.b l.next) (take l.c-index l.own)
