use mathlib.Core.Path.{◌≡◌}
use Rattle.floor.specs.Well.{well_formed}
use Rattle.book_list.proofs.Upto.{floor_upto, list_upto}
use Rattle.book_list.proofs.book_list.Given as goal

-- the entries so far are booked and answered
abbrev pub invariant-loop-entry : goal.invariant-loop-entry
invariant-loop-entry l = (l.list ≡ list_upto l.entry-index l.fn.floor l.fn.list) × (l.current ≡ floor_upto l.entry-index l.fn.floor l.fn.list) × (l.well ≡ well_formed l.current)
