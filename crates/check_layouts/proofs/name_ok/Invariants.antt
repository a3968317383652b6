use mathlib.Core.Path.{◌≡◌}
use lib.Dec.{eqb}
use Rattle.laws.specs.Define.{all_of}
use Rattle.floor.specs.Layouts.{letters, spelled}
use Rattle.check_layouts.proofs.name_ok.Given as goal

abbrev pub invariant-loop-x : goal.invariant-loop-x
invariant-loop-x l = (l.spelled ≡ spelled (letters l.x-index l.n)) × (l.zeros ≡ all_of (λ y. eqb y 0) (letters l.x-index l.n))
