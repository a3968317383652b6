use mathlib.Core.Path.{◌≡◌}
use lib.Dec.{leb}
use lib.ListN.{take}
use Rattle.laws.specs.Define.{all_of}
use Rattle.check_places.proofs.none_below.Given as goal

abbrev pub invariant-loop-x : goal.invariant-loop-x
invariant-loop-x l = l.ok ≡ all_of (λ x. leb l.d x) (take l.x-index l.least)
