use Prim.Native.Nat.{◌+◌}
use native.Mathlib.Omega.{arith}
use borrow.Author.Tests.{lt-ltb, le-ltb}
use Rattle.laws.proofs.Tests.{pick_yes, pick_no}
use Rattle.floor.specs.Route as R
use Rattle.round_route.proofs.Heading.onward.Goals as goal
use Rattle.round_route.proofs.Heading.onward.Goals.{else-self-lt-DISTANCE_NONE-via-then-self-lt-DISTANCE_NONE+else-self-all, else-self-lt-DISTANCE_NONE-via-else-self-lt-DISTANCE_NONE}

pub returns-then-self-all : goal.returns-then-self-all
unfolding R.onward
returns-then-self-all c = let g = c.args in pick_yes _ (record { distance = 255; side = 0 }) (lt-ltb ((g.self).distance + 1) g.all c.if-self-all.true)

pub returns : goal.returns
unfolding R.onward
returns c =
    let g = c.args in
    pick_no (record { distance = (g.self).distance + 1; side = (g.self).side.code }) _ (le-ltb ((g.self).distance + 1) g.all
    (elim c.else-self-lt-DISTANCE_NONE.branch [
      | else-self-lt-DISTANCE_NONE-via-then-self-lt-DISTANCE_NONE+else-self-all w ↦ omega arith
      | else-self-lt-DISTANCE_NONE-via-else-self-lt-DISTANCE_NONE w ↦ omega arith
    ]))
