-- A tile's way, as the code tells it.
use mathlib.Core.Path.{◌≡◌}
use mathlib.Core.Bool.{Bool, true, false}
use lib.Dec.{eqb}
use Prim.Native.Nat.{ℕ}
use Rattle.floor.specs.Sides.{opposite}
use Rattle.floor.specs.Move.{way_of}

-- b: whether the arrow faces the grant
module _ (next ahead facing : ℕ) (o : facing ≡ opposite ahead) {b : Bool} (t : b ≡ eqb next facing) where
  pub goes : b ≡ true → next ≡ way_of next ahead
  unfolding way_of
  goes e = rw (← o, ← t, e)

  -- another arrow
  pub stays : b ≡ false → 0 ≡ way_of next ahead
  unfolding way_of
  stays e = rw (← o, ← t, e)
