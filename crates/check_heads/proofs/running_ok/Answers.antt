use mathlib.Core.Path.{◌≡◌}
use mathlib.Core.Bool.{not}
use Prim.Native.Nat.{ℕ}
use native.Mathlib.Omega.{arith}
use Rattle.std.proofs.lemmas.Bool.Decides.{nat_tests}
use lib.Dec.{eqb, ltb}
use Rattle.floor.specs.Well.{running_sound}
use Rattle.check_heads.proofs.running_ok.Goals as goal

some : (n : ℕ) → not (eqb n 0) ≡ ltb 0 n
some n = grind (arith, nat_tests)

pub returns : goal.returns
unfolding running_sound
returns c = rw (c.eq.ensures, c.ne.ensures, some c.args.h.next.code, c.from.ensures, c.tile_count.ensures)
