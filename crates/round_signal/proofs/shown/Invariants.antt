use mathlib.Core.Path.{◌≡◌}
use lib.ListN.{length}
use Rattle.round_signal.specs.InternalSignalling.{ShownUpto}
use Rattle.round_signal.proofs.shown.Given as goal

abbrev pub invariant-loop-t : goal.invariant-loop-t
invariant-loop-t l = (length l.d ≡ 65) × ShownUpto l.tiles l.t l.d
