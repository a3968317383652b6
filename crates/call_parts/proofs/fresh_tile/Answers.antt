use mathlib.Core.Path.{refl, sym, ◌∙◌}
use Rattle.floor.specs.Settings.{is_hopper}
use Rattle.floor.specs.Memory.{head}
use Rattle.floor.specs.Calls.{fresh_tile}
use Rattle.call_parts.proofs.fresh_tile.Goals as goal
use Rattle.call_parts.proofs.fresh_tile.Goals.{then-holds, else-holds}

pub returns : goal.returns
unfolding is_hopper head fresh_tile
returns c = elim c.if-holds.branch [
  | then-holds w ↦ rw (w.distance-is, sym c.holds.ensures ∙ w.if-holds.true) refl
  | else-holds w ↦ rw (w.distance-is, sym c.holds.ensures ∙ w.if-holds.false) refl
]
