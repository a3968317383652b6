-- The lengths of a plan's arrays, from holding the value.
use mathlib.Core.Path.{◌≡◌}
use mathlib.Core.List.{List}
use lib.ListN.{length}
use mir.Val.{Val}
use denote.Laws.{Is}
use denote.Struct.Declared.{row}
use Rattle.plan.specs.declared.Plan.{Plan}
use Rattle.plan.specs.contracts.Plan.{the_type}
use Rattle.plan_check.specs.declared.Labels.{Labels}
use Rattle.plan_check.specs.contracts.Labels.{the_type as labels-type}

pub entries_length : (p : Plan) (vs : List Val) → Is (row the_type) p vs → length p.entries ≡ 64
entries_length p vs h = h.1.1.0.1.0.1

pub present_length : (l : Labels) (vs : List Val) → Is (row labels-type) l vs → length l.present ≡ 256
present_length l vs h = h.1.1.0.1.0.1
