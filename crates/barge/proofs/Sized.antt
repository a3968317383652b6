-- A barge has four floors, from holding the value.
use mathlib.Core.Path.{◌≡◌, sym, ◌∙◌}
use mathlib.Core.List.{List}
use lib.ListN.{length, length-map}
use mir.Val.{Val}
use denote.Laws.{Is}
use denote.Struct.Declared.{row}
use Rattle.floor.specs.contracts.Floor.{the_field as floor-field}
use Rattle.barge.specs.declared.Barge.{Barge}
use Rattle.barge.specs.contracts.Barge.{the_type}

pub floors_length : (b : Barge) (vs : List Val) → Is (row the_type) b vs → length b.floors ≡ 4
floors_length b vs p = p.1.1.0.1.0.1
