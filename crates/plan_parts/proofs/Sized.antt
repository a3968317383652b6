-- The lengths of a report's arrays, from holding the value.
use mathlib.Core.Path.{◌≡◌}
use mathlib.Core.List.{List}
use lib.ListN.{length}
use mir.Val.{Val}
use denote.Laws.{Is}
use denote.Struct.Declared.{row}
use Rattle.floor.specs.declared.Delivery.{Delivery}
use Rattle.floor.specs.declared.Report.{Report}
use Rattle.floor.specs.contracts.Delivery.{the_type as delivery-type}
use Rattle.floor.specs.contracts.Report.{the_type as report-type}

pub numbers_length : (d : Delivery) (vs : List Val) → Is (row delivery-type) d vs → length d.numbers ≡ 4
numbers_length d vs h = h.1.1.0.1.0.1

pub deliveries_length : (r : Report) (vs : List Val) → Is (row report-type) r vs → length r.deliveries ≡ 4
deliveries_length r vs h = h.1.1.1.1.1.0.1.0.1
