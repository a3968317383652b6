-- The lengths of arrays, from holding the value.
use mathlib.Core.Path.{◌≡◌}
use mathlib.Core.List.{List}
use lib.ListN.{length}
use mir.Val.{Val}
use denote.Laws.{Is}
use denote.Struct.Declared.{row}
use Rattle.floor.specs.declared.Floor.{Floor}
use Rattle.floor.specs.declared.Counters.{Counters}
use Rattle.floor.specs.contracts.Floor.{the_type}
use Rattle.floor.specs.contracts.Counters.{the_type as counters-type}

pub tiles_length : (f : Floor) (vs : List Val) → Is (row the_type) f vs → length f.tiles ≡ 64
tiles_length f vs p = p.1.1.1.1.0.1.0.1

pub canisters_length : (f : Floor) (vs : List Val) → Is (row the_type) f vs → length f.canisters ≡ 1024
canisters_length f vs p = p.1.1.1.1.1.0.1.0.1

pub layouts_length : (f : Floor) (vs : List Val) → Is (row the_type) f vs → length f.layouts ≡ 8
layouts_length f vs p = p.1.1.1.1.1.1.0.1.0.1

pub delivered_length : (c : Counters) (vs : List Val) → Is (row counters-type) c vs → length c.delivered ≡ 4
delivered_length c vs p = p.1.1.1.1.0.1.0.1
