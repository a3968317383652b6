use mathlib.Core.Path.{◌≡◌}
use lib.ListN.{take}
use Rattle.laws.specs.Define.{all_of}
use Rattle.floor.specs.Settings.{spacing}
use Rattle.floor.specs.Well.{apart}
use Rattle.book_tile.proofs.has_room.Given as goal

abbrev pub invariant-loop-other : goal.invariant-loop-other
invariant-loop-other l = l.ok ≡ all_of (apart (spacing l.s) l.c) (take l.other-index l.own)
