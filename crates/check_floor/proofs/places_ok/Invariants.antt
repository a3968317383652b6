use mathlib.Core.Path.{◌≡◌}
use lib.ListN.{take}
use Rattle.laws.specs.Define.{all_of}
use Rattle.check_places.specs.InternalPlace.{member_sound}
use Rattle.check_floor.proofs.places_ok.Given as goal

abbrev pub invariant-loop-c : goal.invariant-loop-c
invariant-loop-c l = l.ok ≡ all_of (member_sound l.s l.last) (take l.c-index (take l.n l.places))
