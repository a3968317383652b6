use mathlib.Core.Path.{refl}
use native.Mathlib.Omega.{arith}
use Rattle.floor.specs.Well.{inside}
use Rattle.check_places.specs.InternalPlace.{member_sound}
use Rattle.check_places.proofs.member_ok.Goals as goal

pub overflow_sub-span : goal.overflow_sub-span
overflow_sub-span c = omega (arith, c.requires)

pub returns : goal.returns
unfolding member_sound inside
returns c = refl
