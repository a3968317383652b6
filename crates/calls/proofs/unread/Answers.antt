use mathlib.Core.Path.{refl}
use Rattle.calls.specs.InternalRefused.{unread_with}
use Rattle.calls.proofs.unread.Goals as goal

pub returns : goal.returns
unfolding unread_with
returns c = rw c.from.ensures refl
