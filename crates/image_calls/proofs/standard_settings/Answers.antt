use mathlib.Core.Path.{refl}
use Rattle.image.specs.Image.{standard}
use Rattle.image_calls.proofs.standard_settings.Goals as goal

pub returns : goal.returns
unfolding standard
returns c = refl
