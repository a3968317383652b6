use Rattle.check_settings.proofs.Groups.{sizes_are}
use Rattle.check_settings.proofs.sizes_wrong.Goals as goal

pub returns : goal.returns
returns c = rw c.tile_count-all.ensures (sizes_are _)
