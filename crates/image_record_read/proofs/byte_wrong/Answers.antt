use Rattle.image.specs.Image.{lowest}
use Rattle.image_record_read.proofs.byte_wrong.Goals as goal

pub returns : goal.returns
unfolding lowest
returns c = rw c.lowest-low.ensures
