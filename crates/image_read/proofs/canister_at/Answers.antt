use Rattle.image_read.proofs.Reading.{canister_code}
use Rattle.image_read.proofs.canister_at.Goals as goal

pub returns : goal.returns
returns c = rw (canister_code, c.read_at.ensures, c.read_at-2.ensures, c.read_at-3.ensures)
