use Rattle.std.proofs.Common.{◌∙◌}
use Rattle.image_bytes.proofs.PutLaws.{put_part}
use Rattle.image_bytes.proofs.U16LittleEndian.put_at.Goals as goal

pub returns : goal.returns
returns c = let g = c.args in put_part g.s.now g.at 2 g.self _ (c.copy_from_slice.ensures.after ∙ c.to_le_bytes.ensures)
