use mathlib.Core.Path.{◌∙◌}
use Rattle.image_bytes.proofs.PutLaws.{put_list}
use Rattle.image.proofs.Layouts.{letters_length}
use Rattle.image_record_write.proofs.RecordBytes.{letters_std}
use Rattle.image_record_write.proofs.put_name.Goals as goal

pub returns : goal.returns
returns c = let g = c.args in put_list g.s.now g.at 8 _ _ (c.copy_from_slice.ensures.after ∙ c.to_be_bytes.ensures ∙ letters_std g.x) (letters_length 8 g.x)
