use mathlib.Core.List.{◌++◌}
use native.Mathlib.Omega.{arith}
use Rattle.image_bytes.specs.Bytes.{bytes}
use Rattle.image_bytes.proofs.ByteLaws.{bytes_length}
use Rattle.image_bytes.proofs.PutLaws.{put_three}
use Rattle.floor.specs.Layouts.{letters}
use Rattle.image.proofs.Layouts.{letters_length}
use Rattle.image_record_write.proofs.RecordBytes.{pair_length, layout_record}
use Rattle.image_record_write.proofs.put_layout.Goals as goal

pub returns : goal.returns
returns c =
    let g = c.args in
    let n1 = pair_length 16 5 in
    let n2 = letters_length 8 g.x.name in
    let n3 = bytes_length 8 g.x.set in
    rw (← layout_record g.x)
    (put_three g.s.now _ _ _ g.at _ _ (bytes 2 16 ++ bytes 2 5) (letters 8 g.x.name) (bytes 8 g.x.set) (omega arith) (omega arith) (omega arith)
    c.put_pair.ensures c.put_name.ensures c.put_at.ensures)
