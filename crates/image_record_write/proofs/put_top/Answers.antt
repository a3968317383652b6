use mathlib.Core.List.{◌++◌}
use native.Mathlib.Omega.{arith}
use Rattle.image_bytes.specs.Bytes.{bytes}
use Rattle.image_bytes.proofs.ByteLaws.{bytes_length}
use Rattle.image_bytes.proofs.PutLaws.{put_three}
use Rattle.image_record_write.proofs.RecordBytes.{pair_length}
use Rattle.image_record_write.proofs.put_top.Goals as goal

pub returns : goal.returns
returns c =
    let g = c.args in
    let n1 = pair_length g.n 2 in
    let n2 = bytes_length 4 g.x in
    let n3 = bytes_length 4 g.y in
    put_three g.s.now _ _ _ g.at _ _ (bytes 2 g.n ++ bytes 2 2) (bytes 4 g.x) (bytes 4 g.y) (omega arith) (omega arith) (omega arith)
    c.put_pair.ensures c.put_at.ensures c.put_at-2.ensures
