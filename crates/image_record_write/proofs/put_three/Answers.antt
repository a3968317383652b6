use native.Mathlib.Omega.{arith}
use Rattle.image_bytes.specs.Bytes.{bytes}
use Rattle.image_bytes.proofs.ByteLaws.{bytes_length}
use Rattle.image_bytes.proofs.PutLaws.{put_three}
use Rattle.image_record_write.proofs.put_three.Goals as goal

pub returns : goal.returns
returns c =
    let g = c.args in
    let n1 = bytes_length 1 g.x in
    let n2 = bytes_length 1 g.y in
    let n3 = bytes_length 1 g.z in
    put_three g.s.now _ _ _ g.at _ _ (bytes 1 g.x) (bytes 1 g.y) (bytes 1 g.z) (omega arith) (omega arith) (omega arith)
    c.put_at.ensures c.put_at-2.ensures c.put_at-3.ensures
