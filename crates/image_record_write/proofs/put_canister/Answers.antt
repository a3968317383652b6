use native.Mathlib.Omega.{arith}
use Rattle.image_bytes.specs.Bytes.{bytes}
use Rattle.image_bytes.proofs.ByteLaws.{bytes_length}
use Rattle.image_record_write.proofs.RecordBytes.{canister_bytes_lem}
use Rattle.image_bytes.proofs.PutLaws.{put_three}
use Rattle.image_record_write.proofs.put_canister.Goals as goal

pub returns : goal.returns
returns c =
    let g = c.args in
    let n1 = bytes_length 4 g.c.number in
    let n2 = bytes_length 2 g.c.a in
    let n3 = bytes_length 2 g.c.b in
    rw (canister_bytes_lem g.c)
    (put_three g.s.now _ _ _ g.at _ _ (bytes 4 g.c.number) (bytes 2 g.c.a) (bytes 2 g.c.b) (omega arith) (omega arith) (omega arith)
    c.put_at.ensures c.put_at-2.ensures c.put_at-3.ensures)
