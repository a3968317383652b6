use native.Mathlib.Omega.{arith}
use Rattle.image_bytes.proofs.PutLaws.{put_one, bytes_one}
use Rattle.image_bytes.proofs.U8LittleEndian.put_at.Goals as goal

pub returns : goal.returns
returns c =
    let g = c.args in
    rw (bytes_one g.self (omega arith)) (put_one g.s.now g.at g.self (omega arith))
