use native.Mathlib.Omega.{arith}
use Rattle.image_bytes.specs.Bytes.{bytes}
use Rattle.image_bytes.proofs.ByteLaws.{bytes_length}
use Rattle.image_bytes.proofs.PutLaws.{put_two}
use Rattle.image_record_write.proofs.put_pair.Goals as goal

pub returns : goal.returns
returns c =
    let g = c.args in
    put_two g.s.now _ _ g.at _ (bytes 2 g.x) (bytes 2 g.y) (omega (arith, bytes_length 2 g.x, bytes_length 2 g.y)) (omega (arith, bytes_length 2 g.x))
    c.put_at.ensures c.put_at-2.ensures
