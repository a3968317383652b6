use mathlib.Core.List.{◌++◌}
use native.Mathlib.Omega.{arith}
use Rattle.image_bytes.specs.Bytes.{bytes}
use Rattle.image_bytes.proofs.ByteLaws.{bytes_length}
use Rattle.image_record_write.proofs.RecordBytes.{pair_length}
use Rattle.image_bytes.proofs.PutLaws.{put_three}
use Rattle.image_record_write.proofs.put_measures.Goals as goal

pub returns : goal.returns
returns c =
    let g = c.args in
    let n1 = pair_length g.x.width g.x.length in
    let n2 = pair_length g.x.gap g.x.travel in
    let n3 = bytes_length 8 g.x.sources in
    put_three g.s.now _ _ _ g.at _ _ (bytes 2 g.x.width ++ bytes 2 g.x.length) (bytes 2 g.x.gap ++ bytes 2 g.x.travel) (bytes 8 g.x.sources) (omega arith) (omega arith) (omega arith)
    c.put_pair.ensures c.put_pair-2.ensures c.put_at.ensures
