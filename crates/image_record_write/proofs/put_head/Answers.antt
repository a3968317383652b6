use mathlib.Core.List.{◌++◌}
use native.Mathlib.Omega.{arith}
use Rattle.image_bytes.proofs.PutLaws.{put_four}
use Rattle.image_bytes.specs.Bytes.{bytes}
use Rattle.image_bytes.proofs.ByteLaws.{bytes_length}
use Rattle.image_record_write.proofs.RecordBytes.{pair_length, measures_length, three_length}
use Rattle.image.specs.Image.{lowest}
use Rattle.image_record_write.specs.InternalParts.{measures_bytes, head_bytes}
use Rattle.image_record_write.proofs.put_head.Goals as goal

pub returns : goal.returns
unfolding head_bytes lowest
returns c =
    let low = c.lowest in
    let g = c.args in
    let n1 = pair_length g.n 1 in
    let n2 = three_length 1 g.x.columns g.x.rows low.result in
    let n3 = bytes_length 1 0 in
    let n4 = measures_length g.x in
    rw (← low.ensures)
    (put_four g.s.now _ _ _ _ g.at _ _ _ (bytes 2 g.n ++ bytes 2 1) (bytes 1 g.x.columns ++ (bytes 1 g.x.rows ++ bytes 1 low.result)) (bytes 1 0) (measures_bytes g.x)
    (omega arith) (omega arith) (omega arith) (omega arith)
    c.put_pair.ensures c.put_three.ensures c.put_at.ensures c.put_measures.ensures)
