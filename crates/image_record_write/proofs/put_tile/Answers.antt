use mathlib.Core.List.{◌++◌}
use Prim.Native.Nat.{◌+◌, ◌*◌}
use native.Mathlib.Omega.{arith}
use Rattle.image_bytes.specs.Bytes.{bytes}
use Rattle.image_record_write.specs.InternalParts.{tile_bytes}
use Rattle.image_record_write.proofs.RecordBytes.{pair_length, three_length}
use Rattle.image_bytes.proofs.PutLaws.{put_three}
use Rattle.image_record_write.proofs.put_tile.Goals as goal

pub returns : goal.returns
unfolding tile_bytes
returns c =
    let g = c.args in
    let n1 = pair_length (6 + 8 * g.h.count) 3 in
    let n2 = three_length 1 g.t g.h.running g.h.distance in
    let n3 = three_length 1 g.h.next.code g.h.token.code g.h.count in
    put_three g.s.now _ _ _ g.at _ _ (bytes 2 (6 + 8 * g.h.count) ++ bytes 2 3) (bytes 1 g.t ++ (bytes 1 g.h.running ++ bytes 1 g.h.distance)) (bytes 1 g.h.next.code ++ (bytes 1 g.h.token.code ++ bytes 1 g.h.count))
    (omega arith) (omega arith) (omega arith) (rw c.from.ensures at c.put_pair.ensures) c.put_three.ensures c.put_three-2.ensures
