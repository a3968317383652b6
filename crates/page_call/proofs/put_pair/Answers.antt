use native.Mathlib.Omega.{arith}
use lib.ListN.{length-set}
use Rattle.page_call.proofs.Pieces.{put_pair_is}
use Rattle.page_call.proofs.put_pair.Goals as goal

pub bounds-s-at-2 : goal.bounds-s-at-2
bounds-s-at-2 c = rw length-set (omega arith)

pub returns : goal.returns
returns c = put_pair_is _ _ _ _ (omega arith)
