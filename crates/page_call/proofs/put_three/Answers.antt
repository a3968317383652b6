use native.Mathlib.Omega.{arith}
use lib.ListN.{length-set}
use Rattle.page_call.proofs.Pieces.{put_three_is}
use Rattle.page_call.proofs.put_three.Goals as goal

pub bounds-s-at-2 : goal.bounds-s-at-2
bounds-s-at-2 c = rw length-set (omega arith)

pub bounds-s-at-3 : goal.bounds-s-at-3
bounds-s-at-3 c = rw (length-set, length-set) (omega arith)

pub returns : goal.returns
returns c = put_three_is _ _ _ _ _ (omega arith)
