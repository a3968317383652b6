use Prim.Native.Nat.{◌≤◌}
use native.Mathlib.Omega.{arith}
use lib.ListN.{length, drop, length-drop}
use Rattle.page.proofs.PrintedText.{line_one, line_two}
use Rattle.page.proofs.put_refused.Goals as goal

pub returns-then-n-lt10 : goal.returns-then-n-lt10
returns-then-n-lt10 c =
    let l : 3 ≤ length (drop 8 c.args.text.now) = rw length-drop (omega arith) in
    (omega arith, rw c.copy_from_slice.ensures.after (line_one (drop 8 c.args.text.now) c.args.n l c.if-n-lt10.true))

pub returns : goal.returns
returns c =
    let l : 3 ≤ length (drop 8 c.args.text.now) = rw length-drop (omega arith) in
    (omega arith, rw c.copy_from_slice.ensures.after (line_two (drop 8 c.args.text.now) c.args.n l c.if-n-lt10.false))
