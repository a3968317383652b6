use mathlib.Core.Path.{sym}
use Prim.Native.Nat.{◌^◌, ◌<◌}
use Rattle.laws.proofs.SetBits.{bit_off}
use borrow.Author.Rules.{rules}
use Rattle.sets.proofs.holds.Goals as goal

pub returns-then-t-gt63 : goal.returns-then-t-gt63
returns-then-t-gt63 c =
    let g = c.before.args in
    let h : g.s < 2 ^ 64 = search rules in
    sym (bit_off g.s 64 g.t h c.if-t-gt63.true)
