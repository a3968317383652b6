use mathlib.Core.Path.{sym}
use Prim.Native.Nat.{◌^◌, ◌<◌}
use borrow.Author.Tests.{lt-ltb}
use Rattle.laws.proofs.Bits.{shr_none}
use borrow.Author.Rules.{rules}
use Rattle.sets.proofs.within.Goals as goal

pub returns-then-n-eq64 : goal.returns-then-n-eq64
returns-then-n-eq64 c =
    let h : c.before.args.s < 2 ^ 64 = search rules in
    rw c.if-n-eq64.true (sym (lt-ltb c.before.args.s (2 ^ 64) h))

pub returns : goal.returns
returns c = shr_none c.before.args.s c.before.args.n
