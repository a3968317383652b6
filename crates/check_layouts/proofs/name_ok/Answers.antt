use Prim.Native.Nat.{◌^◌, ◌<◌}
use mathlib.Core.Path.{◌≡◌, refl}
use native.Mathlib.Omega.{arith}
use borrow.Author.Rules.{rules}
use Rattle.check_layouts.proofs.Tests.{spelled_none, spelled_more, zeros_none, zeros_more, name_code}
use Rattle.check_layouts.proofs.name_ok.Goals as goal

pub loop-x-init : goal.loop-x-init
loop-x-init c = (spelled_none c.args.n, zeros_none c.args.n)

pub loop-x-preserved : goal.loop-x-preserved
loop-x-preserved c =
    let l = c.loop-x in
    let n = c.args.n in
    let on : l.x-index < 8 = omega arith in
    rw (c.is_ascii_uppercase.ensures.value, c.to_le_bytes.ensures) (spelled_more n l.x-index on refl l.invariant.0 l.invariant.1, zeros_more n l.x-index on l.invariant.1)

pub returns : goal.returns
returns c =
    let n = c.args.n in
    let small : n < 2 ^ 64 = search rules in
    let e : c.loop-x.x-index ≡ 8 = omega arith in
    name_code n small c.loop-x.spelled (rw e at c.loop-x.invariant.0)
