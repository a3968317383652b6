use Prim.Native.Nat.{◌^◌, ◌<◌}
use Rattle.laws.proofs.SetBits.{meets_any}
use borrow.Author.Rules.{rules}
use Rattle.sets.proofs.meets.Goals as goal

pub returns : goal.returns
returns c =
    let g = c.args in
    let h : g.s < 2 ^ 64 = search rules in
    meets_any g.s g.other 64 h
