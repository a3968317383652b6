use mathlib.Core.Path.{ap, sym, ◌∙◌}
use Prim.Native.Nat.{◌^◌, ◌<◌}
use native.Mathlib.Nat.{mod-eq_of_lt, lt_of_le_of_lt}
use lib.Dec.{lit<}
use lib.Count.{ones, ones-le}
use Rattle.laws.proofs.SetBits.{bits_ones}
use borrow.Author.Rules.{rules}
use Rattle.sets.proofs.size.Goals as goal

pub overflow_cast-result : goal.overflow_cast-result
overflow_cast-result c =
    let g = c.args in
    let h : g.s < 2 ^ 64 = search rules in
    record { fits = lt_of_le_of_lt (ones-le 64 g.s h) (lit< tt) }

pub returns : goal.returns
returns c =
    let g = c.args in
    let h : g.s < 2 ^ 64 = search rules in
    ap ones (sym (mod-eq_of_lt h)) ∙ bits_ones g.s 64
