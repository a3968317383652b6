use mathlib.Core.Path.{sym, ◌∙◌}
use mathlib.Core.Bool.{true≢false}
use Prim.Native.Nat.{◌+◌, ◌<◌}
use native.Mathlib.Omega.{arith}
use Rattle.floor.proofs.GridBranches.{first_in, first_out, some_rest, west_in, west_out, south_in, south_out, north_in, north_out, north_end, east_in, east_out, no_side_lem}
use borrow.Author.Rules.{rules}
use borrow.Author.Tests.{eq-eqb}
use Rattle.floor.proofs.Side.neighbour.Goals as goal
use Rattle.floor.proofs.Side.neighbour.Goals.{then-t-all, else-t-all}

pub overflow_sub-result-else-has : goal.overflow_sub-result-else-has
overflow_sub-result-else-has c =
    let h = c in
    let m = h in
    let p = m in
    let g = p.args in
    let e = first_out m.first_row.result g.t (g.s).rows (omega (arith, p.requires)) h.has.ensures m.first_row.ensures c.if-has.false in
    omega (arith, some_rest g.t (g.s).rows e)

pub returns-then-has : goal.returns-then-has
returns-then-has c =
    let h = c in
    let m = h in
    let p = m in
    let g = p.args in
    let e = first_in m.first_row.result g.t (g.s).rows (omega (arith, p.requires)) h.has.ensures m.first_row.ensures c.if-has.true in
    search (south_out, rules)

pub returns-else-has : goal.returns-else-has
returns-else-has c =
    let h = c in
    let m = h in
    let p = m in
    let g = p.args in
    let e = first_out m.first_row.result g.t (g.s).rows (omega (arith, p.requires)) h.has.ensures m.first_row.ensures c.if-has.false in
    search (south_in, rules)

pub returns-then-rows-t : goal.returns-then-rows-t
returns-then-rows-t c = search (west_in, rules)

pub returns-else-rows-t : goal.returns-else-rows-t
returns-else-rows-t c = search (west_out, rules)

pub returns-then-t-rows : goal.returns-then-t-rows
returns-then-t-rows c = search (east_in, rules)

pub returns-else-t-rows : goal.returns-else-t-rows
returns-else-t-rows c = search (east_out, rules)

pub returns-in_default : goal.returns-in_default
returns-in_default c = search (no_side_lem, rules)

pub returns-then-has-2 : goal.returns-then-has-2
returns-then-has-2 c =
    let g = c.args in
    let p = c.requires.0 in
    elim c.if-t-all.branch [
      | then-t-all w ↦ let e = w.if-t-all.true in search (north_end, rules)
      | else-t-all w ↦
          let on : g.t + 1 < 64 = omega (arith, w.if-t-all.false, c.tile_count-all.ensures, c.requires) in
          let z = first_in w.first_row-else-t-all.result (g.t + 1) g.s.rows on w.has-else-t-all.ensures w.first_row-else-t-all.ensures (sym w.value-is ∙ c.if-has-2.true) in
          search (north_out, rules)
    ]

pub returns-else-has-2 : goal.returns-else-has-2
returns-else-has-2 c =
    let g = c.args in
    let p = c.requires.0 in
    elim c.if-t-all.branch [
      | then-t-all w ↦ absurd (true≢false (sym (eq-eqb _ _ w.if-t-all.true) ∙ sym w.value-is ∙ c.if-has-2.false))
      | else-t-all w ↦
          let on : g.t + 1 < 64 = omega (arith, w.if-t-all.false, c.tile_count-all.ensures, c.requires) in
          let z = first_out w.first_row-else-t-all.result (g.t + 1) g.s.rows on w.has-else-t-all.ensures w.first_row-else-t-all.ensures (sym w.value-is ∙ c.if-has-2.false) in
          search (north_in, rules)
    ]
