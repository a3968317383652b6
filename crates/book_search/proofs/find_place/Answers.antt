use mathlib.Core.Path.{◌≡◌}
use Prim.Native.Nat.{suc}
use native.Mathlib.Omega.{arith}
use Rattle.floor.specs.Settings.{spacing, span}
use Rattle.book_search.proofs.Search.{bare_on, place_a_lem, place_b_lem, place_none}
use Rattle.book_search.proofs.find_place.Goals as goal

pub returns-in-Some : goal.returns-in-Some
returns-in-Some c =
    let g = c.args in
    let l = c.loop-b in
    let e = c.in-Some.ensures in
    let b = place_b_lem g.s g.own.now l.b l.invariant.1 (omega arith) (omega (arith, e.0, e.1)) in
    (omega arith, b, place_a_lem g.s g.own.now _ l.b e.1 b)

pub loop-b-preserved : goal.loop-b-preserved
loop-b-preserved c =
    let g = c.args in
    let n = c.next_b-b.ensures in
    (n.1, bare_on (spacing g.s) (suc (span g.s)) g.own.now c.loop-b.b _ (omega (arith, c.in_default.ensures)) n.2 c.loop-b.invariant.1)

pub returns : goal.returns
returns c =
    let g = c.args in
    let l = c.loop-b in
    let e : l.b ≡ suc (span g.s) = omega (arith, l.invariant.0) in
    place_none g.s g.own.now (rw e at l.invariant.1)
