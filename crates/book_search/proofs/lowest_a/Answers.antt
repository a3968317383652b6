use mathlib.Core.Path.{sym}
use Prim.Native.Nat.{suc, ◌+◌}
use native.Mathlib.Omega.{arith}
use Rattle.floor.specs.Settings.{spacing, span}
use Rattle.book_search.proofs.Search.{Passed, passed_on, beyond, all_apart, row_found, row_none}
use Rattle.book_search.proofs.lowest_a.Goals as goal

pub returns-then-span-beyond : goal.returns-then-span-beyond
returns-then-span-beyond c =
    let p : Passed (spacing c.args.s) c.args.own.now c.args.b (c.in-Some.c.a + spacing c.args.s) = passed_on _ _ _ _ _ c.in-Some.ensures c.loop-c.invariant.1 in
    sym (row_none (spacing c.args.s) (suc (span c.args.s)) c.args.own.now c.args.b (λ y h. p y (omega arith)))

pub loop-c-smaller : goal.loop-c-smaller
loop-c-smaller c = let more = beyond (spacing c.args.s) c.loop-c.a c.args.b c.args.own.now c.in-Some.c c.in-Some.ensures in omega (arith, more)

pub loop-c-preserved : goal.loop-c-preserved
loop-c-preserved c =
    let p : Passed (spacing c.args.s) c.args.own.now c.args.b (c.in-Some.c.a + spacing c.args.s) = passed_on _ _ _ _ _ c.in-Some.ensures c.loop-c.invariant.1 in
    (omega arith, rw c.spacing-d.ensures p)

pub returns : goal.returns
returns c = let i = c.loop-c.invariant in
    (omega (arith, i.0), row_found (spacing c.args.s) (suc (span c.args.s)) c.args.own.now c.args.b _ (omega (arith, i.0)) i.1 (all_apart (spacing c.args.s) c.loop-c.a c.args.b c.args.own.now c.in_default.ensures))
