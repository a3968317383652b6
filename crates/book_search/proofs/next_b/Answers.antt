use mathlib.Core.Path.{◌≡◌}
use Prim.Native.Nat.{ℕ, ◌+◌}
use native.Mathlib.Omega.{arith}
use lib.Dec.{ltb}
use lib.ListN.{length, get_or}
use lib.Seq.{take-length}
use borrow.Author.Tests.{ltb-true}
use Rattle.laws.proofs.Tests.{and_left, and_right}
use Rattle.floor.specs.Memory.{zero_canister}
use Rattle.book_search.proofs.Search.{ahead_lower, ahead_stay}
use Rattle.book_search.proofs.next_b.Goals as goal
use Rattle.book_search.proofs.next_b.Goals.{then-low-beyond, else-low-beyond}

pub loop-c-preserved : goal.loop-c-preserved
loop-c-preserved c =
    let l = c.loop-c in
    let i = l.invariant in
    let d = c.spacing-d.result in
    let x : ℕ = (get_or c.args.own.now l.c-index zero_canister).b + d in
    elim c.if-low-beyond.branch [
      | then-low-beyond w ↦
          let low = ltb-true c.args.b x (and_left (ltb c.args.b x) (ltb x l.next) w.if-low-beyond.true) in
          let less = ltb-true x l.next (and_right (ltb c.args.b x) (ltb x l.next) w.if-low-beyond.true) in
          rw w.next-is (low, omega (arith, less, i.1), ahead_lower d c.args.b l.next c.args.own.now l.c-index (omega arith) less i.2)
      | else-low-beyond w ↦ rw w.next-is (i.0, i.1, ahead_stay d c.args.b l.next c.args.own.now l.c-index (omega arith) w.if-low-beyond.false i.2)
    ]

pub returns : goal.returns
returns c =
    let l = c.loop-c in
    let i = l.invariant in
    let e : l.c-index ≡ length c.args.own.now = omega arith in
    (i.0, omega (arith, i.1), rw (e, take-length, c.spacing-d.ensures) at i.2)
