use mathlib.Core.Path.{◌≡◌, sym, ◌∙◌}
use mathlib.Core.Bool.{true, false}
use borrow.Author.Tests.{eq-eqb, ne_eqb}
use Rattle.check_floor.specs.InternalTile.{head_test, front_test}
use Rattle.check_floor.proofs.front_ok.Goals as goal

pub returns-then-h-ne0 : goal.returns-then-h-ne0
unfolding front_test
returns-then-h-ne0 c =
    let on : head_test c.args.s c.args.t c.args.h ≡ true = sym c.head_test.ensures ∙ c.if-head_test.true in
    rw (on, ne_eqb c.args.h.count 0 c.if-h-ne0.true)

pub returns-else-h-ne0 : goal.returns-else-h-ne0
unfolding front_test
returns-else-h-ne0 c =
    let on : head_test c.args.s c.args.t c.args.h ≡ true = sym c.head_test.ensures ∙ c.if-head_test.true in
    rw (on, eq-eqb c.args.h.count 0 c.if-h-ne0.false) c.unused.ensures

pub returns-else-head_test : goal.returns-else-head_test
unfolding front_test
returns-else-head_test c =
    let off : head_test c.args.s c.args.t c.args.h ≡ false = sym c.head_test.ensures ∙ c.if-head_test.false in
    rw (c.if-head_test.false, off)
