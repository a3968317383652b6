use native.Mathlib.Omega.{arith}
use native.Mathlib.Nat.{lt_of_le_of_lt}
use lib.Dec.{lit<}
use lib.Count.{trailing_le}
use Rattle.floor.proofs.SideTables.{next_none, next_round, next_on}
use Rattle.floor.proofs.Side.following.Goals as goal
use Rattle.floor.proofs.Side.following.Goals.{then-beyond-eq0, else-beyond-eq0}

pub returns-then-set-eq0 : goal.returns-then-set-eq0
returns-then-set-eq0 c = next_none c.args.self.code c.args.set c.requires.0 c.requires.1 c.if-set-eq0.true

pub overflow_cast-result : goal.overflow_cast-result
overflow_cast-result c = record { fits = lt_of_le_of_lt (trailing_le 8 _) (lit< tt) }

pub overflow_add-result : goal.overflow_add-result
overflow_add-result c = let few = trailing_le 8 c.if-beyond-eq0.sought in omega (arith, few)

pub returns : goal.returns
returns c =
    elim c.if-beyond-eq0.branch [
      | then-beyond-eq0 w ↦ rw w.sought-is (next_round c.args.self.code c.args.set c.requires.0 c.requires.1 c.if-set-eq0.false w.if-beyond-eq0.true)
      | else-beyond-eq0 w ↦ rw w.sought-is (next_on c.args.self.code c.args.set c.requires.0 c.requires.1 c.if-set-eq0.false w.if-beyond-eq0.false)
    ]
