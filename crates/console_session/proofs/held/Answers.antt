use mathlib.Core.Path.{◌≡◌}
use mathlib.Core.List.{List, [], ◌∷◌}
use Prim.Native.Nat.{ℕ, ◌+◌}
use native.Mathlib.Omega.{arith}
use lib.ListN.{length, get_or}
use Rattle.laws.specs.Define.{sum}
use Rattle.floor.proofs.Sized.{delivered_length}
use Rattle.console_session.proofs.held.Goals as goal

four : (l : List ℕ) → length l ≡ 4 → get_or l 0 0 + get_or l 1 0 + get_or l 2 0 + get_or l 3 0 ≡ sum l
unfolding sum
four [] e = absurd (omega arith)
four (a ∷ []) e = absurd (omega arith)
four (a ∷ b ∷ []) e = absurd (omega arith)
four (a ∷ b ∷ c ∷ []) e = absurd (omega arith)
four (a ∷ b ∷ c ∷ d ∷ []) e = omega arith
four (a ∷ b ∷ c ∷ d ∷ e ∷ l) p = absurd (omega arith)

pub returns : goal.returns
returns c =
    let S = c in
    omega (arith, four S.args.c.delivered (delivered_length S.args.c _ S.well_formed.0), c.from.ensures, c.from-2.ensures, c.from-3.ensures, c.from-4.ensures, c.from-5.ensures, c.saturating_sub.ensures)
