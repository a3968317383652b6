use mathlib.Core.Path.{refl}
use native.Mathlib.Omega.{arith}
use Rattle.console_lines.proofs.Kept.{kept_whole, kept_word, kept_last}
use Rattle.console_lines.proofs.kept_of.Goals as goal

pub returns-then-line-lt402 : goal.returns-then-line-lt402
returns-then-line-lt402 c = (omega arith, omega arith, omega arith, kept_whole _ (omega arith))

pub returns-then-word-last : goal.returns-then-word-last
returns-then-word-last c =
    let b = c.skip_blanks-word in
    (omega arith, omega arith, omega arith, kept_word _ b.result b.ensures.2 (omega arith) (omega arith))

pub returns : goal.returns
returns c =
    let b = c.skip_blanks-word in
    (omega arith, omega arith, omega arith, kept_last _ b.result b.ensures.2 _ (omega arith) refl (omega arith))
