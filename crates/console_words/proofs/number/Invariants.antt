use Rattle.std.proofs.Common.{◌≡◌, ◌≤◌, drop}
use Rattle.console_words.specs.Text.{number_of}
use Rattle.console_words.proofs.Text.{number_after}
use Rattle.console_words.proofs.number.Given as goal

abbrev pub invariant-loop-b : goal.invariant-loop-b
invariant-loop-b l = (l.n ≤ 4294967295) × (number_of l.s ≡ number_after l.n (drop l.b-index l.s))
