use Rattle.std.proofs.Common.{◌≡◌, ◌-◌}
use Rattle.console_words.specs.Text.{nth_word}
use Rattle.console_words.proofs.nth.Given as goal

abbrev pub invariant-loop : goal.invariant-loop
invariant-loop l = nth_word (l.k - l.counter) l.rest ≡ nth_word l.k l.s
