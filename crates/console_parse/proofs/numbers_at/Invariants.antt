use Rattle.std.proofs.Common.{◌≡◌, true}
use Rattle.laws.specs.Define.{tab}
use Rattle.console_parse.specs.Line.{all_numbers, value_at}
use Rattle.console_parse.proofs.numbers_at.Given as goal

abbrev pub invariant-loop-k : goal.invariant-loop-k
invariant-loop-k l = (all_numbers l.line l.first l.k ≡ true) × (l.all ≡ tab 4 (value_at l.line l.first l.k))
