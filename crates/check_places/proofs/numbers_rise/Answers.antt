use lib.Dec.{ltb}
use borrow.Author.Rules.{rules}
use Rattle.std.proofs.lemmas.List.Sorted.{answers_always}
use Rattle.check_places.proofs.Pairs.{sorted_rises}
use Rattle.check_places.proofs.numbers_rise.Goals as goal

pub returns : goal.returns
returns c = sorted_rises c.args.members.now c.is_sorted_by.result (c.is_sorted_by.ensures.cases (λ x y. ltb x.number y.number) (search (rules, answers_always)))
