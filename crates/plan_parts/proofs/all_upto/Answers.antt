use Rattle.std.proofs.Common.{◌∙◌, ◌&&◌, leb, ltb, rules, tests}
use Rattle.std.proofs.lemmas.Iterator.{YieldsList-from_slice}
use Rattle.std.proofs.lemmas.Iterator.Search.{all_from_yields_List}
use Rattle.plan_parts.proofs.Chains.{all_chain}
use Rattle.plan_parts.proofs.all_upto.Goals as goal

pub returns : goal.returns
returns c = all_from_yields_List (λ x. ltb 0 x && leb x c.args.last) _ _ _ c.all.ensures.ran (YieldsList-from_slice c.args.numbers.now cc) (λ x b q k. search (rules, tests)) ∙ all_chain (λ x. ltb 0 x && leb x c.args.last) c.args.numbers.now
