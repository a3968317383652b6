use Rattle.std.proofs.Common.{◌∙◌, ltb, rules, tests}
use Rattle.std.proofs.lemmas.Iterator.{YieldsList-from_slice}
use Rattle.std.proofs.lemmas.Iterator.Search.{any_from_yields_List}
use Rattle.floor.specs.declared.Delivery.{Delivery}
use Rattle.plan_parts.proofs.Chains.{any_chain}
use Rattle.plan_parts.proofs.over_four.Goals as goal

pub returns : goal.returns
returns c = any_from_yields_List (λ (d : Delivery). ltb 4 d.count) _ _ _ c.any.ensures.ran (YieldsList-from_slice c.args.given.deliveries cc) (λ x b q k. search (rules, tests)) ∙ any_chain (λ (d : Delivery). ltb 4 d.count) c.args.given.deliveries
