use Rattle.std.proofs.Common.{rules, tests, ◌≡◌, ◌∙◌, ap, eqb}
use denote.Ref.{Bor}
use Rattle.std.specs.List.{find}
use Rattle.std.specs.Option.{option_map, option_map_or}
use Rattle.std.proofs.lemmas.Iterator.{YieldsList-from_slice}
use Rattle.std.proofs.lemmas.Iterator.Search.{find_from_yields_List}
use Rattle.plan.specs.declared.Entry.{Entry}
use Rattle.plan_parts.proofs.Finding.{tile_read, tile_found}
use Rattle.plan_parts.proofs.tile_of.Goals as goal

sought : (c : goal.After-map_or) → option_map (λ (e : Bor Entry). e.now) c.find.result ≡ find (λ e. eqb e.label c.args.label) c.args.entries.now
sought c = find_from_yields_List (λ e. eqb e.label c.args.label) _ _ c.find.result c.find.ensures.ran (YieldsList-from_slice c.args.entries.now cc) (λ x b q k. search (rules, tests))

mapped : (c : goal.After-map_or) → c.map_or.result ≡ option_map_or (λ (e : Bor Entry). e.now.tile) c.find.result 0
mapped c = search rules

pub returns : goal.returns
returns c = mapped c ∙ tile_read c.find.result ∙ ap (λ r. option_map_or (λ (e : Entry). e.tile) r 0) (sought c) ∙ tile_found c.args.entries.now c.args.label
