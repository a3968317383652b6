use mathlib.Core.Path.{sym, ◌∙◌}
use Rattle.floor.specs.Sides.{in_set}
use Rattle.round_grants.proofs.SignalLaws.{chosen_none, chosen_kept, chosen_next}
use Rattle.round_grants.proofs.chosen.Goals as goal

pub returns-then-set-eq0 : goal.returns-then-set-eq0
returns-then-set-eq0 c = let s = c in chosen_none s.args.set s.args.token.code c.if-set-eq0.true s.requires.0

pub returns-then-among : goal.returns-then-among
returns-then-among c = let g = c.args in chosen_kept (in_set g.set) (g.token).code (sym c.among.ensures ∙ c.if-among.true)

pub returns : goal.returns
returns c = let g = c.args in c.following.ensures ∙ chosen_next (in_set g.set) (g.token).code (sym c.among.ensures ∙ c.if-among.false)
