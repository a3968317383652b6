use mathlib.Core.Path.{◌≡◌}
use lib.ListN.{take}
use Rattle.floor.specs.Signal as G
use Rattle.round_grants.proofs.missing.Given as goal

abbrev pub invariant-loop-c : goal.invariant-loop-c
invariant-loop-c l = l.short ≡ G.missing l.s l.side.code (take l.c-index l.canisters)
