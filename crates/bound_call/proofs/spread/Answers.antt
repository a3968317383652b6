use Rattle.bound_call.proofs.Spreads.{spread_fits, spread_bit}
use Rattle.bound_call.proofs.spread.Goals as goal

pub returns : goal.returns
returns c =
    let S = c in
    let g = S.args in
    (spread_fits g.s S.requires.0 g.found S.requires.2 g.running g.above S.requires.3 S.requires.1, spread_bit g.s S.requires.0 g.found S.requires.2 g.running g.above S.requires.3 S.requires.1)
