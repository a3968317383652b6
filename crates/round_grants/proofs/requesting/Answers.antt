use Rattle.floor.specs.Sides.{opposite}
use Rattle.round_grants.proofs.SignalLaws.{requests_of}
use Rattle.round_grants.proofs.requesting.Goals as goal

pub returns : goal.returns
unfolding opposite
returns c =
    let w = c in
    let g = w.args in
    requests_of g.show.west.code g.show.south.code g.show.north.code g.show.east.code (rw (w.wanting.ensures, c.wanting-2.ensures, c.wanting-3.ensures, c.wanting-4.ensures))
