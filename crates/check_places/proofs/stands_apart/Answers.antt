use Rattle.check_places.proofs.Lanes.{apart_by}
use Rattle.check_places.proofs.stands_apart.Goals as goal

pub returns : goal.returns
returns c = rw (c.spacing.ensures, c.from.ensures, c.distance.ensures) (apart_by _ c.args.x c.args.y)
