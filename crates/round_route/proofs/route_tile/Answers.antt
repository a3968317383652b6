use Rattle.round_route.proofs.RouteLaws.{tile_still, tile_on_lem}
use borrow.Author.Rules.{rules}
use Rattle.round_route.proofs.route_tile.Goals as goal

pub returns-then-holds-tile : goal.returns-then-holds-tile
returns-then-holds-tile c = search (tile_still, rules)

pub returns : goal.returns
returns c = let g = c.args in tile_on_lem g.s g.t g.tile g.around.west g.around.south g.around.north g.around.east _ c.holds.ensures c.if-holds-tile.false _ _ _ c.kept.ensures c.onward-distance.ensures
