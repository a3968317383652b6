use Rattle.std.proofs.Common.{rules, sym}
use Rattle.floor.proofs.Well.{ranged}
use Rattle.floor.proofs.Pack.{well_settings, well_measured, well_few}
use Rattle.bound_call.proofs.Counts.{k_most, bound_found, bound_refused}
use Rattle.bound_call.proofs.bound.Goals as goal

pub returns-then-not-well_formed : goal.returns-then-not-well_formed
returns-then-not-well_formed c = search (bound_refused, rules)

pub connected_set-live-requires : goal.connected_set-live-requires
connected_set-live-requires c =
    let f = c.args.floor in
    (ranged f.settings (well_settings f (sym c.if-not-well_formed.ensures)), (well_measured f (sym c.if-not-well_formed.ensures)).two)

pub canisters_on-connected-requires : goal.canisters_on-connected-requires
canisters_on-connected-requires c =
    well_few c.args.floor (sym c.if-not-well_formed.ensures)

pub canisters_on-unconnected-requires : goal.canisters_on-unconnected-requires
canisters_on-unconnected-requires c =
    well_few c.args.floor (sym c.if-not-well_formed.ensures)

pub rounds_for-requires : goal.rounds_for-requires
rounds_for-requires c =
    let f = c.args.floor in
    (well_settings f (sym c.if-not-well_formed.ensures), k_most f (sym c.if-not-well_formed.ensures) c.connected_set-live.result c.canisters_on-connected.result c.connected_set-live.ensures c.canisters_on-connected.ensures)

pub returns : goal.returns
returns c =
    bound_found c.args.floor (sym c.if-not-well_formed.ensures) c.connected_set-live.result c.canisters_on-connected.result c.connected_set-live.ensures c.canisters_on-connected.ensures
    c.full.result c.minus-rest.result c.canisters_on-unconnected.result c.full.ensures c.minus-rest.ensures c.canisters_on-unconnected.ensures c.rounds_for.result c.rounds_for.ensures
