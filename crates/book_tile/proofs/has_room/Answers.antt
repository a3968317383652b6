use mathlib.Core.Path.{sym}
use native.Mathlib.Omega.{arith}
use Rattle.laws.proofs.Tables.{all_zero, all_step}
use Rattle.floor.specs.Settings.{spacing}
use Rattle.floor.specs.Memory.{zero_canister}
use Rattle.floor.specs.Well.{apart}
use Rattle.book_tile.proofs.has_room.Goals as goal

pub loop-other-init : goal.loop-other-init
loop-other-init c = sym (all_zero (apart (spacing c.args.s) c.args.c) c.args.own.now)

pub loop-other-preserved : goal.loop-other-preserved
loop-other-preserved c =
    let l = c.loop-other in
    all_step (apart (spacing c.args.s) c.args.c) c.args.own.now l.other-index zero_canister (omega arith) l.invariant c.stands_apart-ok.ensures
