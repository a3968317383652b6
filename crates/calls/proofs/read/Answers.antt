use mathlib.Core.Path.{sym, ◌∙◌}
use native.Mathlib.Omega.{arith}
use Rattle.floor.proofs.Refusing.{refusing}
use Rattle.call_parts.proofs.Tests.{read_on}
use Rattle.floor.proofs.Answers.{malformed, formed}
use Rattle.calls.proofs.Answers.{read_refused, read_accepted}
use Rattle.calls.proofs.read.Goals as goal

pub returns-then-not-well_formed : goal.returns-then-not-well_formed
returns-then-not-well_formed c = read_refused _ _ 30 c.unread.result (malformed _ _ (sym c.well_formed-2.ensures ∙ c.if-not-well_formed.true)) (omega arith) c.unread.ensures

pub test_read-requires : goal.test_read-requires
test_read-requires c = sym c.well_formed-2.ensures ∙ c.if-not-well_formed.false

pub returns-in-Err : goal.returns-in-Err
returns-in-Err c = read_refused _ _ _ c.unread-in-Err.result (formed _ _ _ (sym c.well_formed-2.ensures ∙ c.if-not-well_formed.false) c.in-Err.ensures) (refusing c.in-Err.why) c.unread-in-Err.ensures

pub tile_head-requires : goal.tile_head-requires
tile_head-requires c = (sym c.well_formed-2.ensures ∙ c.if-not-well_formed.false, read_on _ _ c.in_default.ensures)

pub tile_members-requires : goal.tile_members-requires
tile_members-requires c = (sym c.well_formed-2.ensures ∙ c.if-not-well_formed.false, read_on _ _ c.in_default.ensures)

pub returns : goal.returns
returns c =
    read_accepted _ _ c.tile_head.result c.tile_members.result (formed _ _ 0 (sym c.well_formed-2.ensures ∙ c.if-not-well_formed.false) c.in_default.ensures) c.tile_head.ensures c.tile_members.ensures
