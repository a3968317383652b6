use Rattle.std.proofs.Common.{◌≡◌, ◌∙◌, map, take, refl, arith}
use Rattle.plan_check.proofs.Tables.{zero_entry, entry_at}
use Rattle.plan_parts.proofs.Changed.{map_turn, map_all}
use Rattle.plan_parts.proofs.changed_by.Goals as goal

pub loop-e-init : goal.loop-e-init
loop-e-init g c h k = refl

pub loop-e-preserved : goal.loop-e-preserved
loop-e-preserved g c h k =
    let l = c.loop-e in
    map_turn l.e-index h (take c.args.plan.count c.args.plan.entries) l.e-items zero_entry c.change.result (omega arith) (l.invariant h k) (k (entry_at l.e-items l.e-index) c.change.result c.change.ensures)

pub returns : goal.returns
returns g c h k =
    let l = c.loop-e in
    let p = c.args.plan in
    let all : l.e-items ≡ map h (take p.count p.entries) = l.invariant h k ∙ map_all l.e-index h (take p.count p.entries) (omega arith) in
    rw all
