use Rattle.std.proofs.Common.{sym, arith}
use Rattle.laws.proofs.Tables.{all_zero, all_step}
use Rattle.plan.specs.Entries.{after_predecessors}
use Rattle.plan_check.proofs.Entries.{order_code}
use Rattle.plan_check.proofs.Tables.{zero_entry, entry_at}
use Rattle.plan_check.proofs.after_predecessors.Goals as goal

pub loop-e-init : goal.loop-e-init
loop-e-init c =
    let es = c.args.entries.now in
    record { table_length = c.done_table-done.type_inv.1.0.1; tabled = c.done_table-done.ensures; tested = sym (all_zero (after_predecessors es) es) }

pub loop-e-preserved : goal.loop-e-preserved
loop-e-preserved c =
    let l = c.loop-e in
    let es = c.args.entries.now in
    let x = entry_at es l.e-index in
    let one = order_code es x c.waits.ensures (l.invariant.tabled x.first (omega arith)) (l.invariant.tabled x.second (omega arith)) c.both.ensures in
    record {
      table_length = l.invariant.table_length;
      tabled = l.invariant.tabled;
      tested = all_step (after_predecessors es) es l.e-index zero_entry (omega arith) l.invariant.tested one;
    }
