use Rattle.std.proofs.Common.{true, refl, arith}
use Rattle.std.proofs.Math.ListN.{length-set, length-replicate}
use Rattle.plan_check.proofs.Tables.{done_none, done_turn}
use Rattle.plan_check.proofs.done_table.Goals as goal

pub loop-e-init : goal.loop-e-init
loop-e-init c = record { table_length = length-replicate 256 true; tabled = done_none c.args.entries.now 256 }

pub loop-e-preserved : goal.loop-e-preserved
loop-e-preserved c =
    let l = c.loop-e in
    record {
      table_length = simp length-set l.invariant.table_length;
      tabled = done_turn _ l.e-index l.done (omega arith) l.invariant.table_length (omega arith) refl c.was_delivered.ensures l.invariant.tabled;
    }
