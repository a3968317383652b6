use Rattle.std.proofs.Common.{false, refl, arith}
use Rattle.std.proofs.Math.ListN.{length-set, length-replicate}
use Rattle.plan_check.proofs.Tables.{unlike_none, unlike_turn, present_none, present_turn}
use Rattle.plan_check.proofs.labels_in.Goals as goal

pub loop-e-init : goal.loop-e-init
loop-e-init c =
    let es = c.args.entries.now in
    record { table_length = length-replicate 256 false; tabled = present_none es 256; differ = unlike_none es }

pub loop-e-preserved : goal.loop-e-preserved
loop-e-preserved c =
    let l = c.loop-e in
    record {
      table_length = simp length-set l.invariant.table_length;
      tabled = present_turn _ l.e-index l.present (omega arith) l.invariant.table_length (omega arith) l.invariant.tabled;
      differ = unlike_turn _ l.e-index l.present (omega arith) (omega arith) l.invariant.tabled refl l.invariant.differ;
    }
