use Rattle.std.proofs.Common.{◌∙◌, eqb, ap, arith}
use Rattle.std.proofs.Math.Seq.{take_all}
use Rattle.plan.specs.Entries.{ready_label}
use Rattle.plan_check.proofs.Entries.{ready_code}
use Rattle.plan_check.proofs.Tables.{entry_at}
use Rattle.plan_parts.proofs.Finding.{found_none, found_turn}
use Rattle.plan_parts.proofs.Lowest.{ready_in}
use Rattle.plan_parts.proofs.is_ready.Goals as goal

pub loop-e-init : goal.loop-e-init
loop-e-init c = record { table_length = c.done_table-done.type_inv.1.0.1; tabled = c.done_table-done.ensures; found = found_none c.args.entries.now c.args.label }

pub loop-e-preserved : goal.loop-e-preserved
loop-e-preserved c =
    let l = c.loop-e in
    let i = l.invariant in
    let es = c.args.entries.now in
    let x = entry_at es l.e-index in
    let one = ready_code es x c.waits.ensures (i.tabled x.first (omega arith)) (i.tabled x.second (omega arith)) c.both-after.ensures in
    record {
      table_length = i.table_length;
      tabled = i.tabled;
      found = found_turn es c.args.label l.e-index (omega arith) i.found (ap (λ n. eqb n c.args.label) c.from.ensures) one;
    }

pub returns : goal.returns
unfolding ready_label
returns c =
    let l = c.loop-e in
    let es = c.args.entries.now in
    l.invariant.found ∙ ap (λ xs. ready_in es xs c.args.label) (take_all l.e-index es (omega arith))
