use Rattle.std.proofs.Common.{◌≡◌, ◌≤◌, ◌∙◌, length, take, ap, arith}
use Rattle.std.proofs.Math.Seq.{take_all}
use Rattle.plan_check.proofs.Entries.{ready_code}
use Rattle.plan_check.proofs.Tables.{entry_at}
use Rattle.plan_parts.proofs.Lowest.{lowest_begins, lowest_in, lowest_out, lowest_none, lowest_some, fits_label}
use Rattle.plan_parts.proofs.lowest_ready.Goals as goal
use Rattle.plan_parts.proofs.lowest_ready.Goals.{then-waits-both, else-waits-both}

pub loop-e-init : goal.loop-e-init
loop-e-init c =
    let es = c.used-entries.result.now in
    record { table_length = c.done_table-done.type_inv.1.0.1; tabled = c.done_table-done.ensures; lowest = lowest_begins es es }

pub loop-e-preserved : goal.loop-e-preserved
loop-e-preserved c =
    let l = c.loop-e in
    let i = l.invariant in
    let es = c.used-entries.result.now in
    let x = entry_at es l.e-index in
    let all = ap length c.used-entries.ensures in
    let some : 1 ≤ x.label = rw c.used-entries.ensures (fits_label c.args.plan c.requires.1 l.e-index (omega arith)) in
    let one = ready_code es x c.waits.ensures (i.tabled x.first (omega arith)) (i.tabled x.second (omega arith)) c.both.ensures in
    record {
      table_length = i.table_length;
      tabled = i.tabled;
      lowest =
          elim c.if-waits-both.branch [
            | then-waits-both w ↦ lowest_in es es l.e-index (omega arith) some i.lowest one w.if-waits-both.true (w.best-is ∙ w.min-best.ensures)
            | else-waits-both w ↦ lowest_out es es l.e-index (omega arith) some i.lowest one w.if-waits-both.false w.best-is
          ];
    }

pub returns-then-best-eq65 : goal.returns-then-best-eq65
returns-then-best-eq65 c =
    let l = c.loop-e in
    let es = c.used-entries.result.now in
    let all : take l.e-index es ≡ es = take_all l.e-index es (omega arith) in
    lowest_none c.args.plan (rw (all, c.used-entries.ensures) at l.invariant.lowest) c.if-best-eq65.true

pub returns-else-best-eq65 : goal.returns-else-best-eq65
returns-else-best-eq65 c =
    let l = c.loop-e in
    let es = c.used-entries.result.now in
    let all : take l.e-index es ≡ es = take_all l.e-index es (omega arith) in
    lowest_some c.args.plan (rw (all, c.used-entries.ensures) at l.invariant.lowest) c.if-best-eq65.false
