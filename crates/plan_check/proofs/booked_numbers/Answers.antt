use Rattle.std.proofs.Common.{zero, sym, ap, arith}
use Rattle.std.proofs.Math.ListN.{replicate, length-set, length-replicate}
use Rattle.plan.specs.Entries.{number_in}
use Rattle.plan_check.proofs.Entries.{unbooked}
use Rattle.plan_check.proofs.Tables.{booked_number_none, numbers_in, numbers_out}
use Rattle.plan_check.proofs.booked_numbers.Goals as goal
use Rattle.plan_check.proofs.booked_numbers.Goals.{in-Booked, in_default}

pub loop-e-init : goal.loop-e-init
loop-e-init c =
    record { items_length = length-replicate 64 zero; no_more = omega arith; gathered = booked_number_none c.args.entries.now (replicate 64 zero) }

pub loop-e-preserved : goal.loop-e-preserved
loop-e-preserved c =
    let l = c.loop-e in
    let i = l.invariant in
    let few = c.requires in
    elim c.match-stage.branch [
      | in-Booked w ↦ rw (w.items-is, w.count-is) (record {
        items_length = simp length-set i.items_length;
        no_more = omega arith;
        gathered = numbers_in c.args.entries.now l.e-index l.count w.in-Booked.number l.items (omega arith) (omega arith) (ap number_in (sym w.in-Booked.ensures)) i.gathered;
      })
      | in_default w ↦ rw (w.items-is, w.count-is) (record {
        items_length = i.items_length;
        no_more = omega arith;
        gathered = numbers_out c.args.entries.now l.e-index l.count l.items (omega arith) (unbooked c.stage.result _ c.stage.ensures w.in_default.not-Booked) i.gathered;
      })
    ]
