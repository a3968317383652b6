use Rattle.std.proofs.Common.{◌≡◌, take, sym, arith}
use Rattle.std.proofs.Math.Seq.{take_all}
use Rattle.laws.proofs.Tables.{all_zero, all_step}
use Rattle.plan.specs.Entries.{entry_fits, plan_fits}
use Rattle.plan_check.proofs.Sized.{present_length}
use Rattle.plan_check.proofs.Entries.{fits_code}
use Rattle.plan_check.proofs.Tables.{zero_entry, entry_at}
use Rattle.plan_check.proofs.fits.Goals as goal

pub loop-e-init : goal.loop-e-init
loop-e-init c =
    let T = c.labels_in-differing in
    let es = c.used-entries.result.now in
    record { table_length = present_length T.result _ T.type_inv; tabled = T.ensures.0; tested = sym (all_zero (entry_fits es) es) }

pub loop-e-preserved : goal.loop-e-preserved
loop-e-preserved c =
    let l = c.loop-e in
    let es = c.used-entries.result.now in
    let x = entry_at es l.e-index in
    let one = fits_code es x (l.invariant.tabled x.first (omega arith)) (l.invariant.tabled x.second (omega arith)) c.entry_fits-ok.ensures in
    record {
      table_length = l.invariant.table_length;
      tabled = l.invariant.tabled;
      tested = all_step (entry_fits es) es l.e-index zero_entry (omega arith) l.invariant.tested one;
    }

pub returns : goal.returns
unfolding plan_fits
returns c =
    let l = c.loop-e in
    let es = c.used-entries.result.now in
    let all : take l.e-index es ≡ es = take_all l.e-index es (omega arith) in
    rw (sym c.used-entries.ensures, l.invariant.tested, all, c.labels_in-differing.ensures.1)
