use mathlib.Core.Path.{sym, ◌∙◌}
use native.Mathlib.Omega.{arith}
use lib.ListN.{length-drop}
use Rattle.image_record_read.proofs.Exits.{passed_number}
use Rattle.image_record_read.proofs.Walk.{end_done, end_more, end_stop, record_room}
use Rattle.image_record_read.proofs.test_end.Goals as goal
use Rattle.floor.proofs.Refusing.{refusing}

pub returns-in_err-read_record : goal.returns-in_err-read_record
returns-in_err-read_record c =
    let e = c.in_err-read_record.field-0.0 in
    let q = c.in_err-read_record.ensures.0 in
    passed_number e c.from_residual.result c.from_residual.ensures.1 (q ∙ sym (end_stop _ (λ z. refusing e (q ∙ z))))

pub read_at-n-requires : goal.read_at-n-requires
read_at-n-requires c = let b = record_room c.args.s.now c.args.at 4 0 c.requires (sym c.in_ok-read_record.ensures.0) in omega arith

pub returns-then-at-from : goal.returns-then-at-from
returns-then-at-from c = sym (end_more _ (sym c.in_ok-read_record.ensures.0) (rw length-drop (omega (arith, c.read_at-n.ensures))))

pub returns : goal.returns
returns c = sym (end_done _ (sym c.in_ok-read_record.ensures.0) (rw length-drop (omega (arith, c.read_at-n.ensures))))
