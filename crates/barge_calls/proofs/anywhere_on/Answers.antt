use mathlib.Core.Path.{refl, sym}
use Rattle.floor.proofs.Refusing.{refusing}
use Rattle.barge_calls.proofs.Answers.{begun, anywhere_begins, anywhere_own, anywhere_full, anywhere_done}
use Rattle.barge_calls.proofs.anywhere_on.Goals as goal

pub bounds-barge-k : goal.bounds-barge-k
bounds-barge-k c = (begun c.args.barge.now c.args.floor 0 (rw c.in-Ok.is at c.requires.number) refl).named

pub anywhere_checked-answer-requires : goal.anywhere_checked-answer-requires
anywhere_checked-answer-requires c = sym (begun c.args.barge.now c.args.floor 0 (rw c.in-Ok.is at c.requires.number) refl).well

pub returns-then-answer-ne0 : goal.returns-then-answer-ne0
returns-then-answer-ne0 c = anywhere_own _ _ (begun c.args.barge.now c.args.floor 0 (rw c.in-Ok.is at c.requires.number) refl) _ _ c.anywhere_checked-answer.result c.anywhere_checked-answer.ensures c.if-answer-ne0.true

pub bounds-barge-k-in-Ok-test_allowance : goal.bounds-barge-k-in-Ok-test_allowance
bounds-barge-k-in-Ok-test_allowance c = (begun c.args.barge.now c.args.floor 0 (rw c.in-Ok.is at c.requires.number) refl).named

pub returns-in-Ok-test_allowance : goal.returns-in-Ok-test_allowance
returns-in-Ok-test_allowance c =
    anywhere_done _ _ (begun c.args.barge.now c.args.floor 0 (rw c.in-Ok.is at c.requires.number) refl) _ _ c.anywhere_checked-answer.result c.anywhere_checked-answer.ensures c.if-answer-ne0.false
    c.in-Ok.total 0 (rw c.in-Ok.is at c.requires.total) c.in-Ok-test_allowance.ensures refl

pub returns-in-Err-test_allowance : goal.returns-in-Err-test_allowance
returns-in-Err-test_allowance c =
    rw c.from.ensures (anywhere_full _ _ (begun c.args.barge.now c.args.floor 0 (rw c.in-Ok.is at c.requires.number) refl) _ _ c.anywhere_checked-answer.result c.anywhere_checked-answer.ensures c.if-answer-ne0.false
    c.in-Ok.total _ (rw c.in-Ok.is at c.requires.total) c.in-Err-test_allowance.ensures (refusing c.in-Err-test_allowance.why))

pub returns-in-Err : goal.returns-in-Err
returns-in-Err c = rw c.from-in-Err.ensures (anywhere_begins _ _ _ (rw c.in-Err.is at c.requires.number) _ _ (refusing c.in-Err.why))
