use mathlib.Core.Path.{refl, sym}
use Rattle.std.proofs.lemmas.Result.{err_from_is_err_and}
use Rattle.floor.proofs.Refusing.{refusing}
use Rattle.barge_parts.proofs.Joint.{read_at}
use Rattle.barge_calls.proofs.Answers.{begun, book_of, book_begins, book_own, book_full, book_done}
use Rattle.barge_calls.proofs.book_on.Goals as goal

pub returns-in_err-total : goal.returns-in_err-total
returns-in_err-total c =
    let p = err_from_is_err_and c.from_residual.result c.from_residual.ensures.1 in
    rw (p.1, p.2) (book_begins c.args.barge.now c.args.floor _ (rw c.in_err-total.was at c.requires.number) c.args.tile c.args.canister (refusing c.in_err-total.field-0.0))

pub bounds-barge-k : goal.bounds-barge-k
bounds-barge-k c = (begun c.args.barge.now c.args.floor 0 (rw c.in_ok-total.was at c.requires.number) refl).named

pub book_on-requires : goal.book_on-requires
book_on-requires c = sym (begun c.args.barge.now c.args.floor 0 (rw c.in_ok-total.was at c.requires.number) refl).well

pub returns-in_err-book_on : goal.returns-in_err-book_on
returns-in_err-book_on c =
    let p = err_from_is_err_and c.from_residual-in_err-book_on.result c.from_residual-in_err-book_on.ensures.1 in
    let r = book_of (read_at c.args.barge.now c.args.floor) c.args.tile c.args.canister _ c.in_err-book_on.ensures.number _ c.in_err-book_on.ensures.after in
    rw (p.1, p.2) (book_own c.args.barge.now c.args.floor (begun c.args.barge.now c.args.floor 0 (rw c.in_ok-total.was at c.requires.number) refl) c.args.tile c.args.canister _ r (refusing c.in_err-book_on.field-0.0))

pub returns-in_err-test_allowance : goal.returns-in_err-test_allowance
returns-in_err-test_allowance c =
    let p = err_from_is_err_and c.from_residual-in_err-test_allowance.result c.from_residual-in_err-test_allowance.ensures.1 in
    let r = book_of (read_at c.args.barge.now c.args.floor) c.args.tile c.args.canister _ c.in_ok-book_on.ensures.number _ c.in_ok-book_on.ensures.after in
    rw (p.1, p.2) (book_full c.args.barge.now c.args.floor (begun c.args.barge.now c.args.floor 0 (rw c.in_ok-total.was at c.requires.number) refl) c.args.tile c.args.canister _ r refl c.in_ok-total.total _ (rw c.in_ok-total.was at c.requires.total) c.in_err-test_allowance.ensures (refusing c.in_err-test_allowance.field-0.0))

pub bounds-barge-k-2 : goal.bounds-barge-k-2
bounds-barge-k-2 c = (begun c.args.barge.now c.args.floor 0 (rw c.in_ok-total.was at c.requires.number) refl).named

pub returns : goal.returns
returns c =
    let r = book_of (read_at c.args.barge.now c.args.floor) c.args.tile c.args.canister _ c.in_ok-book_on.ensures.number _ c.in_ok-book_on.ensures.after in
    book_done c.args.barge.now c.args.floor (begun c.args.barge.now c.args.floor 0 (rw c.in_ok-total.was at c.requires.number) refl) c.args.tile c.args.canister _ r refl c.in_ok-total.total 0 (rw c.in_ok-total.was at c.requires.total) c.in_ok-test_allowance.ensures refl
