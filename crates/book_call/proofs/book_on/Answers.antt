use mathlib.Core.Path.{◌≡◌, sym, ◌∙◌}
use mathlib.Core.Bool.{true}
use native.Mathlib.Omega.{arith}
use Rattle.std.proofs.lemmas.Result.{err_from_is_err_and}
use Rattle.laws.specs.Define.{refusal}
use Rattle.floor.specs.Memory.{view}
use Rattle.floor.specs.Well.{well_formed}
use Rattle.floor.specs.Calls.{book_tests}
use Rattle.floor.specs.Numbers.{refusal_number}
use Rattle.floor.proofs.Pack.{well_few, well_measured}
use Rattle.book_call.proofs.Booking.{own_few, book_number, book_refused, book_accepted, book_malformed}
use Rattle.book_call.proofs.book_on.Goals as goal
use Rattle.book_call.proofs.book_on.Goals.{Else-not-well, After-from_residual, After-put}

pub returns-then-not-well-clause-number : goal.returns-then-not-well-clause-number
returns-then-not-well-clause-number c = (book_malformed c.args.floor.now c.args.tile c.args.canister (sym c.requires ∙ c.if-not-well.true)).0

pub returns-then-not-well-clause-after : goal.returns-then-not-well-clause-after
returns-then-not-well-clause-after c = (book_malformed c.args.floor.now c.args.tile c.args.canister (sym c.requires ∙ c.if-not-well.true)).1

pub shared_ref_as_front-test_booking : goal.shared_ref_as_front-test_booking
shared_ref_as_front-test_booking c = rw c.own_at-own.ensures (own_few c.args.floor.now c.args.tile (sym c.requires ∙ c.if-not-well.false))

pub test_booking-requires : goal.test_booking-requires
test_booking-requires c =
    let f = c.args.floor.now in
    let w : well_formed f ≡ true = sym c.requires ∙ c.if-not-well.false in
    (well_few f w, omega (arith, (well_measured f w).short))

-- refused: the floor's tests give the number
refused : (c : After-from_residual) → refusal_number c.in_err-test_booking.field-0.0 ≡ refusal (book_tests (view c.args.floor.now) c.args.tile c.args.canister)
refused c = book_number c.args.floor.now c.args.tile (sym c.requires ∙ c.if-not-well.false) c.args.canister _ (rw c.own_at-own.ensures at c.in_err-test_booking.ensures)

pub returns-in_err-test_booking-clause-number : goal.returns-in_err-test_booking-clause-number
returns-in_err-test_booking-clause-number c =
    let p = err_from_is_err_and c.from_residual.result c.from_residual.ensures.1 in
    rw (p.1, p.2) (book_refused c.args.floor.now c.args.tile c.args.canister (sym c.requires ∙ c.if-not-well.false) c.in_err-test_booking.field-0.0 (refused c)).0

pub returns-in_err-test_booking-clause-after : goal.returns-in_err-test_booking-clause-after
returns-in_err-test_booking-clause-after c = (book_refused c.args.floor.now c.args.tile c.args.canister (sym c.requires ∙ c.if-not-well.false) c.in_err-test_booking.field-0.0 (refused c)).1

-- accepted: none of them refuses
pub put-requires-clause-passed : goal.put-requires-clause-passed
put-requires-clause-passed c = sym (book_number c.args.floor.now c.args.tile (sym c.requires ∙ c.if-not-well.false) c.args.canister 0 (rw c.own_at-own.ensures at c.in_ok-test_booking.ensures))

accepted : (c : After-put) → 0 ≡ refusal (book_tests (view c.args.floor.now) c.args.tile c.args.canister)
accepted c = book_number c.args.floor.now c.args.tile (sym c.requires ∙ c.if-not-well.false) c.args.canister 0 (rw c.own_at-own.ensures at c.in_ok-test_booking.ensures)

pub returns-clause-number : goal.returns-clause-number
returns-clause-number c = (book_accepted c.args.floor.now c.args.tile c.args.canister (sym c.requires ∙ c.if-not-well.false) (accepted c) c.put.new.floor c.put.ensures).0

pub returns-clause-after : goal.returns-clause-after
returns-clause-after c = (book_accepted c.args.floor.now c.args.tile c.args.canister (sym c.requires ∙ c.if-not-well.false) (accepted c) c.put.new.floor c.put.ensures).1
