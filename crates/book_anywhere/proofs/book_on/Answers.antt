use mathlib.Core.Path.{◌≡◌, refl, sym, ◌∙◌}
use mathlib.Core.Bool.{true}
use native.Mathlib.Omega.{arith}
use Rattle.std.proofs.lemmas.Result.{err_from_is_err_and}
use Rattle.laws.specs.Define.{refusal}
use Rattle.floor.specs.Memory.{view}
use Rattle.floor.specs.Well.{well_formed}
use Rattle.floor.specs.Anywhere.{anywhere_tests, placed_at}
use Rattle.floor.specs.Numbers.{refusal_number}
use Rattle.floor.proofs.Pack.{well_few, well_measured}
use Rattle.book_call.proofs.Booking.{own_few}
use Rattle.book_anywhere.proofs.Answer.{anywhere_number, anywhere_place, anywhere_booked, number_malformed, number_refused, number_accepted}
use Rattle.book_anywhere.proofs.book_on.Goals as goal
use Rattle.book_anywhere.proofs.book_on.Goals.{After-from_residual, After-put}

pub returns-then-not-well-clause-number : goal.returns-then-not-well-clause-number
returns-then-not-well-clause-number c = (number_malformed c.args.floor.now c.args.tile c.args.number (sym c.requires ∙ c.if-not-well.true)).0

pub returns-then-not-well-clause-after : goal.returns-then-not-well-clause-after
returns-then-not-well-clause-after c = (number_malformed c.args.floor.now c.args.tile c.args.number (sym c.requires ∙ c.if-not-well.true)).1

pub shared_ref_as_front-find : goal.shared_ref_as_front-find
shared_ref_as_front-find c = rw c.own_at-own.ensures (own_few c.args.floor.now c.args.tile (sym c.requires ∙ c.if-not-well.false))

pub find-requires : goal.find-requires
find-requires c =
    let f = c.args.floor.now in
    let w : well_formed f ≡ true = sym c.requires ∙ c.if-not-well.false in
    (well_few f w, omega (arith, (well_measured f w).short), omega (arith, (well_measured f w).narrow))

-- refused: the floor's tests give the number
refused : (c : After-from_residual) → refusal_number c.in_err-canister.field-0.0 ≡ refusal (anywhere_tests (view c.args.floor.now) c.args.tile c.args.number)
refused c = anywhere_number c.args.floor.now c.args.tile (sym c.requires ∙ c.if-not-well.false) c.args.number _ (rw c.own_at-own.ensures at c.in_err-canister.ensures.number)

pub returns-in_err-canister-clause-number : goal.returns-in_err-canister-clause-number
returns-in_err-canister-clause-number c =
    let p = err_from_is_err_and c.from_residual.result c.from_residual.ensures.1 in
    rw (p.1, p.2) (number_refused c.args.floor.now c.args.tile c.args.number (sym c.requires ∙ c.if-not-well.false) c.in_err-canister.field-0.0 (refused c)).0

pub returns-in_err-canister-clause-after : goal.returns-in_err-canister-clause-after
returns-in_err-canister-clause-after c = (number_refused c.args.floor.now c.args.tile c.args.number (sym c.requires ∙ c.if-not-well.false) c.in_err-canister.field-0.0 (refused c)).1

-- accepted: none of them refuses
pub put-requires-clause-passed : goal.put-requires-clause-passed
put-requires-clause-passed c =
    anywhere_booked c.args.floor.now c.args.tile (sym c.requires ∙ c.if-not-well.false) c.args.number 0 (rw c.own_at-own.ensures at c.in_ok-canister.ensures.number) refl _ (rw c.own_at-own.ensures at c.in_ok-canister.ensures.place)

placed : (c : After-put) → c.in_ok-canister.canister ≡ placed_at (view c.args.floor.now) c.args.tile c.args.number
placed c = anywhere_place c.args.floor.now c.args.tile (sym c.requires ∙ c.if-not-well.false) c.args.number 0 (rw c.own_at-own.ensures at c.in_ok-canister.ensures.number) refl _ (rw c.own_at-own.ensures at c.in_ok-canister.ensures.place)

accepted : (c : After-put) → 0 ≡ refusal (anywhere_tests (view c.args.floor.now) c.args.tile c.args.number)
accepted c = anywhere_number c.args.floor.now c.args.tile (sym c.requires ∙ c.if-not-well.false) c.args.number 0 (rw c.own_at-own.ensures at c.in_ok-canister.ensures.number)

pub returns-clause-number : goal.returns-clause-number
returns-clause-number c = (number_accepted c.args.floor.now c.args.tile c.args.number (sym c.requires ∙ c.if-not-well.false) (accepted c) c.put.new.floor _ (placed c) c.put.ensures).0

pub returns-clause-place : goal.returns-clause-place
returns-clause-place c = placed c

pub returns-clause-after : goal.returns-clause-after
returns-clause-after c = (number_accepted c.args.floor.now c.args.tile c.args.number (sym c.requires ∙ c.if-not-well.false) (accepted c) c.put.new.floor _ (placed c) c.put.ensures).1
