use mathlib.Core.Path.{ap, ◌∙◌}
use native.Mathlib.Omega.{arith}
use Rattle.floor.proofs.Pack.{below_64, well_lengths}
use mathlib.Core.List.{List}
use lib.ListN.{length}
use Rattle.floor.specs.declared.Canister.{Canister}
use Rattle.round_members.proofs.Sized.{items_length}
use Rattle.book_call.proofs.Tests.{book_fits}
use Rattle.book_call.proofs.Booking.{on, book_ready, booked_pack}
use Rattle.book_call.proofs.put.Goals as goal

pub insert-more-requires : goal.insert-more-requires
insert-more-requires c =
    let r = c.requires in
    rw r.read (book_ready c.args.floor.now c.args.tile r.well c.args.canister r.passed)

pub slice_bounds-copy_from_slice-end : goal.slice_bounds-copy_from_slice-end
slice_bounds-copy_from_slice-end c =
    let r = c.requires in
    let f = c.args.floor.now in
    omega (arith, below_64 f c.args.tile r.well (on f c.args.tile r.well c.args.canister r.passed), (well_lengths f r.well).1)

pub with_booking-floor-requires : goal.with_booking-floor-requires
with_booking-floor-requires c = let r = c.requires in book_fits _ _ _ r.passed r.well

pub returns : goal.returns
returns c =
    let r = c.requires in
    let e = c.copy_from_slice.ensures in
    booked_pack c.args.floor.now c.args.tile r.well c.args.canister r.passed c.insert-more.result _ _ _ (rw r.read at c.insert-more.ensures) e.after (ap (λ (l : List Canister). length l) e.after ∙ items_length c.insert-more.result _ c.insert-more.type_inv) c.with_count.ensures c.with_booking-floor.ensures
