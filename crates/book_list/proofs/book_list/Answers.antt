use mathlib.Core.Path.{◌≡◌, sym, ap, ◌∙◌}
use mathlib.Core.List.{List}
use Prim.Native.Nat.{ℕ}
use native.Mathlib.Omega.{arith}
use native.Mathlib.Numerals.{add-one}
use lib.ListN.{length, set, get_or}
use Rattle.floor.specs.declared.Answer.{Answer}
use Rattle.floor.specs.declared.Booking.{Booking}
use Rattle.floor.specs.declared.Floor.{Floor}
use Rattle.floor.specs.Bookings.{answered, single}
use Rattle.book_list.proofs.Upto.{zero_booking, floor_upto, list_upto, list_step, floor_step, done_list, done_answer, long_list}
use Rattle.book_list.proofs.book_list.Goals as goal

pub returns-in-None : goal.returns-in-None
returns-in-None c =
    let e = long_list c.args.floor c.args.list.now c.in-None.ensures in
    (c.too_long.ensures ∙ e.0, e.1)

pub loop-entry-preserved : goal.loop-entry-preserved
loop-entry-preserved c =
    let l = c.loop-entry in
    let g = c.args in
    let i = l.entry-index in
    let v = l.invariant in
    let r = c.book_entry.ensures in
    let y : List Booking → Booking = λ t. get_or t i zero_booking in
    let e : single l.current (y l.list) ≡ single (floor_upto i g.floor g.list.now) (y (list_upto i g.floor g.list.now)) = λ j. single (v.1 j) (y (v.0 j)) in
    let n : c.answered-entry.result ≡ (single (floor_upto i g.floor g.list.now) (y (list_upto i g.floor g.list.now))).refusal = c.answered-entry.ensures ∙ r.number ∙ ap (λ (a : Answer). a.refusal) e in (
      (λ j. set (v.0 j) i (answered (y (v.0 j)) (n j))) ∙ list_step i g.floor g.list.now zero_booking (omega arith) ∙ ap (λ (k : ℕ). list_upto k g.floor g.list.now) (sym (add-one i)),
      r.after ∙ ap (λ (a : Answer). a.floor) e ∙ floor_step i g.floor g.list.now zero_booking (omega arith) ∙ ap (λ (k : ℕ). floor_upto k g.floor g.list.now) (sym (add-one i)),
      v.2 ∙ sym r.still,
    )

pub returns : goal.returns
returns c =
    let l = c.loop-entry in
    let g = c.args in
    let v = l.invariant in
    let few = c.in-Some.ensures.0 in
    let z : l.entry-index ≡ length g.list.now = omega arith in
    let pf : l.current ≡ floor_upto (length g.list.now) g.floor g.list.now = v.1 ∙ ap (λ (j : ℕ). floor_upto j g.floor g.list.now) z in
    let pl : l.list ≡ list_upto (length g.list.now) g.floor g.list.now = v.0 ∙ ap (λ (j : ℕ). list_upto j g.floor g.list.now) z in
    (ap (λ (f : Floor). record { refusal = 0; floor = f }) pf ∙ done_answer g.floor g.list.now few, pl ∙ done_list g.floor g.list.now few)
