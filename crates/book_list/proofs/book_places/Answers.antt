use mathlib.Core.Path.{sym}
use Rattle.book_list.proofs.Singly.{booking_lists}
use Rattle.book_list.proofs.book_places.Goals as goal
use Rattle.book_list.proofs.book_places.Goals.{then-n-le-LONGEST_LIST, else-n-le-LONGEST_LIST}

pub returns : goal.returns
returns c =
    let b = booking_lists.by_value c.args.floor c.args.list c.args.n in
    elim c.if-n-le-LONGEST_LIST.branch [
      | then-n-le-LONGEST_LIST w ↦ let e = w.book_list-own.ensures in rw (w.places-is, w.own-is, e.0, e.1) (sym (b.as_list w.if-n-le-LONGEST_LIST.true))
      | else-n-le-LONGEST_LIST w ↦ rw (w.places-is, w.own-is, w.too_long-own.ensures) (sym (b.too_long w.if-n-le-LONGEST_LIST.false))
    ]
