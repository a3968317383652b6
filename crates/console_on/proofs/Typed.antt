-- Typed calls on a floor of the barge: refused, accepted, and lines that can't be read.
use Rattle.std.proofs.Common.{◌≡◌, ℕ, ◌≢◌, List, Option, None, Some, get_or, sym, ◌∙◌, ne_eqb}
use Rattle.floor.specs.declared.Canister.{Canister}
use Rattle.barge.specs.declared.Barge.{Barge}
use Rattle.barge.specs.declared.BargeAnswer.{BargeAnswer}
use Rattle.barge.specs.declared.BargePlaced.{BargePlaced}
use Rattle.barge.specs.Barges.{barge_book, barge_book_anywhere, barge_stop, barge_repair}
use Rattle.console_book.specs.Typed.{canister_typed}
use Rattle.console_barge.specs.declared.WithBarge.{WithBarge}
use Rattle.console_barge.specs.Aboard.{barge_set, after_on}
use Rattle.console_on.specs.Typed.{arguments_on, answered_on, placed_on, stop_on, repair_on, book_on}

call_refused : (a r : WithBarge) (n : ℕ) (b : Barge) → n ≢ 0 → r ≡ a → r ≡ after_on a n b
unfolding after_on
call_refused a r n b h p = rw (ne_eqb n 0 h) p

call_accepted : (a r : WithBarge) (n : ℕ) (b : Barge) → n ≡ 0 → r ≡ barge_set a b → r ≡ after_on a n b
unfolding after_on
call_accepted a r n b h p = rw h p

pub on_refused : (a r : WithBarge) (x : BargeAnswer) → x.refusal ≢ 0 → r ≡ a → r ≡ answered_on a x
on_refused a r x h p = call_refused a r x.refusal x.barge h p

pub on_accepted : (a r : WithBarge) (x : BargeAnswer) → x.refusal ≡ 0 → r ≡ barge_set a x.barge → r ≡ answered_on a x
on_accepted a r x h p = call_accepted a r x.refusal x.barge h p

pub anywhere_refused : (a r : WithBarge) (x y : BargePlaced) → x ≡ y → x.refusal ≢ 0 → r ≡ a → r ≡ placed_on a y
anywhere_refused a r x y e h p = rw (sym e) (call_refused a r x.refusal x.barge h p)

pub anywhere_accepted : (a r : WithBarge) (x y : BargePlaced) → x ≡ y → x.refusal ≡ 0 → r ≡ barge_set a x.barge → r ≡ placed_on a y
anywhere_accepted a r x y e h p = rw (sym e) (call_accepted a r x.refusal x.barge h p)

pub book_answer_lem : (a r : WithBarge) (x y : BargeAnswer) → x ≡ y → r ≡ answered_on a x → r ≡ answered_on a y
book_answer_lem a r x y e p = rw (sym e) p

pub stop_unread : (a r : WithBarge) (line : List ℕ) (k : ℕ) → None ≡ arguments_on line 1 → r ≡ a → r ≡ stop_on a line k
unfolding stop_on
stop_unread a r line k e p = rw (sym e) p

pub stop_read : (a r : WithBarge) (line : List ℕ) (k : ℕ) (n : List ℕ) (x : BargeAnswer) → Some n ≡ arguments_on line 1 → x ≡ barge_stop a.barge k (get_or n 0 0) → r ≡ answered_on a x → r ≡ stop_on a line k
unfolding stop_on
stop_read a r line k n x e q p = rw (sym e, sym q) p

pub repair_unread : (a r : WithBarge) (line : List ℕ) (k : ℕ) → None ≡ arguments_on line 1 → r ≡ a → r ≡ repair_on a line k
unfolding repair_on
repair_unread a r line k e p = rw (sym e) p

pub repair_read : (a r : WithBarge) (line : List ℕ) (k : ℕ) (n : List ℕ) (x : BargeAnswer) → Some n ≡ arguments_on line 1 → x ≡ barge_repair a.barge k (get_or n 0 0) → r ≡ answered_on a x → r ≡ repair_on a line k
unfolding repair_on
repair_read a r line k n x e q p = rw (sym e, sym q) p

pub book_two : (a r : WithBarge) (line : List ℕ) (k : ℕ) (n : List ℕ) → Some n ≡ arguments_on line 2 → r ≡ placed_on a (barge_book_anywhere a.barge k (get_or n 0 0) (get_or n 1 0)) → r ≡ book_on a line k
unfolding book_on
book_two a r line k n e p = rw (sym e) p

pub book_unread : (a r : WithBarge) (line : List ℕ) (k : ℕ) → None ≡ arguments_on line 2 → None ≡ arguments_on line 4 → r ≡ a → r ≡ book_on a line k
unfolding book_on
book_unread a r line k e f p = rw (sym e, sym f) p

pub book_four : (a r : WithBarge) (line : List ℕ) (k : ℕ) (m : List ℕ) (c : Canister) → None ≡ arguments_on line 2 → Some m ≡ arguments_on line 4 → c ≡ canister_typed m → r ≡ answered_on a (barge_book a.barge k (get_or m 0 0) c) → r ≡ book_on a line k
unfolding book_on
book_four a r line k m c e f q p = rw (sym e, sym f, sym q) p

pub book_unread_is : (a r : WithBarge) (line : List ℕ) (k : ℕ) (x : Option (List ℕ)) → x ≡ arguments_on line 2 → x ≡ None → None ≡ arguments_on line 4 → r ≡ a → r ≡ book_on a line k
book_unread_is a r line k x e q f p = book_unread a r line k (sym q ∙ e) f p

pub book_four_is : (a r : WithBarge) (line : List ℕ) (k : ℕ) (m : List ℕ) (c : Canister) (x : Option (List ℕ)) → x ≡ arguments_on line 2 → x ≡ None → Some m ≡ arguments_on line 4 → c ≡ canister_typed m → r ≡ answered_on a (barge_book a.barge k (get_or m 0 0) c) → r ≡ book_on a line k
book_four_is a r line k m c x e q f h p = book_four a r line k m c (sym q ∙ e) f h p
