-- Typed bookings: refused, accepted, and lines that can't be read.
use mathlib.Core.Path.{◌≡◌, sym, ◌∙◌}
use mathlib.Core.Logic.{◌≢◌}
use mathlib.Core.Bool.{Bool, true, false, not, ◌&&◌, ◌||◌}
use mathlib.Core.List.{List}
use Prim.Native.Nat.{ℕ}
use lib.Dec.{eqb}
use lib.ListN.{get_or}
use borrow.Author.Tests.{not-true, not-false}
use Rattle.floor.specs.declared.Canister.{Canister}
use Rattle.floor.specs.declared.Answer.{Answer}
use Rattle.floor.specs.declared.Placed.{Placed}
use Rattle.floor.specs.Calls.{book_answer}
use Rattle.floor.specs.Anywhere.{anywhere_answer}
use Rattle.book_list.specs.declared.Listed.{Listed}
use Rattle.book_list.specs.Parts.{places_answer}
use Rattle.std.proofs.Common.{Option, None, Some}
use Rattle.console_parse.specs.Line.{only_numbers, arguments_of}
use Rattle.console_list.specs.declared.Entries.{Entries}
use Rattle.console_list.specs.Entries.{no_entries, with_entry}
use Rattle.console_session.specs.declared.Session.{Session}
use Rattle.console_session.specs.Sessions.{with_floor, with_entries}
use Rattle.console_session.proofs.Sessions.{call_refused, call_accepted}
use Rattle.console_book.specs.Typed.{canister_typed, after_placed, after_booked, book_typed, sent, line_typed}

pub anywhere_refused : (s r : Session) (a b : Placed) → a ≡ b → a.refusal ≢ 0 → r ≡ s → r ≡ after_placed s b
anywhere_refused s r a b e n p = rw (sym e) (call_refused s r a.refusal a.floor n p)

pub anywhere_accepted : (s r : Session) (a b : Placed) → a ≡ b → a.refusal ≡ 0 → r ≡ with_floor s a.floor → r ≡ after_placed s b
anywhere_accepted s r a b e n p = rw (sym e) (call_accepted s r a.refusal a.floor n p)

pub book_answer_lem : (s r : Session) (a b : Answer) → a ≡ b → r ≡ after_booked s a → r ≡ after_booked s b
book_answer_lem s r a b e p = rw (sym e) p

pub book_two : (s r : Session) (line n : List ℕ) → Some n ≡ arguments_of line 2 → r ≡ after_placed s (anywhere_answer s.floor (get_or n 0 0) (get_or n 1 0)) → r ≡ book_typed s line
unfolding book_typed
book_two s r line n e p = rw (sym e) p

pub book_unread : (s r : Session) (line : List ℕ) → None ≡ arguments_of line 2 → None ≡ arguments_of line 4 → r ≡ s → r ≡ book_typed s line
unfolding book_typed
book_unread s r line e f p = rw (sym e, sym f) p

pub book_four : (s r : Session) (line m : List ℕ) (c : Canister) → None ≡ arguments_of line 2 → Some m ≡ arguments_of line 4 → c ≡ canister_typed m → r ≡ after_booked s (book_answer s.floor (get_or m 0 0) c) → r ≡ book_typed s line
unfolding book_typed
book_four s r line m c e f k p = rw (sym e, sym f, sym k) p

pub book_unread_is : (s r : Session) (line : List ℕ) (x : Option (List ℕ)) → x ≡ arguments_of line 2 → x ≡ None → None ≡ arguments_of line 4 → r ≡ s → r ≡ book_typed s line
book_unread_is s r line x e q f p = book_unread s r line (sym q ∙ e) f p

pub book_four_is : (s r : Session) (line m : List ℕ) (c : Canister) (x : Option (List ℕ)) → x ≡ arguments_of line 2 → x ≡ None → Some m ≡ arguments_of line 4 → c ≡ canister_typed m → r ≡ after_booked s (book_answer s.floor (get_or m 0 0) c) → r ≡ book_typed s line
book_four_is s r line m c x e q f k p = book_four s r line m c (sym q ∙ e) f k p

pub entry_unread : (s r : Session) (line : List ℕ) → None ≡ only_numbers line 0 4 → r ≡ s → r ≡ line_typed s line
unfolding line_typed
entry_unread s r line e p = rw (sym e) p

pub entry_read : (s : Session) (line n : List ℕ) (c : Canister) (l : Entries) → Some n ≡ only_numbers line 0 4 → c ≡ canister_typed n → l ≡ with_entry s.entries (record { tile = get_or n 0 0; canister = c; answer = 0 }) → with_entries s l ≡ line_typed s line
unfolding line_typed
entry_read s line n c l e k q = rw (sym e, sym k, sym q)

pub sent_refused : (s r : Session) (a : Listed) (l : Entries) → a ≡ places_answer s.floor s.entries.list s.entries.count → l ≡ no_entries false → (not (eqb a.refusal 0) || not s.made) ≡ true → r ≡ with_entries s l → r ≡ sent s
unfolding sent
sent_refused s r a l e q g p = rw (sym e, g, sym q) p

pub sent_accepted : (s r : Session) (a : Listed) (l : Entries) → a ≡ places_answer s.floor s.entries.list s.entries.count → l ≡ no_entries false → (not (eqb a.refusal 0) || not s.made) ≡ false → r ≡ with_floor (with_entries s l) a.floor → r ≡ sent s
unfolding sent
sent_accepted s r a l e q g p = rw (sym e, g, sym q) p
