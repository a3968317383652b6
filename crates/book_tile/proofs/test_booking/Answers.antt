use Rattle.book_tile.proofs.Tests.{book_4, book_5, book_6, book_7, book_31, book_33, book_34, book_0}
use borrow.Author.Rules.{rules}
use Rattle.book_tile.proofs.test_booking.Goals as goal

pub returns-then-off : goal.returns-then-off
returns-then-off c = search (book_4, rules)

pub returns-then-not-fill : goal.returns-then-not-fill
returns-then-not-fill c = search (book_5, rules)

pub returns-then-c-eq0 : goal.returns-then-c-eq0
returns-then-c-eq0 c = search (book_6, rules)

pub returns-then-not-within : goal.returns-then-not-within
returns-then-not-within c = search (book_7, rules)

pub returns-then-idle : goal.returns-then-idle
returns-then-idle c = search (book_31, rules)

pub returns-then-past : goal.returns-then-past
returns-then-past c = search (book_33, rules)

pub returns-then-not-has_room : goal.returns-then-not-has_room
returns-then-not-has_room c = search (book_34, rules)

pub returns : goal.returns
returns c = search (book_0, rules)
