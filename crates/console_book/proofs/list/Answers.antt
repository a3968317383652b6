use Rattle.console_book.proofs.list.Goals as goal

pub returns : goal.returns
returns c = rw c.none.ensures
