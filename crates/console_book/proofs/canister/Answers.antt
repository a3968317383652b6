use Rattle.console_book.proofs.canister.Goals as goal

pub returns : goal.returns
returns c = rw (c.short.ensures, c.short-2.ensures)
