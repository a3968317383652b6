use Rattle.page_call.proofs.Pieces.{cell_put}
use borrow.Author.Rules.{rules}
use Rattle.page_call.proofs.put_cell.Goals as goal

pub returns : goal.returns
returns c = search (cell_put, rules)
