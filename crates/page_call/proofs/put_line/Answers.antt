use Rattle.page_call.proofs.Pieces.{line_put}
use borrow.Author.Rules.{rules}
use Rattle.page_call.proofs.put_line.Goals as goal

pub returns : goal.returns
returns c = search (line_put, rules)
