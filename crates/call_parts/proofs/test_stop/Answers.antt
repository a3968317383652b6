use Rattle.std.proofs.lemmas.Result.{err_from_is_err_and}
use Rattle.call_parts.proofs.Tests.{read_on, stop_off, stop_8, stop_31, stop_0}
use borrow.Author.Rules.{rules}
use Rattle.call_parts.proofs.test_stop.Goals as goal

pub returns-in_err-test_read : goal.returns-in_err-test_read
returns-in_err-test_read c = let p = err_from_is_err_and c.from_residual.result c.from_residual.ensures.1 in rw (p.1, p.2) (stop_off _ _ _ c.in_err-test_read.ensures)

pub returns-then-holds : goal.returns-then-holds
returns-then-holds c = search (stop_8, rules)

pub tile_head-requires : goal.tile_head-requires
tile_head-requires c = search (read_on, rules)

pub returns-then-tile_head-ne1 : goal.returns-then-tile_head-ne1
returns-then-tile_head-ne1 c = search (stop_31, rules)

pub returns : goal.returns
returns c = search (stop_0, rules)
