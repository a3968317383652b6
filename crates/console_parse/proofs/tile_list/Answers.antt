use Rattle.std.proofs.Common.{arith}
use Rattle.console_parse.proofs.Line.{unread_all, tiles_unread, tiles_large, tiles_more, tiles_end}
use Rattle.console_parse.proofs.tile_list.Goals as goal

pub loop-t-init : goal.loop-t-init
loop-t-init c = record {
  below = omega arith;
  unread = unread_all c.args.word.now;
}

pub returns-in_err-t : goal.returns-in_err-t
returns-in_err-t c = tiles_unread _ _ _ _ c.find-to.ensures.lower_bound c.find-to.ensures.by_index c.find-to.ensures.result_value c.loop-t.invariant.unread _ c.in_err-t.ensures c.from_residual.ensures

pub returns-then-t-gt63 : goal.returns-then-t-gt63
returns-then-t-gt63 c = tiles_large _ _ _ _ c.find-to.ensures.lower_bound c.find-to.ensures.by_index c.find-to.ensures.result_value c.loop-t.invariant.unread _ c.in_ok-t.ensures c.if-t-gt63.true

pub returns-then-to-word : goal.returns-then-to-word
returns-then-to-word c = tiles_end _ _ _ _ c.find-to.ensures.lower_bound c.find-to.ensures.by_index c.find-to.ensures.result_value c.loop-t.invariant.unread _ _ c.in_ok-t.ensures (omega arith) c.with-set.ensures c.if-to-word.true

pub loop-t-preserved : goal.loop-t-preserved
loop-t-preserved c =
    record {
      below = omega arith;
      unread = tiles_more _ _ _ _ c.find-to.ensures.lower_bound c.find-to.ensures.by_index c.find-to.ensures.result_value c.loop-t.invariant.unread _ _ c.in_ok-t.ensures (omega arith) c.with-set.ensures c.if-to-word.false;
    }
