use native.Mathlib.Omega.{arith}
use Rattle.page.proofs.PrintedText.{tell_refused, tell_page}
use Rattle.page.proofs.tell.Goals as goal

pub returns-then-loaded-ne0 : goal.returns-then-loaded-ne0
returns-then-loaded-ne0 c =
    tell_refused c.args.bytes.now c.args.text.now c.put_refused.new.text c.load-loaded.result c.load-loaded.ensures c.requires (omega (arith, c.put_refused.auto.text)) _ c.if-loaded-ne0.true c.put_refused.ensures

pub returns : goal.returns
returns c =
    tell_page c.args.bytes.now c.args.text.now c.page-written.new.buffer c.load-loaded.result c.load-loaded.ensures c.requires (omega (arith, c.page-written.auto.buffer)) c.page-written.result c.if-loaded-ne0.false c.page-written.ensures
