use mathlib.Core.Path.{sym, ap, ◌∙◌}
use native.Mathlib.Omega.{arith}
use Rattle.floor.specs.Calls.{fresh_answer}
use Rattle.image.proofs.Promises.{load_empty, load_some}
use Rattle.image_calls.proofs.load.Goals as goal

pub returns-then-bytes-eq0 : goal.returns-then-bytes-eq0
returns-then-bytes-eq0 c =
    let I = c in
    let x = I.args.bytes.now in
    c.fresh-made.ensures ∙ ap fresh_answer c.standard_settings.ensures ∙ load_empty x (omega (arith, I.if-bytes-eq0.true))

pub returns-else-bytes-eq0 : goal.returns-else-bytes-eq0
returns-else-bytes-eq0 c =
    let x = c.args.bytes.now in
    c.load_image-out.ensures ∙ sym (load_some x (omega (arith, c.if-bytes-eq0.false)))
