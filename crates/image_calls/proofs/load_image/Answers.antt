use Rattle.image.proofs.Promises.{load_12, load_other}
use mathlib.Core.Path.{◌∙◌}
use Rattle.image_calls.proofs.load_image.Goals as goal

pub returns-then-r-well : goal.returns-then-r-well
returns-then-r-well c =
    let W = c in
    let R = W in
    (rw c.from.ensures at c.refused-out.ensures) ∙ load_12 R.args.bytes.now _ _ R.read_image-r.ensures W.well_formed-well.ensures c.if-r-well.true

pub returns-else-r-well : goal.returns-else-r-well
returns-else-r-well c =
    let W = c in
    let R = W in
    load_other R.args.bytes.now _ _ R.read_image-r.ensures W.well_formed-well.ensures c.if-r-well.false
