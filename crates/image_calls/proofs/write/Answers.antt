use mathlib.Core.Path.{◌≡◌, sym, ap, ◌∙◌}
use mathlib.Core.Bool.{true}
use Prim.Native.Nat.{ℕ}
use native.Mathlib.Omega.{arith}
use lib.ListN.{length}
use Rattle.floor.specs.Memory.{view}
use Rattle.floor.specs.Well.{well_formed}
use Rattle.image.specs.Image.{encode}
use Rattle.image.specs.declared.Written.{Written}
use Rattle.image.proofs.Promises.{write_malformed, write_short, write_whole}
use Rattle.image_calls.proofs.write.Goals as goal

made : ℕ → Written
made k = record { refusal = 0; length = k }

pub returns-then-not-well : goal.returns-then-not-well
returns-then-not-well c =
    let p = write_malformed c.args.floor c.args.buffer.now (sym c.well_formed-well.ensures ∙ c.if-not-well.true) in
    (c.refused.ensures ∙ p.0, p.1)

pub image_length-n-requires : goal.image_length-n-requires
image_length-n-requires c = sym c.well_formed-well.ensures ∙ c.if-not-well.false

pub returns-then-buffer-n : goal.returns-then-buffer-n
returns-then-buffer-n c =
    let g = c.args in
    let p = write_short g.floor g.buffer.now (sym c.well_formed-well.ensures ∙ c.if-not-well.false) (omega (arith, c.image_length-n.ensures, c.if-buffer-n.true)) in
    (c.refused-then-buffer-n.ensures ∙ p.0, p.1)

pub write_image-requires : goal.write_image-requires
write_image-requires c = (sym c.well_formed-well.ensures ∙ c.if-not-well.false, omega (arith, c.image_length-n.ensures, c.if-buffer-n.false))

pub returns : goal.returns
unfolding made
returns c =
    let g = c.args in
    let p = write_whole g.floor g.buffer.now (sym c.well_formed-well.ensures ∙ c.if-not-well.false) (omega (arith, c.image_length-n.ensures, c.if-buffer-n.false)) in
    (ap (λ (k : ℕ). made k) c.image_length-n.ensures ∙ p.0, c.write_image.ensures ∙ p.1)
