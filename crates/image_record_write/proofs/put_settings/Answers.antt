use mathlib.Core.Path.{◌≡◌, sym, ◌∙◌}
use mathlib.Core.Bool.{true, false}
use native.Mathlib.Omega.{arith}
use lib.ListN.{length}
use Rattle.image_bytes.specs.Bytes.{bytes}
use Rattle.image_bytes.proofs.ByteLaws.{bytes_length}
use Rattle.image_bytes.proofs.PutLaws.{put_two}
use Rattle.image.specs.Image.{several, settings_body}
use Rattle.image.proofs.Sizes.{settings_size}
use Rattle.image_record_write.specs.InternalParts.{head_bytes}
use Rattle.image_record_write.proofs.RecordBytes.{head_length, settings_more, settings_one}
use Rattle.image_record_write.proofs.put_settings.Goals as goal

pub put_head-requires : goal.put_head-requires
put_head-requires c = let more : several c.args.x ≡ true = sym c.requires.1 ∙ c.if-more.true in let long : length (settings_body c.args.x) ≡ 28 = rw more at (settings_size c.args.x) in omega (arith, c.requires.0)

pub put_at-requires : goal.put_at-requires
put_at-requires c =
    let more : several c.args.x ≡ true = sym c.requires.1 ∙ c.if-more.true in let long : length (settings_body c.args.x) ≡ 28 = rw more at (settings_size c.args.x) in
    omega (arith, c.requires.0, c.put_head.auto.s)

pub put_head-requires-else-more : goal.put_head-requires-else-more
put_head-requires-else-more c = let one : several c.args.x ≡ false = sym c.requires.1 ∙ c.if-more.false in let long : length (settings_body c.args.x) ≡ 20 = rw one at (settings_size c.args.x) in omega (arith, c.requires.0)

pub returns-then-more : goal.returns-then-more
returns-then-more c =
    let g = c.args in
    let more : several c.args.x ≡ true = sym c.requires.1 ∙ c.if-more.true in let long : length (settings_body c.args.x) ≡ 28 = rw more at (settings_size c.args.x) in
    let n1 = head_length g.x 28 in
    let n2 = bytes_length 8 g.x.hoppers in
    rw (← settings_more g.x more)
    (put_two g.s.now _ _ g.at _ (head_bytes g.x 28) (bytes 8 g.x.hoppers) (omega (arith, c.requires.0)) (omega arith) c.put_head.ensures c.put_at.ensures)

pub returns-else-more : goal.returns-else-more
returns-else-more c =
    rw (← settings_one c.args.x (sym c.requires.1 ∙ c.if-more.false)) c.put_head-else-more.ensures
