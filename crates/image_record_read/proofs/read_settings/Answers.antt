use Rattle.std.proofs.lemmas.Result.{err_from_is_err_and}
use mathlib.Core.Path.{sym, ◌∙◌}
use native.Mathlib.Omega.{arith}
use Rattle.image_record_read.proofs.Refusals.{settings_found, settings_sized, lengths_out, shaped, settings_long, settings_byte, settings_lowest, settings_sizes, settings_few, settings_right}
use Rattle.image_record_read.proofs.read_settings.Goals as goal

pub returns-then-n : goal.returns-then-n
returns-then-n c = let e = lengths_out c.args.n c.if-n.true in (settings_long c.args.s.now c.args.at c.args.n e.0 e.1, tt)

pub bounds-s-at : goal.bounds-s-at
bounds-s-at c = let b = shaped c.requires c.if-n.false in omega (arith, b.room)

pub returns-then-s-at-ne0 : goal.returns-then-s-at-ne0
returns-then-s-at-ne0 c = let g = c.args in let b = shaped c.requires c.if-n.false in (settings_byte g.s.now g.at g.n b.long b.room c.if-s-at-ne0.true, tt)

pub settings_at-x-requires : goal.settings_at-x-requires
settings_at-x-requires c = (c.requires, (shaped c.requires c.if-n.false).long)

pub bounds-s-at-2 : goal.bounds-s-at-2
bounds-s-at-2 c = let b = shaped c.requires c.if-n.false in omega (arith, b.room)

pub returns-then-more-wrong : goal.returns-then-more-wrong
returns-then-more-wrong c = (settings_lowest (settings_found (shaped c.requires c.if-n.false) c.if-s-at-ne0.false c.settings_at-x.ensures c.byte_wrong-wrong.ensures) c.if-more-wrong.true, tt)

pub returns-then-sizes_wrong : goal.returns-then-sizes_wrong
returns-then-sizes_wrong c = (settings_sizes (settings_found (shaped c.requires c.if-n.false) c.if-s-at-ne0.false c.settings_at-x.ensures c.byte_wrong-wrong.ensures) c.if-more-wrong.false (sym c.sizes_wrong.ensures ∙ c.if-sizes_wrong.true), tt)

pub returns-then-more-count : goal.returns-then-more-count
returns-then-more-count c = (settings_few (settings_sized (settings_found (shaped c.requires c.if-n.false) c.if-s-at-ne0.false c.settings_at-x.ensures c.byte_wrong-wrong.ensures) c.if-more-wrong.false c.sizes_wrong.ensures c.if-sizes_wrong.false) _ c.size-count.ensures c.if-more-count.true, tt)

pub returns : goal.returns
returns c = (c.in_ok-test_settings.ensures ∙ settings_right (settings_sized (settings_found (shaped c.requires c.if-n.false) c.if-s-at-ne0.false c.settings_at-x.ensures c.byte_wrong-wrong.ensures) c.if-more-wrong.false c.sizes_wrong.ensures c.if-sizes_wrong.false) _ c.size-count.ensures c.if-more-count.false, c.settings_at-x.ensures)

pub returns-in_err-test_settings : goal.returns-in_err-test_settings
returns-in_err-test_settings c =
    let p = err_from_is_err_and c.from_residual.result c.from_residual.ensures.1 in
    rw (p.1, p.2) (c.in_err-test_settings.ensures ∙ settings_right (settings_sized (settings_found (shaped c.requires c.if-n.false) c.if-s-at-ne0.false c.settings_at-x.ensures c.byte_wrong-wrong.ensures) c.if-more-wrong.false c.sizes_wrong.ensures c.if-sizes_wrong.false) _ c.size-count.ensures c.if-more-count.false, tt)
