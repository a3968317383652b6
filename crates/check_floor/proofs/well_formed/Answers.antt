use mathlib.Core.Path.{sym, ◌∙◌}
use Rattle.floor.proofs.Sized.{tiles_length, canisters_length, layouts_length}
use Rattle.check_floor.proofs.WellCode.{settings_tested, well_refused, state_off, layouts_off, layouts_on}
use Rattle.check_floor.proofs.well_formed.Goals as goal

pub layouts_ok-requires : goal.layouts_ok-requires
layouts_ok-requires c = sym (settings_tested c.args.f.settings c.test_settings.result c.test_settings.ensures) ∙ sym c.is_ok.ensures.value ∙ c.if-is_ok.true

pub scan-requires : goal.scan-requires
scan-requires c = sym (settings_tested c.args.f.settings c.test_settings.result c.test_settings.ensures) ∙ sym c.is_ok.ensures.value ∙ c.if-is_ok.true

pub returns-then-layouts_ok : goal.returns-then-layouts_ok
returns-then-layouts_ok c = c.scan.ensures ∙ layouts_on c.args.f (layouts_length c.args.f _ c.well_formed.0) (sym c.layouts_ok.ensures ∙ c.if-layouts_ok.true)

pub returns-else-layouts_ok : goal.returns-else-layouts_ok
returns-else-layouts_ok c = c.if-layouts_ok.false ∙ layouts_off c.args.f (layouts_length c.args.f _ c.well_formed.0) (sym c.layouts_ok.ensures ∙ c.if-layouts_ok.false)

pub returns-else-is_ok : goal.returns-else-is_ok
returns-else-is_ok c =
    let f = c.args.f in
    let off = sym (settings_tested f.settings c.test_settings.result c.test_settings.ensures) ∙ sym c.is_ok.ensures.value ∙ c.if-is_ok.false in
    c.if-is_ok.false ∙ state_off f (well_refused f (tiles_length f _ c.well_formed.0) (canisters_length f _ c.well_formed.0) off)
