use mathlib.Core.Path.{refl, ◌∙◌}
use native.Mathlib.Omega.{arith}
use Rattle.image_record_read.proofs.Exits.{passed_up}
use Rattle.image_read.proofs.Load.{first_read, second_read, first_long, second_begins, hoppers_few, second_long, third_begins, stop_1, stop_2, front_is, front_read}
use Rattle.image_read.proofs.read_front.Goals as goal
use Rattle.floor.proofs.Refusing.{refusing}

pub returns-in_err-settings : goal.returns-in_err-settings
returns-in_err-settings c =
    let e = c.in_err-settings.field-0.0 in
    passed_up _ e c.from_residual.result c.from_residual.ensures.1 (stop_1 c.args.s.now _ c.in_err-settings.ensures.0 (refusing e))

pub read_at-n1-requires : goal.read_at-n1-requires
read_at-n1-requires c = first_long c.args.s.now 0 c.in_ok-settings.ensures.0 refl

pub read_record-requires-2 : goal.read_record-requires-2
read_record-requires-2 c = let F = first_read c.in_ok-settings.ensures c.in-Settings.is (c.from-second.ensures ∙ c.read_at-n1.ensures) c.size-hoppers.ensures in (second_begins F, omega arith, omega arith, λ e. hoppers_few F)

pub returns-in_err-counters : goal.returns-in_err-counters
returns-in_err-counters c =
    let e = c.in_err-counters.field-0.0 in
    passed_up _ e c.from_residual-in_err-counters.result c.from_residual-in_err-counters.ensures.1 (stop_2 (first_read c.in_ok-settings.ensures c.in-Settings.is (c.from-second.ensures ∙ c.read_at-n1.ensures) c.size-hoppers.ensures) _ c.in_err-counters.ensures.0 (refusing e))

pub read_at-n2-requires : goal.read_at-n2-requires
read_at-n2-requires c = let m = second_long (second_read (first_read c.in_ok-settings.ensures c.in-Settings.is (c.from-second.ensures ∙ c.read_at-n1.ensures) c.size-hoppers.ensures) c.in_ok-counters.ensures c.in-Counters.is) in omega arith

pub scan_layouts-requires : goal.scan_layouts-requires
scan_layouts-requires c = third_begins (second_read (first_read c.in_ok-settings.ensures c.in-Settings.is (c.from-second.ensures ∙ c.read_at-n1.ensures) c.size-hoppers.ensures) c.in_ok-counters.ensures c.in-Counters.is) _ (c.from.ensures ∙ c.read_at-n2.ensures)

pub returns-in_err-layouts : goal.returns-in_err-layouts
returns-in_err-layouts c = passed_up _ _ c.from_residual-in_err-layouts.result c.from_residual-in_err-layouts.ensures.1 (front_is (second_read (first_read c.in_ok-settings.ensures c.in-Settings.is (c.from-second.ensures ∙ c.read_at-n1.ensures) c.size-hoppers.ensures) c.in_ok-counters.ensures c.in-Counters.is) _ (c.from.ensures ∙ c.read_at-n2.ensures) _ c.in_err-layouts.ensures.0)

pub returns : goal.returns
returns c =
    let S = second_read (first_read c.in_ok-settings.ensures c.in-Settings.is (c.from-second.ensures ∙ c.read_at-n1.ensures) c.size-hoppers.ensures) c.in_ok-counters.ensures c.in-Counters.is in
    let n = c.from.ensures ∙ c.read_at-n2.ensures in
    let l = c.in_ok-layouts.ensures in
    (front_is S _ n 0 l.0, front_read S _ n _ _ l.1)
