use mathlib.Core.Path.{refl, sym, ap, ◌∙◌}
use native.Mathlib.Omega.{arith}
use lib.ListN.{set}
use Rattle.laws.proofs.Tests.{not_both}
use Rattle.floor.specs.Settings.{is_hopper}
use Rattle.floor.specs.Move.{leaving}
use Rattle.round_parts.proofs.Delivered.{listed}
use Rattle.round_parts.proofs.hopper_intake.Goals as goal

pub bounds-taken-from : goal.bounds-taken-from
unfolding is_hopper
bounds-taken-from c = omega (arith, c.from.ensures, c.requires.2 (sym c.holds.ensures ∙ c.if-holds.true))

pub overflow_add-result : goal.overflow_add-result
unfolding is_hopper
overflow_add-result c = omega (arith, c.requires.2 (sym c.holds.ensures ∙ c.if-holds.true))

pub returns-then-holds : goal.returns-then-holds
unfolding is_hopper
returns-then-holds c =
    let g = c.args in
    let on = sym c.holds.ensures ∙ c.if-holds.true in
    let x = c.partition in
    let e = listed x.result (leaving g.s g.come.code g.others.now) c.delivery.result x.ensures c.delivery.ensures in
    (λ h. (refl, ap (λ k. set g.intake.deliveries k c.delivery.result) c.from.ensures ∙ ap (set g.intake.deliveries g.intake.found) e), λ n. not_both on n)

pub returns : goal.returns
unfolding is_hopper
returns c =
    let off = sym c.holds.ensures ∙ c.if-holds.false in
    (λ h. not_both h off, λ n. refl)
