use Rattle.std.proofs.Common.{◌≡◌, true, T, sym, refl, ◌∙◌, subst, arith}
use lib.Ieee.{of_bits}
use Rattle.throughput.specs.Rate.{rate_sound, deliveries_of}
use Rattle.throughput.proofs.Exact.{far_below, step_above, step_below, step_count}
use Rattle.throughput.proofs.deliveries_of.Goals as goal

pub truncating_f64_to_u64-n-requires : goal.truncating_f64_to_u64-n-requires
unfolding of_bits
truncating_f64_to_u64-n-requires c =
    let x = c.args.rate in
    let h : rate_sound x ≡ true = sym c.rate_sound.ensures ∙ c.if-rate_sound.true in
    record { lower_bound = subst T (sym (step_above x h)) tt; upper_bound = subst T (sym (far_below _ (step_below x h))) tt }

pub overflow_cast-result : goal.overflow_cast-result
unfolding of_bits
overflow_cast-result c =
    let x = c.args.rate in
    let h : rate_sound x ≡ true = sym c.rate_sound.ensures ∙ c.if-rate_sound.true in
    let l = (step_count x _ c.truncating_f64_to_u64-n.ensures h).0 in
    omega (arith, l)

pub returns-then-rate_sound : goal.returns-then-rate_sound
unfolding of_bits deliveries_of
returns-then-rate_sound c =
    let h : rate_sound c.args.rate ≡ true = sym c.rate_sound.ensures ∙ c.if-rate_sound.true in
    rw h c.truncating_f64_to_u64-n.ensures

pub returns : goal.returns
unfolding deliveries_of
returns c = rw (sym c.rate_sound.ensures ∙ c.if-rate_sound.false) refl
