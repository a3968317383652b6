use Rattle.std.proofs.Common.{◌≡◌, ◌≤◌, true, false, T, sym, ◌∙◌, subst, true≢false, arith}
use mathlib.Core.Bool.{false≢true}
use lib.Ieee.{Float, of_bits, neg, fits, binary64}
use Rattle.laws.proofs.Tests.{same_test}
use Rattle.throughput.specs.Rate.{rate_of, rate_sound}
use Rattle.throughput.proofs.Exact.{rate_exact, value_no_nan, far_below, no_nan, step_above, step_below, step_count, step_bits}
use Rattle.throughput.proofs.rate_sound.Goals as goal

unsound : (x : Float) → (rate_sound x ≡ true → ⊥) → false ≡ rate_sound x
unsound x f = same_test false (rate_sound x) (λ h. absurd (false≢true h)) (λ h. absurd (f h))

pub truncating_f64_to_u64-n-requires : goal.truncating_f64_to_u64-n-requires
unfolding of_bits neg
truncating_f64_to_u64-n-requires c = record { lower_bound = subst T (sym c.if-y.true) tt; upper_bound = subst T (sym (far_below _ c.if-y-2.true)) tt }

pub float_to_bits-result : goal.float_to_bits-result
float_to_bits-result c = no_nan _ _ _ c.if-y.true

pub float_to_bits-result-then-n-le1024 : goal.float_to_bits-result-then-n-le1024
float_to_bits-result-then-n-le1024 c =
    let k = c.truncating_f64_to_u64-n.result in
    let l : k ≤ 1024 = omega arith in
    let e : c.rate-z.result ≡ rate_of k = c.rate-z.ensures in
    rw e (value_no_nan (rate_of k) k (rate_exact k l))

pub returns-then-n-le1024 : goal.returns-then-n-le1024
unfolding of_bits
returns-then-n-le1024 c =
    let x = c.args.x in
    let k = c.truncating_f64_to_u64-n.result in
    let l : k ≤ 1024 = omega arith in
    let f : T (fits binary64 x) = subst T (sym c.well_formed.0.1) tt in
    rw c.rate-z.ensures (step_bits x k f l c.truncating_f64_to_u64-n.ensures)

pub returns-else-n-le1024 : goal.returns-else-n-le1024
unfolding of_bits
returns-else-n-le1024 c =
    let x = c.args.x in
    unsound x (λ h. let l = (step_count x _ c.truncating_f64_to_u64-n.ensures h).0 in omega arith)

pub returns-else-y-2 : goal.returns-else-y-2
unfolding of_bits
returns-else-y-2 c =
    let x = c.args.x in
    unsound x (λ h. true≢false (sym (step_below x h) ∙ c.if-y-2.false))

pub returns-else-y : goal.returns-else-y
unfolding of_bits neg
returns-else-y c =
    let x = c.args.x in
    unsound x (λ h. true≢false (sym (step_above x h) ∙ c.if-y.false))
