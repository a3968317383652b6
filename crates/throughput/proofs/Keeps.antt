-- A sound record stays sound, whatever is fed: also one that was handed in from elsewhere.
use Rattle.std.proofs.Common.{◌≡◌, ℕ, ◌+◌, ◌*◌, ◌<◌, ◌≤◌, min, max, true, false, ◌&&◌, eqb, ltb, leb, ◌⊎◌, ap, ◌∙◌, inl, inr, arith, ltb-false, ltb-true, lt-ltb, le-leb}
use lib.Ieee.{Float}
use Rattle.laws.proofs.Tests.{by_test, and_left, and_right, and_true}
use Rattle.throughput.specs.declared.Throughput.{Throughput}
use Rattle.throughput.specs.Rate.{rate_of, rate_sound}
use Rattle.throughput.specs.Window.{rates_sound, rates_in_order, record_sound, feed_values, opened, closed_by, lower, higher}
use Rattle.throughput.specs.Feeds.{AreBinary64}
use Rattle.throughput.proofs.Exact.{rate_fits, sound_rate}
use Rattle.throughput.proofs.Order.{rate_lower, rate_higher}
use Rattle.throughput.proofs.Answers.{sound_window, values_many, values_open, values_close}
use Rattle.throughput.proofs.Records.{closed_sound}

abbrev Kept : Throughput → Type 0
Kept r = AreBinary64 r × (record_sound r ≡ true)

pub rest_sound : (r : Throughput) → record_sound r ≡ true → (rates_sound r.last r.least r.greatest && rates_in_order r.last r.least r.greatest r.closed) ≡ true
unfolding record_sound
rest_sound r h =
    let rest = rates_sound r.last r.least r.greatest && rates_in_order r.last r.least r.greatest r.closed in
    and_right (leb r.deliveries (4 * r.rounds)) rest (and_right (ltb r.rounds 256) (leb r.deliveries (4 * r.rounds) && rest) h)

open_keeps : (r : Throughput) (n : ℕ) → n ≤ 4 → r.rounds + 1 < 256 → AreBinary64 r → record_sound r ≡ true → Kept (opened r n)
unfolding record_sound opened
open_keeps r n h k f s =
    let w = sound_window r s in
    (f, and_true (lt-ltb (r.rounds + 1) 256 k) (and_true (le-leb (r.deliveries + n) (4 * (r.rounds + 1)) (omega (arith, w.1, h))) (rest_sound r s)))

close_keeps : (r : Throughput) (m : ℕ) → m ≤ 1024 → AreBinary64 r → record_sound r ≡ true → Kept (closed_by r (rate_of m))
unfolding closed_by rates_sound
close_keeps r m h f s = go (by_test (eqb r.closed 0))
  where
    three : rates_sound r.last r.least r.greatest ≡ true
    three = and_left (rates_sound r.last r.least r.greatest) (rates_in_order r.last r.least r.greatest r.closed) (rest_sound r s)

    both : (rate_sound r.least ≡ true) × (rate_sound r.greatest ≡ true)
    both = let e = and_right (rate_sound r.last) (rate_sound r.least && rate_sound r.greatest) three in (and_left (rate_sound r.least) (rate_sound r.greatest) e, and_right (rate_sound r.least) (rate_sound r.greatest) e)

    go : (eqb r.closed 0 ≡ true) ⊎ (eqb r.closed 0 ≡ false) → Kept (closed_by r (rate_of m))
    go (inl e) = rw e ((rate_fits m, rate_fits m, rate_fits m), closed_sound m m m 0 0 (omega arith, omega arith, h) (omega arith, omega arith))
    go (inr e) =
        let a = sound_rate r.least f.1 both.0 in
        let g = sound_rate r.greatest f.2 both.1 in
        let p = a.1 in
        let q = g.1 in
        let l : lower r.least (rate_of m) ≡ rate_of (min a.0 m) = ap (λ (x : Float). lower x (rate_of m)) a.2 ∙ rate_lower a.0 m p h in
        let u : higher r.greatest (rate_of m) ≡ rate_of (max g.0 m) = ap (λ (x : Float). higher x (rate_of m)) g.2 ∙ rate_higher g.0 m q h in
        rw (e, l, u) ((rate_fits m, rate_fits (min a.0 m), rate_fits (max g.0 m)), closed_sound m (min a.0 m) (max g.0 m) 0 0 (omega arith, omega arith, omega (arith, q, h)) (omega arith, omega arith))

pub feed_keeps : (r : Throughput) (n : ℕ) → AreBinary64 r → record_sound r ≡ true → Kept (feed_values r n).throughput
feed_keeps r n f s = go (by_test (ltb 4 n)) (by_test (ltb (r.rounds + 1) 256))
  where
    go : (ltb 4 n ≡ true) ⊎ (ltb 4 n ≡ false) → (ltb (r.rounds + 1) 256 ≡ true) ⊎ (ltb (r.rounds + 1) 256 ≡ false) → Kept (feed_values r n).throughput
    go (inl m) y = rw (values_many r n s (ltb-true 4 n m)) (f, s)
    go (inr m) (inl y) =
        let c = ltb-false 4 n m in
        let d = ltb-true (r.rounds + 1) 256 y in
        rw (values_open r n s c (omega arith)) (open_keeps r n c d f s)
    go (inr m) (inr y) =
        let c = ltb-false 4 n m in
        let d = ltb-false (r.rounds + 1) 256 y in
        let w = sound_window r s in
        rw (values_close r n s c (omega arith)) (close_keeps r (r.deliveries + n) (omega (arith, w.0, w.1, c)) f s)
