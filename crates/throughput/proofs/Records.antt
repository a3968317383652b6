-- Feeding counts of at most four: what the record is, and the rates that are told.
use Rattle.std.proofs.Common.{◌≡◌, ℕ, ◌+◌, ◌*◌, ◌<◌, ◌≤◌, min, max, true, false, ◌&&◌, ltb, ◌⊎◌, List, [], ◌∷◌, map, refl, ap, inl, inr, arith, ltb-false, ltb-true, lt-ltb, le-leb}
use lib.Ieee.{Float, eq, le}
use Rattle.laws.specs.Every.{All}
use Rattle.laws.proofs.Tests.{by_test}
use Rattle.throughput.specs.declared.Throughput.{Throughput}
use Rattle.throughput.specs.Rate.{rate_of, rate_sound}
use Rattle.throughput.specs.Window.{rates_sound, rates_in_order, record_sound, opened, closed_by, zero64}
use Rattle.throughput.specs.Lists.{feed_all, closed_rates_of, last_of, least_of, greatest_of, closed_record, record_after}
use Rattle.throughput.proofs.Answers.{values_open, values_close}
use Rattle.throughput.proofs.Order.{rate_le, rate_is_sound, rate_lower, rate_higher}
use Rattle.throughput.proofs.Windows.{cuts, left_rounds, left_deliveries}

-- ---- the record of a state: three counts in order, up to 1,024, and an open window
-- before the first close
abbrev pub start : ℕ → ℕ → Throughput
start k s = record { last = zero64; least = zero64; greatest = zero64; rounds = k; deliveries = s; closed = 0 }

abbrev pub Window : ℕ → ℕ → Type 0
Window k s = (k < 256) × (s ≤ 4 * k)

abbrev pub Three : ℕ → ℕ → ℕ → Type 0
Three z a g = (a ≤ z) × (z ≤ g) × (g ≤ 1024)

zeros_sound : (rates_sound zero64 zero64 zero64 && rates_in_order zero64 zero64 zero64 0) ≡ true
unfolding rates_sound rate_sound rates_in_order le eq
zeros_sound = refl

pub start_sound : (k s : ℕ) → Window k s → record_sound (start k s) ≡ true
unfolding record_sound
start_sound k s w = rw (lt-ltb k 256 w.0, le-leb s (4 * k) w.1) zeros_sound

pub closed_sound : (z a g k s : ℕ) → Three z a g → Window k s → record_sound (closed_record z a g k s) ≡ true
unfolding record_sound rates_sound rates_in_order
closed_sound z a g k s t w =
    rw (
      lt-ltb k 256 w.0,
      le-leb s (4 * k) w.1,
      rate_is_sound z (omega (arith, t.1, t.2)),
      rate_is_sound a (omega (arith, t.0, t.1, t.2)),
      rate_is_sound g t.2,
      rate_le a z t.0 (omega (arith, t.1, t.2)),
      rate_le z g t.1 t.2,
    )
    refl

-- ---- closing
start_close : (k s n : ℕ) → closed_by (start k s) (rate_of n) ≡ closed_record n n n 0 0
unfolding closed_by
start_close k s n = refl

closed_close : (z a g k s n : ℕ) → Three z a g → n ≤ 1024 → closed_by (closed_record z a g k s) (rate_of n) ≡ closed_record n (min a n) (max g n) 0 0
unfolding closed_by
closed_close z a g k s n t h = rw (rate_lower a n (omega (arith, t.0, t.1, t.2)) h, rate_higher g n t.2 h) refl

three_next : (z a g n : ℕ) → Three z a g → n ≤ 1024 → Three n (min a n) (max g n)
three_next z a g n t h = let t2 = t.2 in (omega arith, omega arith, omega arith)

-- ---- after the first close: the record after the list, and the rates told
abbrev AfterClose : List ℕ → ℕ → ℕ → ℕ → ℕ → ℕ → Type 0
AfterClose l z a g k s =
    (feed_all (closed_record z a g k s) l ≡ closed_record (last_of z (cuts k s l)) (least_of a (cuts k s l)) (greatest_of g (cuts k s l)) (left_rounds k l) (left_deliveries k s l))
    × (closed_rates_of (closed_record z a g k s) l ≡ map rate_of (cuts k s l))
    × (record_sound (feed_all (closed_record z a g k s) l) ≡ true)

after_close_step : (n : ℕ) (l : List ℕ) → n ≤ 4 → ((z a g k s : ℕ) → Three z a g → Window k s → AfterClose l z a g k s) → (z a g k s : ℕ) → Three z a g → Window k s → AfterClose (n ∷ l) z a g k s
unfolding feed_all closed_rates_of cuts last_of least_of greatest_of left_rounds left_deliveries opened
after_close_step n l c ih z a g k s t w = go (by_test (ltb (k + 1) 256))
  where
    r : Throughput
    r = closed_record z a g k s

    good : record_sound r ≡ true
    good = closed_sound z a g k s t w

    go : (ltb (k + 1) 256 ≡ true) ⊎ (ltb (k + 1) 256 ≡ false) → AfterClose (n ∷ l) z a g k s
    go (inl y) =
        let d = ltb-true (k + 1) 256 y in
        rw (values_open r n good c (omega arith), y) (ih z a g (k + 1) (s + n) t (omega arith, omega (arith, w.1)))
    go (inr y) =
        let d = ltb-false (k + 1) 256 y in
        let e : s + n ≤ 1024 = omega (arith, w.0, w.1) in
        let i = ih (s + n) (min a (s + n)) (max g (s + n)) 0 0 (three_next z a g (s + n) t e) (omega arith, omega arith) in
        rw (values_close r n good c (omega arith), y, closed_close z a g k s (s + n) t e) (i.0, ap (λ (x : List Float). rate_of (s + n) ∷ x) i.1, i.2)

feeds_after_close : (l : List ℕ) → All (λ n. n ≤ 4) l → (z a g k s : ℕ) → Three z a g → Window k s → AfterClose l z a g k s
unfolding feed_all closed_rates_of cuts last_of least_of greatest_of left_rounds left_deliveries
feeds_after_close [] h z a g k s t w = (refl, refl, closed_sound z a g k s t w)
feeds_after_close (n ∷ l) h z a g k s t w = after_close_step n l h.0 (feeds_after_close l h.1) z a g k s t w

-- ---- before it
abbrev pub Start : List ℕ → ℕ → ℕ → Type 0
Start l k s =
    (feed_all (start k s) l ≡ record_after (cuts k s l) (left_rounds k l) (left_deliveries k s l))
    × (closed_rates_of (start k s) l ≡ map rate_of (cuts k s l))
    × (record_sound (feed_all (start k s) l) ≡ true)

start_step : (n : ℕ) (l : List ℕ) → n ≤ 4 → All (λ m. m ≤ 4) l → ((k s : ℕ) → Window k s → Start l k s) → (k s : ℕ) → Window k s → Start (n ∷ l) k s
unfolding feed_all closed_rates_of cuts record_after left_rounds left_deliveries opened
start_step n l c h ih k s w = go (by_test (ltb (k + 1) 256))
  where
    r : Throughput
    r = start k s

    good : record_sound r ≡ true
    good = start_sound k s w

    go : (ltb (k + 1) 256 ≡ true) ⊎ (ltb (k + 1) 256 ≡ false) → Start (n ∷ l) k s
    go (inl y) =
        let d = ltb-true (k + 1) 256 y in
        rw (values_open r n good c (omega arith), y) (ih (k + 1) (s + n) (omega arith, omega (arith, w.1)))
    go (inr y) =
        let d = ltb-false (k + 1) 256 y in
        let e : s + n ≤ 1024 = omega (arith, w.0, w.1) in
        let i = feeds_after_close l h (s + n) (s + n) (s + n) 0 0 (omega arith, omega arith, e) (omega arith, omega arith) in
        rw (values_close r n good c (omega arith), y, start_close k s (s + n)) (i.0, ap (λ (x : List Float). rate_of (s + n) ∷ x) i.1, i.2)

pub feeds_start : (l : List ℕ) → All (λ n. n ≤ 4) l → (k s : ℕ) → Window k s → Start l k s
unfolding feed_all closed_rates_of cuts record_after left_rounds left_deliveries
feeds_start [] h k s w = (refl, refl, start_sound k s w)
feeds_start (n ∷ l) h k s w = start_step n l h.0 h.1 (feeds_start l h.1) k s w
