-- Distances of sixteen places at once, each from the one some places further on.
use Rattle.std.specs.Prelude.{◌≡◌, List, ℕ, ◌+◌, ◌<◌, length, get_or, max, min}
use Rattle.std.specs.Int.{abs_diff}

-- how far two places are apart, on the axis where it is more
abbrev pub farther : ℕ → ℕ → ℕ → ℕ → ℕ
farther xa xb ya yb = max (abs_diff xa ya) (abs_diff xb yb)

-- of place i from place j
abbrev pub distance_at : List ℕ → List ℕ → ℕ → ℕ → ℕ
distance_at a b i j = farther (get_or a i 0) (get_or b i 0) (get_or a j 0) (get_or b j 0)

-- the least of each place, with its distance from the one k further on
pub record Compared (a b : List ℕ) (k : ℕ) (old new : List ℕ) : Type 0 where
  pub size : length new ≡ 16
  pub each : (i : ℕ) → i < 16 → get_or new i 0 ≡ min (get_or old i 0) (distance_at a b i (i + k))
