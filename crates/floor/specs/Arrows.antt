-- The arrow keeps its side: the rule of a round, what holds once a round changes no distance, and when that is. The theorem is `arrows` of proofs/Arrows.
use Rattle.std.specs.Prelude.{◌≡◌, ◌≢◌, true, false, ℕ, ◌-◌, ◌≤◌, ◌<◌}
use mathlib.Core.List.{List, [], ◌∷◌, Memᴰ}
use Rattle.laws.specs.Every.{All}
use Rattle.floor.specs.declared.Floor.{Floor}
use Rattle.floor.specs.Sides.{sides}
use Rattle.floor.specs.Settings.{total, is_hopper}
use Rattle.floor.specs.Grid.{neighbour}
use Rattle.floor.specs.Model.{Model, distance_of, next_of}
use Rattle.floor.specs.Memory.{view}
use Rattle.floor.specs.Well.{well_formed}
use Rattle.floor.specs.Demand3.{Call, round, InRange, outcome, floor_after, changes_running, rounds_in}

-- the distance beyond side k of tile t
abbrev pub beyond : Model → ℕ → ℕ → ℕ
beyond m t k = distance_of m (neighbour m.settings k t)

-- side k of tile t "faces some nearest neighbour"
pub record FacesNearest (m : Model) (t k : ℕ) : Type 0 where
  pub side : Memᴰ k sides
  pub least : (j : ℕ) → Memᴰ j sides → beyond m t k ≤ beyond m t j

-- the arrow that tile t has after a round from m to n, by the distances before it
pub record Chooses (m n : Model) (t : ℕ) : Type 0 where
  pub nearest : FacesNearest m t (next_of n t)
  -- "Among neighbours of equal least distance, a tile now keeps its present arrow if that is one of them."
  pub keeps : FacesNearest m t (next_of m t) → next_of n t ≡ next_of m t
  -- "Otherwise the old order of ties holds": each side before the arrow's is farther
  pub ties : ¬ (FacesNearest m t (next_of m t)) → (j : ℕ) → Memᴰ j sides → j < next_of n t → beyond m t (next_of n t) < beyond m t j

-- a list without an accepted stop or repair, and without a recall that makes one
abbrev pub RunningUnchanged : Floor → List Call → Type 0
RunningUnchanged f [] = Unit {0}
RunningUnchanged f (c ∷ cs) = (changes_running f c ≡ false) × RunningUnchanged (outcome f c).floor cs

-- "a round changes no distance"
abbrev pub Steady : Floor → Type 0
Steady f = (t : ℕ) → distance_of (view (outcome f round).floor) t ≡ distance_of (view f) t

-- "each arrow, where there is one, faces some nearest neighbour and stays until a stop or repair"
pub record Resting (f : Floor) : Type 0 where
  pub faces : (cs : List Call) → All InRange cs → RunningUnchanged f cs → (t : ℕ) → next_of (view (floor_after f cs)) t ≢ 0
      → FacesNearest (view (floor_after f cs)) t (next_of (view (floor_after f cs)) t)
  pub stays : (cs : List Call) → All InRange cs → RunningUnchanged f cs → (t : ℕ) → next_of (view (floor_after f cs)) t ≡ next_of (view f) t

-- f: a well-formed floor; after: the floor that a round makes of it
pub record Arrows (f : Floor) : Type 0 where
  pub after : Floor
  pub is_after : after ≡ (outcome f round).floor
  -- of the tiles that Route gives a distance; all others have no arrow
  pub chooses : (t : ℕ) → is_hopper f.settings t ≡ false → distance_of (view after) t ≢ 255 → Chooses (view f) (view after) t
  -- "Once a round changes no distance"
  pub rests : Steady f → Resting after

-- when that is: after C - 1 rounds without an accepted stop or repair the next one changes no distance; so after C rounds arrows rest
pub record Settling (f : Floor) : Type 0 where
  pub steady : (cs : List Call) → All InRange cs → RunningUnchanged f cs → total f.settings - 1 ≤ rounds_in cs → Steady (floor_after f cs)
  pub rests : (cs : List Call) → All InRange cs → RunningUnchanged f cs → total f.settings ≤ rounds_in cs → Resting (floor_after f cs)

-- the theorem: for every well-formed floor
abbrev pub ArrowRule : Type 0
ArrowRule = (f : Floor) → well_formed f ≡ true → Arrows f × Settling f
