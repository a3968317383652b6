-- [10]: "Distance means that to the nearest": once distances have settled, each is the length of a shortest live path. The theorem is `distances` of proofs/Distances.
use Rattle.std.specs.Prelude.{◌≡◌, ◌↔◌, ◌≢◌, Bool, true, List, ℕ, suc, ◌-◌, ◌≤◌}
use Rattle.laws.specs.Every.{All}
use Rattle.floor.specs.declared.Settings.{Settings}
use Rattle.floor.specs.declared.Floor.{Floor}
use Rattle.floor.specs.Settings.{total}
use Rattle.floor.specs.Model.{Model, runs_of_of, distance_of}
use Rattle.floor.specs.Memory.{view}
use Rattle.floor.specs.Well.{well_formed}
use Rattle.floor.specs.Live.{LivePath, here, step}
use Rattle.floor.specs.Demand3.{Call, InRange, floor_after, rounds_in}
use Rattle.floor.specs.Arrows.{RunningUnchanged, Steady}

-- the steps of a live path, to whichever hopper it leads
unfoldable pub steps : {s : Settings} {run : ℕ → Bool} {t : ℕ} → LivePath s run t → ℕ
steps (here h on r) = 0
steps (step k side on r p) = suc (steps p)

-- over every number t; one of no tile has distance none and no live path
pub record ToNearest (m : Model) : Type 0 where
  -- no live path is shorter than the distance says, to any hopper; and where there is a distance, one is just so long
  pub shortest : (t : ℕ) (p : LivePath m.settings (runs_of_of m) t) → distance_of m t ≤ steps p
  pub along : (t : ℕ) → distance_of m t ≢ 255 → (p : LivePath m.settings (runs_of_of m) t) × (steps p ≡ distance_of m t)
  -- none exactly where there is no live path
  pub none : (t : ℕ) → distance_of m t ≡ 255 ↔ ¬ (LivePath m.settings (runs_of_of m) t)

-- where a round changes no distance; and so after C - 1 rounds without an accepted stop or repair
pub record Distances (f : Floor) : Type 0 where
  pub steady : Steady f → ToNearest (view f)
  pub settled : (cs : List Call) → All InRange cs → RunningUnchanged f cs → total f.settings - 1 ≤ rounds_in cs → ToNearest (view (floor_after f cs))

abbrev pub DistanceRule : Type 0
DistanceRule = (f : Floor) → well_formed f ≡ true → Distances f
