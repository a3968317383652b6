-- Once distances have settled, each is that to the nearest hopper: `distances`.
use mathlib.Core.Path.{◌≡◌, refl, sym, ap, ◌∙◌, subst, fun_ext}
use mathlib.Core.Logic.{◌⊎◌, inl, inr, ◌≢◌}
use mathlib.Core.Bool.{Bool, true, ◌&&◌}
use Prim.Native.Nat.{ℕ, zero, suc, ◌≤◌, ◌<◌}
use native.Mathlib.Omega.{arith}
use native.Mathlib.Decide.{dec_le}
use Rattle.laws.specs.Define.{any_of}
use Rattle.laws.proofs.Tests.{and_left, and_right, or_case}
use Rattle.laws.proofs.Search.{any_find}
use Rattle.floor.specs.declared.Settings.{Settings}
use Rattle.floor.specs.declared.Floor.{Floor}
use Rattle.floor.specs.Sides.{sides}
use Rattle.floor.specs.Settings.{total, is_hopper}
use Rattle.floor.specs.Grid.{neighbour}
use Rattle.floor.specs.Model.{Model, runs_of_of, distance_of}
use Rattle.floor.specs.Memory.{view}
use Rattle.floor.specs.Well.{well_formed}
use Rattle.floor.specs.Route.{route}
use Rattle.floor.specs.Live.{LivePath, here, step}
use Rattle.floor.specs.Demand3.{round, floor_after}
use Rattle.floor.specs.Arrows.{Steady}
use Rattle.floor.specs.Distances.{steps, ToNearest, DistanceRule}
use Rattle.floor.proofs.Sound.{Sound}
use Rattle.floor.proofs.Pack.{well_sound}
use Rattle.floor.proofs.Routing.{Graph, Routable, reach, reach_step, reach_all, RightTo, Right, right_all, right_start, right_next, right_reach}
use Rattle.floor.proofs.Nearest.{graph_by, graph_of, route_routed, routable, formed}
use Rattle.floor.proofs.Fields.{round_distance}
use Rattle.floor.proofs.Lists.{view_round, list_keeps}
use Rattle.floor.proofs.Arrows.{arrows}

-- ---- live paths by their steps
module _ (s : Settings) (run : ℕ → Bool) (L : Routable (graph_by s run)) where
  abbrev g : Graph
  g = graph_by s run

  path_reach : {t : ℕ} (p : LivePath s run t) → reach g (steps p) t ≡ true
  unfolding reach steps
  path_reach (here h on r) = h
  path_reach (step {t} k mk on r p) = reach_step g (steps p) t k mk r (path_reach p)

  reach_path : (n t : ℕ) → reach g n t ≡ true → (p : LivePath s run t) × (steps p ≤ n)
  unfolding reach steps
  reach_path zero t h = (here h (L.run_on t (L.hop_runs t h)) (L.hop_runs t h), omega arith)
  reach_path (suc n) t h = go (or_case (is_hopper s t) (run t && any_of (λ k. reach g n (neighbour s k t)) sides) h) (reach_path n)
    where
      go : (is_hopper s t ≡ true) ⊎ ((run t && any_of (λ k. reach g n (neighbour s k t)) sides) ≡ true) → ((u : ℕ) → reach g n u ≡ true → (p : LivePath s run u) × (steps p ≤ n)) → (p : LivePath s run t) × (steps p ≤ suc n)
      go (inl e) ih = (here e (L.run_on t (L.hop_runs t e)) (L.hop_runs t e), omega arith)
      go (inr e) ih =
          let w = any_find (λ k. reach g n (neighbour s k t)) sides (and_right (run t) (any_of (λ k. reach g n (neighbour s k t)) sides) e) in
          let r = and_left (run t) (any_of (λ k. reach g n (neighbour s k t)) sides) e in
          let q = ih (neighbour s w.0 t) w.2 in
          (step w.0 w.1 (L.run_on t r) r q.0, omega (arith, q.1))

-- ---- right distances
module _ (m : Model) (S : Sound m) (R : Right (graph_of m) (distance_of m)) where
  abbrev C : ℕ
  C = total m.settings

  L : Routable (graph_of m)
  L = routable m S

  near : (t : ℕ) → LivePath m.settings (runs_of_of m) t → distance_of m t < C
  near t p = (right_reach (graph_of m) L R t).1 (reach_all (graph_of m) L (steps p) t (path_reach m.settings (runs_of_of m) L p))

  least : (t : ℕ) (p : LivePath m.settings (runs_of_of m) t) → distance_of m t ≤ steps p
  least t p = go (dec_le (suc (steps p)) C)
    where
      go : Dec (steps p < C) → distance_of m t ≤ steps p
      go (yes h) = (R t (steps p) h).1 (path_reach m.settings (runs_of_of m) L p)
      go (no h) = omega (arith, near t p)

  found : (t : ℕ) → distance_of m t < C → (p : LivePath m.settings (runs_of_of m) t) × (steps p ≡ distance_of m t)
  found t h =
      let q = reach_path m.settings (runs_of_of m) L (distance_of m t) t ((R t (distance_of m t) h).0 (omega arith)) in
      (q.0, omega (arith, q.1, least t q.0))

  capped : (t : ℕ) → (distance_of m t < C) ⊎ (distance_of m t ≡ 255)
  capped t = (formed m S).capped t

  right_nearest : ToNearest m
  right_nearest = record { shortest = least; along = λ t n. along t n (capped t); none = λ t. (λ e p. omega (arith, near t p, L.small), λ n. none t n (capped t)) }
    where
      along : (t : ℕ) → distance_of m t ≢ 255 → (distance_of m t < C) ⊎ (distance_of m t ≡ 255) → (p : LivePath m.settings (runs_of_of m) t) × (steps p ≡ distance_of m t)
      along t n (inl h) = found t h
      along t n (inr e) = absurd (n e)

      none : (t : ℕ) → ¬ (LivePath m.settings (runs_of_of m) t) → (distance_of m t < C) ⊎ (distance_of m t ≡ 255) → distance_of m t ≡ 255
      none t n (inl h) = absurd (n (found t h).0)
      none t n (inr e) = e

-- ---- where a round changes no distance they are right
module _ (m : Model) (S : Sound m) (same : distance_of (route m) ≡ distance_of m) where
  right_to : (n : ℕ) → RightTo (graph_of m) n (distance_of m)
  right_to zero = right_start (graph_of m) (routable m S) (formed m S)
  right_to (suc n) = subst (RightTo (graph_of m) (suc n)) same (right_next (graph_of m) (routable m S) (formed m S) (route_routed m S.len) n (right_to n))

  steady_right : Right (graph_of m) (distance_of m)
  steady_right = right_all (graph_of m) (total m.settings) (omega arith) (right_to (total m.settings))

steady_nearest : (f : Floor) → well_formed f ≡ true → Steady f → ToNearest (view f)
steady_nearest f w h =
    let m = view f in
    let S = well_sound f w in
    let e : distance_of (route m) ≡ distance_of m = fun_ext (λ t. sym (ap (λ (n : Model). distance_of n t) (view_round f w round refl) ∙ round_distance m S.len t) ∙ h t) in
    right_nearest m S (steady_right m S e)

pub distances : DistanceRule
distances f w = record {
  steady = steady_nearest f w;
  settled = λ cs T U h. steady_nearest (floor_after f cs) (list_keeps f w cs T).0 ((arrows f w).1.steady cs T U h);
}
