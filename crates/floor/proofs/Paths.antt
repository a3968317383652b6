-- Live paths are what the test `connected` finds, and of two running neighbours both have one or none.
use mathlib.Core.Path.{◌≡◌, refl, sym, ap, ◌∙◌, subst, fun_ext}
use mathlib.Core.Logic.{◌⊎◌, inl, inr, ◌↔◌}
use mathlib.Core.Bool.{Bool, true, false, ◌&&◌, ◌||◌}
use mathlib.Core.List.{Memᴰ}
use Prim.Native.Nat.{ℕ, zero, suc, ◌-◌, ◌≤◌, ◌<◌}
use native.Mathlib.Omega.{arith}
use native.Mathlib.Decide.{dec_le}
use lib.ListN.{get_or}
use Rattle.laws.specs.Define.{tab, any_of}
use Rattle.laws.proofs.Tests.{by_test, not_both}
use Rattle.laws.proofs.Tables.{tab_at, tab_off}
use Rattle.floor.specs.declared.Settings.{Settings}
use Rattle.floor.specs.Sides.{sides, opposite}
use Rattle.floor.specs.Settings.{total, is_hopper}
use Rattle.floor.specs.Grid.{neighbour}
use Rattle.floor.specs.Live.{LivePath, here, step, reached, connected}
use Rattle.floor.proofs.Grid.{opposite_side, neighbour_back}
use Rattle.floor.proofs.Routing.{Graph, Routable, reach, reach_step, reach_each, reach_all}
use Rattle.floor.proofs.Nearest.{graph_by}

module _ (s : Settings) (run : ℕ → Bool) (L : Routable (graph_by s run)) where
  abbrev g : Graph
  g = graph_by s run

  off_reach : (n t : ℕ) → total s ≤ t → reach g n t ≡ false
  unfolding reach
  off_reach n t h = go n (by_test (is_hopper s t)) (by_test (run t))
    where
      go : (n : ℕ) → (is_hopper s t ≡ true) ⊎ (is_hopper s t ≡ false) → (run t ≡ true) ⊎ (run t ≡ false) → reach g n t ≡ false
      go n p (inl r) = absurd (omega (arith, L.run_on t r))
      go n (inl p) (inr r) = not_both (L.hop_runs t p) r
      go zero (inr p) (inr r) = p
      go (suc n) (inr p) (inr r) = rw (p, r)

  same : (b c x : Bool) → (b ≡ true → c ≡ true) → (c && (b || x)) ≡ (b || (c && x))
  same true c x f = rw (f refl)
  same false true x f = refl
  same false false x f = refl

  first : (b c : Bool) → (b ≡ true → c ≡ true) → (b && c) ≡ b
  first true c f = f refl
  first false c f = refl

  reached_is : (n t : ℕ) → get_or (reached s run n) t false ≡ reach g n t
  unfolding reached reach
  reached_is zero t = go (dec_le (suc t) (total s))
    where
      go : Dec (t < total s) → get_or (tab (total s) (λ t. is_hopper s t && run t)) t false ≡ is_hopper s t
      go (yes h) = tab_at (total s) (λ t. is_hopper s t && run t) t false h ∙ first (is_hopper s t) (run t) (L.hop_runs t)
      go (no h) = tab_off (total s) (λ t. is_hopper s t && run t) t false (omega arith) ∙ sym (off_reach 0 t (omega arith))
  reached_is (suc n) t = go (dec_le (suc t) (total s)) (fun_ext (λ k. reached_is n (neighbour s k t)))
    where
      flag : ℕ → Bool
      flag t = run t && (is_hopper s t || any_of (λ k. get_or (reached s run n) (neighbour s k t) false) sides)

      go : Dec (t < total s) → ◌≡◌ {A = ℕ → Bool} (λ k. get_or (reached s run n) (neighbour s k t) false) (λ k. reach g n (neighbour s k t)) → get_or (tab (total s) flag) t false ≡ reach g (suc n) t
      go (yes h) ih =
          tab_at (total s) flag t false h
          ∙ ap (λ (f : ℕ → Bool). run t && (is_hopper s t || any_of f sides)) ih
          ∙ same (is_hopper s t) (run t) (any_of (λ k. reach g n (neighbour s k t)) sides) (L.hop_runs t)
      go (no h) ih = tab_off (total s) flag t false (omega arith) ∙ sym (off_reach (suc n) t (omega arith))

  pub connected_reach : (t : ℕ) → connected s run t ≡ reach g (total s - 1) t
  unfolding connected
  connected_reach t = reached_is (total s - 1) t

  path_reach : {t : ℕ} → LivePath s run t → (n : ℕ) × (reach g n t ≡ true)
  unfolding reach
  path_reach (here h _ _) = (0, h)
  path_reach (step {t} k mk _ r p) = let w = path_reach p in (suc w.0, reach_step g w.0 t k mk r w.1)

  reach_path : (n t : ℕ) → reach g n t ≡ true → LivePath s run t
  reach_path = reach_each g (LivePath s run) (λ t h. here h (L.run_on t (L.hop_runs t h)) (L.hop_runs t h)) (λ t k mk r p. step k mk (L.run_on t r) r p)

  -- A tile has a live path exactly if the test says so.
  pub live_iff : (t : ℕ) → LivePath s run t ↔ connected s run t ≡ true
  live_iff t = (
    λ p. let w = path_reach p in connected_reach t ∙ reach_all g L w.0 t w.1,
    λ h. reach_path (total s - 1) t (sym (connected_reach t) ∙ h),
  )

  -- Of two running neighbours both have a live path, or none.
  pub live_neighbours : 1 ≤ s.rows → {k : ℕ} → Memᴰ k sides → (t : ℕ) → run t ≡ true → run (neighbour s k t) ≡ true → LivePath s run t ↔ LivePath s run (neighbour s k t)
  live_neighbours pos {k} mk t r q =
      let u = neighbour s k t in
      let on = L.run_on t r in
      let to = L.run_on u q in
      (λ p. step (opposite k) (opposite_side mk) to q (subst (LivePath s run) (sym (neighbour_back s pos mk t on to)) p), λ p. step k mk on r p)
