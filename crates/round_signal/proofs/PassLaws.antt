-- Signal as a pass: a tile's signal from what was read, and the grants given one after another.
use mathlib.Core.Path.{◌≡◌, refl, ap, ◌∙◌}
use mathlib.Core.List.{List}
use Prim.Native.Nat.{ℕ, suc, ◌*◌, ◌≤◌, ◌<◌}
use native.Mathlib.Omega.{arith}
use native.Mathlib.Decide.{dec_le}
use lib.Dec.{ltb}
use borrow.Author.Tests.{lt-ltb, le-ltb}
use mathlib.Core.Bool.{Bool, cond}
use lib.ListN.{get_or, take, drop}
use Rattle.laws.specs.InternalFilled.{Filled}
use Rattle.floor.specs.declared.Canister.{Canister}
use Rattle.floor.specs.declared.Settings.{Settings}
use Rattle.floor.specs.declared.Side.{Side}
use Rattle.floor.specs.declared.Tile.{Tile}
use Rattle.floor.specs.Signal.{Signal, requests}
use Rattle.floor.specs.Settings.{total}
use Rattle.floor.specs.Grid.{neighbour, around}
use Rattle.floor.specs.Memory.{zero_tile}
use Rattle.round_route.specs.InternalRouted.{within}
use Rattle.round_route.proofs.Passes.{shows_near}
use Rattle.round_grants.specs.InternalTileSignal.{signal_from}
use Rattle.round_signal.specs.InternalSignalling.{no_side, side_in, shown_in, ShownUpto}
use Rattle.round_signal.proofs.FloorSignals.{signal_at_lem}

-- ---- the sides that want, from what the neighbours show
pub wants_around : (s : Settings) (t : ℕ) (show : List Side) {p : ℕ → Bool} {w so n e : Side} → w ≡ get_or show (neighbour s 1 t) no_side → so ≡ get_or show (neighbour s 2 t) no_side
    → n ≡ get_or show (neighbour s 3 t) no_side → e ≡ get_or show (neighbour s 4 t) no_side → p ≡ requests w.code so.code n.code e.code → p ≡ around s (side_in show) t requests
wants_around s t show ew es en ee q = q ∙ (λ i. requests (ew i).code (es i).code (en i).code (ee i).code)

-- ---- the tile's signal from what all tiles show and from its block
module _ (s : Settings) (ts : List Tile) (cs : List Canister) (t : ℕ) where
  pub signal_read : (show : List Side) → t < total s → total s ≤ 64 → ShownUpto ts (total s) show → {x : Signal}
      → x ≡ around s (side_in show) t (signal_from s (get_or ts t zero_tile).running (get_or ts t zero_tile).token.code (take (get_or ts t zero_tile).count (drop (16 * t) cs)))
      → x ≡ signal_at_lem s ts cs t
  unfolding signal_at_lem
  signal_read show h few p v = rw (v, near 1, near 2, near 3, near 4)
    where
      near : (k : ℕ) → side_in show (neighbour s k t) ≡ within (total s) (shown_in ts) 0 (neighbour s k t)
      near k = shows_near (λ x. x.code) no_side s (shown_in ts) 0 show k t h few p refl

-- what is read of an array that a loop filled, beyond its last place too
module _ {A : Type 0} (N : ℕ) (g : ℕ → A) (z : A) (read : A → ℕ) where
  pub filled_within : (gs : List A) (n : ℕ) → Filled N g z n gs → (u : ℕ) → read (get_or gs u z) ≡ within n (λ t. read (g t)) (read z) u
  unfolding within
  filled_within gs n r u = go (dec_le (suc u) n)
    where
      go : Dec (u < n) → read (get_or gs u z) ≡ cond (ltb u n) (read (g u)) (read z)
      go (yes h) = ap read (r.1 u h) ∙ rw (lt-ltb u n h)
      go (no h) =
          let q : n ≤ u = omega arith in
          ap read (r.2 u q) ∙ rw (le-ltb u n q)
