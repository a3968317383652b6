-- Route, branch by branch.
use mathlib.Core.Path.{◌≡◌, refl, sym, ap, ◌∙◌}
use mathlib.Core.Bool.{Bool, true, false, not, ◌||◌}
use mathlib.Core.List.{List}
use Prim.Native.Nat.{ℕ, zero, suc, ◌≤◌, ◌<◌}
use lib.Dec.{eqb}
use lib.ListN.{get_or}
use Rattle.laws.specs.Define.{bit}
use Rattle.laws.specs.InternalFilled.{Upto}
use Rattle.floor.specs.declared.Settings.{Settings}
use Rattle.floor.specs.declared.Tile.{Tile}
use Rattle.floor.specs.Settings.{total, is_hopper}
use Rattle.floor.specs.Grid.{neighbour}
use Rattle.floor.specs.Memory.{zero_tile}
use Rattle.floor.specs.Route.{Heading, nearest, lies_at, kept, onward, heading_of}
use Rattle.round_route.proofs.Passes.{shows_near}
use Rattle.round_route.specs.InternalRouted.{within, distance_in, headed, routed_tile, routed_at}

-- ---- the distance beyond a side, side by side
module _ (w s n e d : ℕ) where
  pub lies_west : (k : ℕ) → k ≡ 1 → eqb w d ≡ lies_at w s n e d k
  unfolding lies_at
  lies_west k q = rw q

  pub lies_south : (k : ℕ) → k ≡ 2 → eqb s d ≡ lies_at w s n e d k
  unfolding lies_at
  lies_south k q = rw q

  pub lies_north : (k : ℕ) → k ≡ 3 → eqb n d ≡ lies_at w s n e d k
  unfolding lies_at
  lies_north k q = rw q

  pub lies_east : (k : ℕ) → k ≡ 4 → eqb e d ≡ lies_at w s n e d k
  unfolding lies_at
  lies_east k q = rw q

  pub lies_none : (k : ℕ) → (k ≡ 1 → ⊥) → (k ≡ 2 → ⊥) → (k ≡ 3 → ⊥) → (k ≡ 4 → ⊥) → false ≡ lies_at w s n e d k
  unfolding lies_at
  lies_none zero a b c f = refl
  lies_none (suc zero) a b c f = absurd (a refl)
  lies_none (suc (suc zero)) a b c f = absurd (b refl)
  lies_none (suc (suc (suc zero))) a b c f = absurd (c refl)
  lies_none (suc (suc (suc (suc zero)))) a b c f = absurd (f refl)
  lies_none (suc (suc (suc (suc (suc k))))) a b c f = refl

-- ---- the present arrow kept, or not; b is the nearest, r the test of it
module _ (own w s n e : ℕ) {b : Heading} {r : Bool} (is : b ≡ nearest w s n e) (test : r ≡ lies_at w s n e b.distance own) where
  pub kept_yes : r ≡ true → ◌≡◌ {A = Heading} (record { distance = b.distance; side = own }) (kept own w s n e)
  unfolding kept
  kept_yes h = rw (← is, ← test, h)

  pub kept_no : r ≡ false → b ≡ kept own w s n e
  unfolding kept
  kept_no h = rw (← is, ← test, h)

-- ---- one tile: it keeps its own, or takes the heading onward; x tells whether it is a hopper
module _ (s : Settings) (t : ℕ) (h : Tile) (w so n e : ℕ) (x : Bool) (p : x ≡ bit s.hoppers t) where
  pub tile_still : (x || not (eqb h.running 1)) ≡ true → h ≡ routed_tile s t h w so n e
  unfolding routed_tile heading_of is_hopper
  tile_still q = rw (sym p, q)

  pub tile_on_lem : (x || not (eqb h.running 1)) ≡ false → (near : Heading) (d k : ℕ) → near ≡ kept h.next.code w so n e → record { distance = d; side = k } ≡ onward (total s) near
      → headed h (record { distance = d; side = k }) ≡ routed_tile s t h w so n e
  unfolding routed_tile heading_of is_hopper
  tile_on_lem q near d k e o = rw (sym p, q, sym e) (ap (headed h) o)

-- ---- the pass: its neighbours, and what was read of them in the old distances d
module _ (s : Settings) (ts : List Tile) (t : ℕ) (h : t < total s) (few : total s ≤ 64) where
  pub routed_read : (d : List ℕ) → Upto 65 (within (total s) (distance_in ts) 255) 0 d → (x r : Tile) (w so n e : ℕ) → x ≡ get_or ts t zero_tile
      → w ≡ get_or d (neighbour s 1 t) 0 → so ≡ get_or d (neighbour s 2 t) 0 → n ≡ get_or d (neighbour s 3 t) 0 → e ≡ get_or d (neighbour s 4 t) 0
      → r ≡ routed_tile s t x w so n e → r ≡ routed_at s ts t
  unfolding routed_at
  routed_read d u x r w so n e i p q o j v =
      v ∙ rw (i, p ∙ near 1, q ∙ near 2, o ∙ near 3, j ∙ near 4)
    where
      near : (k : ℕ) → get_or d (neighbour s k t) 0 ≡ within (total s) (distance_in ts) 255 (neighbour s k t)
      near k = shows_near (λ n. n) 0 s (distance_in ts) 255 d k t h few u refl
