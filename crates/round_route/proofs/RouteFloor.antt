-- The pass over the tiles in memory is Route of the value that memory shows.
use mathlib.Core.Path.{◌≡◌, refl, ap, ◌∙◌, fun_ext}
use mathlib.Core.Bool.{true}
use mathlib.Core.List.{List}
use Prim.Native.Nat.{ℕ, ◌≤◌, ◌<◌}
use lib.ListN.{length, get_or}
use Rattle.laws.proofs.Tables.{tab_length, tab_at}
use Rattle.floor.specs.declared.Settings.{Settings}
use Rattle.floor.specs.declared.Tile.{Tile}
use Rattle.floor.specs.declared.Floor.{Floor}
use Rattle.floor.specs.Settings.{total}
use Rattle.floor.specs.Grid.{around}
use Rattle.floor.specs.Model.{TileState, Model, no_tile_of, tile_of, distance_of, token_of, members_of}
use Rattle.floor.specs.Memory.{head_of, state_of, view, head, pack, fits, retiled}
use Rattle.floor.specs.Route.{route_tile, route}
use Rattle.floor.proofs.Rows.{view_at}
use Rattle.floor.proofs.Pack.{head_read, pack_heads}
use Rattle.round_route.specs.InternalRouted.{Redone, within, distance_in, routed_tile, routed_at}
use Rattle.round_route.proofs.Passes.{within_view}

-- a tile of a value after Route
abbrev pub routed : Model → ℕ → TileState
routed m t = around m.settings (distance_of m) t (route_tile m.settings t (tile_of m t))

-- the tile in memory is routed as the tile of the value
head_route : (s : Settings) (d : ℕ → ℕ) (t : ℕ) (x : TileState) → around s d t (routed_tile s t (head x)) ≡ head (around s d t (route_tile s t x))
unfolding routed_tile head route_tile
head_route s d t x = refl

module _ (f : Floor) where
  distance_view : (u : ℕ) → within (total f.settings) (distance_in f.tiles) 255 u ≡ distance_of (view f) u
  unfolding state_of
  distance_view = within_view f (distance_in f.tiles) (λ x. x.distance) (λ t h. refl)

  module _ (few : total f.settings ≤ 64) (ok : fits f ≡ true) where
    routed_view : (t : ℕ) → t < total f.settings → routed_at f.settings f.tiles t ≡ head (routed (view f) t)
    unfolding routed_at view
    routed_view t h =
        ap (λ (d : ℕ → ℕ). around f.settings d t (routed_tile f.settings t (head_of f t))) (fun_ext distance_view)
        ∙ ap (λ (x : Tile). around f.settings (distance_of (view f)) t (routed_tile f.settings t x)) (head_read f few ok t h)
        ∙ head_route f.settings (distance_of (view f)) t (tile_of (view f) t)

    same : (t : ℕ) → t < total f.settings → (routed (view f) t).members ≡ (state_of f t).members
    unfolding route_tile
    same t h = ap (λ (x : TileState). x.members) (view_at f t no_tile_of h)

    pub route_pack : (ts : List Tile) → Redone (total f.settings) (routed_at f.settings f.tiles) f.tiles ts
        → ◌≡◌ {A = Floor} (retiled f ts) (pack (route (view f)))
    unfolding route view
    route_pack ts r = pack_heads f few ok (routed (view f)) ts r.0 same (λ t k h. r.1 t h ∙ routed_view t h) (λ t k h. r.2 t h)

-- ---- a value after Route: its settings, its length, its tokens and canisters are the old ones
module _ (m : Model) where
  pub route_settings : (route m).settings ≡ m.settings
  unfolding route
  route_settings = refl

  pub route_length : length (route m).tiles ≡ total m.settings
  unfolding route
  route_length = tab_length (total m.settings) (routed m)

  pub route_at : (t : ℕ) (z : TileState) → t < total m.settings → get_or (route m).tiles t z ≡ routed m t
  unfolding route
  route_at t z h = tab_at (total m.settings) (routed m) t z h

  pub route_token : (t : ℕ) (z : TileState) → t < total m.settings → (get_or (route m).tiles t z).token ≡ token_of m t
  unfolding route_tile
  route_token t z h = ap (λ (x : TileState). x.token) (route_at t z h)

  pub route_members : (t : ℕ) (z : TileState) → t < total m.settings → (get_or (route m).tiles t z).members ≡ members_of m t
  unfolding route_tile
  route_members t z h = ap (λ (x : TileState). x.members) (route_at t z h)
