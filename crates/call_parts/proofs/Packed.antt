-- What stop, repair and fresh leave in memory is the changed value, packed.
use mathlib.Core.Path.{◌≡◌, ap, ◌∙◌}
use mathlib.Core.Bool.{true, false}
use mathlib.Core.List.{List, []}
use Prim.Native.Nat.{ℕ, ◌≤◌, ◌<◌}
use native.Mathlib.Omega.{arith}
use lib.ListN.{get_or, set, replicate, length-replicate, get_or-replicate}
use Rattle.floor.specs.declared.Settings.{Settings}
use Rattle.floor.specs.declared.Tile.{Tile}
use Rattle.floor.specs.declared.Floor.{Floor}
use Rattle.floor.specs.Settings.{total, is_hopper, settings_pass}
use Rattle.floor.specs.Model.{TileState, no_tile_of, tile_of, with_tile}
use Rattle.floor.specs.Memory.{zero_counters, zero_canister, zero_floor, view, head, layout_places, pack, stopped_head, repaired_head, retiled, refitted}
use Rattle.floor.specs.Well.{well_formed}
use Rattle.floor.specs.Calls.{fresh_tile, fresh_floor, stopped, repaired}
use Rattle.floor.proofs.Well.{settings_fact}
use Rattle.floor.proofs.Rows.{view_at}
use Rattle.floor.proofs.Pack.{pack_head, pack_tab, well_fits, well_few}
use Rattle.call_parts.proofs.Loops.{Freshened}

-- ---- one tile anew
module _ (f : Floor) (t : ℕ) (w : well_formed f ≡ true) (on : t < total f.settings) where
  pub stopped_pack : (h : Tile) → h ≡ head (tile_of (view f) t)
      → ◌≡◌ {A = Floor} (retiled f (set f.tiles t (stopped_head h)))
      (pack (with_tile (view f) t (stopped (tile_of (view f) t))))
  unfolding stopped head
  stopped_pack h e =
      ap (λ (x : Tile). put (stopped_head x)) e
      ∙ pack_head f (well_few f w) (well_fits f w) t (stopped (tile_of (view f) t)) on (ap (λ (x : TileState). x.members) (view_at f t no_tile_of on))
    where
      put : Tile → Floor
      put x = retiled f (set f.tiles t x)

  pub repaired_pack : (h : Tile) → h ≡ head (tile_of (view f) t)
      → ◌≡◌ {A = Floor} (retiled f (set f.tiles t (repaired_head h)))
      (pack (with_tile (view f) t (repaired (tile_of (view f) t))))
  unfolding repaired head
  repaired_pack h e =
      ap (λ (x : Tile). put (repaired_head x)) e
      ∙ pack_head f (well_few f w) (well_fits f w) t (repaired (tile_of (view f) t)) on (ap (λ (x : TileState). x.members) (view_at f t no_tile_of on))
    where
      put : Tile → Floor
      put x = retiled f (set f.tiles t x)

-- ---- a fresh floor
pub fresh_hopper : (s : Settings) (t : ℕ) → is_hopper s t ≡ true
    → ◌≡◌ {A = Tile} (record { running = 1; distance = 0; next = record { code = 0 }; token = record { code = 0 }; count = 0 }) (head (fresh_tile s t))
unfolding head fresh_tile
fresh_hopper s t e = rw e

pub fresh_other : (s : Settings) (t : ℕ) → is_hopper s t ≡ false
    → ◌≡◌ {A = Tile} (record { running = 1; distance = 255; next = record { code = 0 }; token = record { code = 0 }; count = 0 }) (head (fresh_tile s t))
unfolding head fresh_tile
fresh_other s t e = rw e

pub fresh_few : (s : Settings) → settings_pass s ≡ true → total s ≤ 64
fresh_few s p = ((settings_fact s).0 p).few

pub fresh_pack : (s : Settings) (z : Floor) (ts : List Tile) (all t : ℕ) → all ≡ total s → z ≡ zero_floor → Freshened s all ts t → all ≤ t
    → ◌≡◌ {A = Floor} (retiled (refitted z s) ts) (pack (fresh_floor s))
unfolding fresh_floor fresh_tile zero_floor layout_places
fresh_pack s z ts all t m e l done =
    let n : t ≡ total s = omega arith in
    ap (λ (x : Floor). retiled (refitted x s) ts) e
    ∙ pack_tab s zero_counters (fresh_tile s) ts (replicate 1024 zero_canister) [] l.tiles_length (length-replicate 1024 zero_canister)
    (λ u _ k. rw n at l.fresh u k) (λ u _ k. rw n at l.rest u k) (λ i k _. none i k) (λ i k _. none i k)
  where
    none : (i : ℕ) → i < 1024 → get_or (replicate 1024 zero_canister) i zero_canister ≡ zero_canister
    none i k = get_or-replicate 1024 i zero_canister zero_canister k
