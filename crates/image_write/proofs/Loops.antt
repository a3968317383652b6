-- What holds at the heads of the loops: over the places of layouts, for how many there are and for their records; over the tiles, for the length of their records; of `put_tiles`, over the tiles and over one tile's canisters.
use mathlib.Core.Path.{◌≡◌, refl, sym, ◌∙◌}
use mathlib.Core.List.{List}
use Prim.Native.Nat.{ℕ, ◌+◌, ◌*◌, ◌≤◌, ◌<◌}
use native.Mathlib.Omega.{arith}
use lib.ListN.{length, take, drop, get_or}
use Rattle.image_bytes.specs.InternalPut.{put}
use Rattle.image_bytes.proofs.PutLaws.{put_none}
use Rattle.floor.specs.declared.Canister.{Canister}
use Rattle.floor.specs.declared.Layout.{Layout}
use Rattle.floor.specs.declared.Tile.{Tile}
use Rattle.floor.specs.Memory.{zero_tile, zero_layout, used_layouts}
use Rattle.image.specs.Image.{record_of, canisters_body, layout_body, layouts_bytes}
use Rattle.image.proofs.Sizes.{tile_front, canister_length, layout_length}
use Rattle.image_record_write.specs.InternalParts.{canister_bytes, tile_bytes}
use Rattle.image_record_write.proofs.RecordBytes.{put_turn}
use Rattle.image_write.specs.InternalUpto.{count_at, upto}
use Rattle.image_write.proofs.ImageBytes.{heads_size, at_turn, layouts_turn, tiles_turn, upto_room}

pub record LayoutsCounted (all : List Layout) (k : ℕ) : Type 0 where
  pub below : k ≤ 8
  pub all_length : length all ≡ 8
  pub counted : length (used_layouts all) ≡ k + length (used_layouts (drop k all))

pub record TilesMeasured (tiles : List Tile) (c h first filled n t : ℕ) : Type 0 where
  pub below : t ≤ c
  pub few : c ≤ 64
  pub tiles_length : length tiles ≡ 64
  pub reached : n ≡ first + 16 + 4 * h + layout_length * filled + heads_size tiles t
  pub small : n ≤ 224 + 138 * t
  pub counts_small : (u : ℕ) → u < c → count_at tiles u ≤ 16

pub record TilesPut (s₀ : List ℕ) (from c : ℕ) (tiles : List Tile) (all : List Canister) (s : List ℕ) (at t : ℕ) : Type 0 where
  pub below : t ≤ c
  pub few : c ≤ 64
  pub tiles_length : length tiles ≡ 64
  pub all_length : length all ≡ 1024
  pub small : (u : ℕ) → u < c → count_at tiles u ≤ 16
  pub room : from + length (upto tiles all c) ≤ length s₀
  pub buffer_length : length s ≡ length s₀
  pub reached : at ≡ from + length (upto tiles all t)
  pub written : s ≡ put s₀ from (upto tiles all t)

pub record CanistersPut (s₀ : List ℕ) (all : List Canister) (at t n : ℕ) (s : List ℕ) (k : ℕ) : Type 0 where
  pub below : k ≤ n
  pub few : n ≤ 16
  pub here : t < 64
  pub all_length : length all ≡ 1024
  pub room : at + tile_front + canister_length * n ≤ length s₀
  pub buffer_length : length s ≡ length s₀
  pub written : s ≡ put s₀ (at + tile_front) (canisters_body (take k (drop (16 * t) all)))

pub record LayoutsPut (s₀ : List ℕ) (from : ℕ) (all : List Layout) (s : List ℕ) (k : ℕ) : Type 0 where
  pub room : from + layout_length * length all ≤ length s₀
  pub buffer_length : length s ≡ length s₀
  pub written : s ≡ put s₀ from (layouts_bytes (take k all))

-- a turn over the layouts
pub layout_turn : {s₀ : List ℕ} {from : ℕ} {all : List Layout} {s : List ℕ} {k : ℕ} → LayoutsPut s₀ from all s k → k < length all → (s' : List ℕ) → length s' ≡ length s
    → s' ≡ put s (from + layout_length * k) (record_of 5 (layout_body (get_or all k zero_layout))) → LayoutsPut s₀ from all s' (k + 1)
layout_turn {s₀} {from} {all} {s} {k} h l s' e p = record {
  room = h.room;
  buffer_length = e ∙ h.buffer_length;
  written = layouts_turn s₀ s s' from k all (omega arith) (omega arith) h.written p;
}

-- a turn over a tile's canisters
pub canister_turn : {s₀ : List ℕ} {all : List Canister} {at t n : ℕ} {s : List ℕ} {k : ℕ} → CanistersPut s₀ all at t n s k → k < n → (s' : List ℕ) (z : Canister) → length s' ≡ length s
    → s' ≡ put s (at + tile_front + canister_length * k) (canister_bytes (get_or all (16 * t + k) z)) → CanistersPut s₀ all at t n s' (k + 1)
canister_turn {s₀} {all} {at} {t} {n} {s} {k} h l s' z e p = record {
  below = omega arith;
  few = h.few;
  here = h.here;
  all_length = h.all_length;
  room = h.room;
  buffer_length = e ∙ h.buffer_length;
  written = put_turn s₀ s s' (at + tile_front) (16 * t) k all z (omega arith) (omega arith) h.written p;
}

-- a tile whose record is to be written: it fits, its canisters begin, and all of it was written
module _ {s₀ : List ℕ} {from c : ℕ} {tiles : List Tile} {all : List Canister} {s : List ℕ} {at t : ℕ} (h : TilesPut s₀ from c tiles all s at t) (l : t < c) where
  pub tile_fits_lem : (count_at tiles t ≤ 16) × (at + tile_front + canister_length * count_at tiles t ≤ length s₀)
  tile_fits_lem = let k = h.small t l in (k, omega (arith, upto_room tiles all t c l (omega arith) k))

  pub canisters_begin : (s₁ : List ℕ) → length s₁ ≡ length s → CanistersPut s₁ all at t (count_at tiles t) s₁ 0
  unfolding canisters_body
  canisters_begin s₁ e =
      let b = tile_fits_lem in
      record {
        below = omega arith;
        few = b.0;
        here = omega arith;
        all_length = h.all_length;
        room = omega arith;
        buffer_length = refl;
        written = sym (put_none s₁ (at + tile_front));
      }

  pub tile_turn : (s₁ : List ℕ) → length s₁ ≡ length s → s₁ ≡ put s at (tile_bytes t (get_or tiles t zero_tile)) → (s' : List ℕ) (k : ℕ) → CanistersPut s₁ all at t (count_at tiles t) s' k → count_at tiles t ≤ k
      → TilesPut s₀ from c tiles all s' (at + tile_front + canister_length * count_at tiles t) (t + 1)
  tile_turn s₁ e p s' k i o =
      let b = tile_fits_lem in
      let m : 16 * t + 16 ≤ length all = omega arith in
      let z : k ≡ count_at tiles t = omega arith in
      record {
        below = omega arith;
        few = h.few;
        tiles_length = h.tiles_length;
        all_length = h.all_length;
        small = h.small;
        room = h.room;
        buffer_length = i.buffer_length ∙ e ∙ h.buffer_length;
        reached = at_turn tiles all from at t m b.0 h.reached;
        written = tiles_turn tiles all s₀ s s₁ s' from at t m b.0 b.1 h.reached h.written p (rw z at i.written);
      }
