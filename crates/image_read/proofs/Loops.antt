-- What holds at the heads of the loops: of `canisters_of`, over the tiles and over one tile's canisters.
use mathlib.Core.Path.{◌≡◌}
use mathlib.Core.List.{List}
use Prim.Native.Nat.{ℕ, ◌+◌, ◌*◌, ◌≤◌, ◌<◌}
use native.Mathlib.Omega.{arith}
use lib.ListN.{length, drop, get_or, set}
use Rattle.floor.specs.declared.Canister.{Canister}
use Rattle.image.specs.Image.{canister_in}
use Rattle.image_read.proofs.Places.{Placed, placed_turn, placed_tile}

pub record TilesPlaced (s starts : List ℕ) (c : ℕ) (out : List Canister) (t : ℕ) : Type 0 where
  pub below : t ≤ c
  pub few : c ≤ 64
  pub starts_length : length starts ≡ 64
  pub placed : Placed s starts c (16 * t) out

pub record CanistersPlaced (s starts : List ℕ) (c t at n : ℕ) (out : List Canister) (j : ℕ) : Type 0 where
  pub below : j ≤ n
  pub here : t < c
  pub few : c ≤ 64
  pub count : n ≡ get_or s (at + 5) 0
  pub small : n ≤ 16
  pub room : at + 6 + 8 * n ≤ length s
  pub starts_length : length starts ≡ 64
  pub placed : Placed s starts c (16 * t + j) out

-- one more canister of a tile, and the end of the tile
module _ {s starts : List ℕ} {c t n j : ℕ} {out : List Canister} (h : CanistersPlaced s starts c t (get_or starts t 0) n out j) where
  abbrev at : ℕ
  at = get_or starts t 0

  pub canister_turn : (v : Canister) → j < n → v ≡ canister_in (drop (at + 6 + 8 * j) s) → CanistersPlaced s starts c t at n (set out (16 * t + j) v) (j + 1)
  canister_turn v l e = record {
    below = omega arith;
    here = h.here;
    few = h.few;
    count = h.count;
    small = h.small;
    room = h.room;
    starts_length = h.starts_length;
    placed = placed_turn s starts c t h.here h.few (omega arith) n h.count h.small j out v l e h.placed;
  }

  pub tile_end : n ≤ j → TilesPlaced s starts c out (t + 1)
  tile_end l = record {
    below = omega arith;
    few = h.few;
    starts_length = h.starts_length;
    placed = placed_tile s starts c t h.here h.few (omega arith) n h.count h.small j out l h.below h.placed;
  }
