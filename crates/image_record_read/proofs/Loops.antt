-- What holds at the heads of the loops: of the scans, over the layouts' records and over the tiles'; over the counts of what was delivered.
use mathlib.Core.Path.{◌≡◌, sym, ap, ◌∙◌}
use mathlib.Core.Logic.{◌≢◌}
use mathlib.Core.Bool.{Bool, true, false}
use mathlib.Core.List.{List}
use Prim.Native.Nat.{ℕ, ◌+◌, ◌-◌, ◌*◌, ◌≤◌, ◌<◌}
use native.Mathlib.Omega.{arith}
use lib.ListN.{length, drop, set, length-set}
use Rattle.floor.specs.declared.Layout.{Layout}
use Rattle.floor.specs.declared.Tile.{Tile}
use Rattle.floor.specs.Memory.{head}
use Rattle.image.specs.Image.{body_in, rest_in_of, tile_in, layout_in, tiles_fault, record_fault, is_layout, layouts_fault}
use Rattle.image.proofs.Sizes.{layout_length}
use Rattle.image_record_read.specs.InternalScan.{Starts, after, LayoutsAt}
use Rattle.image_record_read.proofs.Walk.{Tiled, Passed, LayoutsFilled, after_more, layouts_turn, passed_off, passed_on, passed_room, passed_stop, record_room, rest_at, start_at, starts_more, tiled_turn, tiles_on, tiles_stop}
use Rattle.laws.specs.InternalFilled.{Upto, From}
use Rattle.image_bytes.specs.Bytes.{le}

pub record LayoutsScanned (s : List ℕ) (from : ℕ) (layouts : List Layout) (at n : ℕ) : Type 0 where
  pub below : n ≤ 8
  pub reached : at ≡ from + layout_length * n
  pub passed : Passed s from n
  pub layouts_filled : LayoutsFilled s from n layouts

pub record TilesScanned (s : List ℕ) (from c : ℕ) (tiles : List Tile) (starts : List ℕ) (at t : ℕ) : Type 0 where
  pub below : t ≤ c
  pub inside : at ≤ length s
  pub starts_length : length starts ≡ 64
  pub reached : drop at s ≡ after t (drop from s)
  pub faults : tiles_fault (c - t) t (drop at s) ≡ tiles_fault c 0 (drop from s)
  pub started : Starts s (drop from s) starts t
  pub tiled : Tiled c (drop from s) t tiles

pub record CountersRead (s : List ℕ) (at h n : ℕ) (delivered : List ℕ) (k : ℕ) : Type 0 where
  pub below : k ≤ h
  pub few : h ≤ 4
  pub whole : n ≡ h
  pub inside : at + 8 + 4 * h ≤ length s
  pub delivered_length : length delivered ≡ 4
  pub read : Upto k (λ j. le 4 (drop (at + 8 + 4 * j) s)) 0 delivered
  pub zeros : From k (λ _. 0) 0 delivered

-- a turn over the layouts: none stands there; one that is refused; one more
module _ {s : List ℕ} {from : ℕ} {layouts : List Layout} {at n : ℕ} (h : LayoutsScanned s from layouts at n) (b : Bool) (e : b ≡ is_layout (drop at s)) where
  here : is_layout (drop (from + layout_length * n) s) ≡ b
  here = ap (λ (k : ℕ). is_layout (drop k s)) (sym h.reached) ∙ sym e

  pub layouts_off : b ≡ false → (0 ≡ layouts_fault 8 (drop from s)) × LayoutsAt s from n layouts
  layouts_off q = let r = passed_off s from n h.passed layouts h.layouts_filled h.below (here ∙ q) in (sym r.0, r.1)

  module _ (q : b ≡ true) (l : n < 8) (k : ℕ) (f : k ≡ record_fault 5 0 (drop at s)) where
    fault_here : k ≡ record_fault 5 0 (drop (from + layout_length * n) s)
    fault_here = f ∙ ap (λ (k : ℕ). record_fault 5 0 (drop k s)) h.reached

    pub layout_stop : k ≢ 0 → k ≡ layouts_fault 8 (drop from s)
    layout_stop o = fault_here ∙ passed_stop s from n h.passed l (here ∙ q) (λ z. o (fault_here ∙ z))

    pub layout_room : k ≡ 0 → at + layout_length ≤ length s
    layout_room z = omega (arith, h.reached, passed_room s from n h.passed (sym fault_here ∙ z))

    pub layout_turn : k ≡ 0 → (x : Layout) → x ≡ layout_in (body_in (drop at s)) → LayoutsScanned s from (set layouts n x) (at + layout_length) (n + 1)
    layout_turn z x p = record {
      below = omega arith;
      reached = omega (arith, h.reached);
      passed = passed_on s from n h.passed l (here ∙ q) (sym fault_here ∙ z);
      layouts_filled = layouts_turn s from n at layouts x l h.reached p h.layouts_filled;
    }

-- a turn over the tiles: a record that is refused, and one more tile
module _ {s : List ℕ} {from c : ℕ} {tiles : List Tile} {starts : List ℕ} {at t : ℕ} (h : TilesScanned s from c tiles starts at t) (l : t < c) (k : ℕ) (e : k ≡ record_fault 3 t (drop at s)) where
  pub tile_stop : k ≢ 0 → k ≡ tiles_fault c 0 (drop from s)
  tile_stop o = e ∙ sym (tiles_stop c t (drop at s) l (λ z. o (e ∙ z))) ∙ h.faults

  pub tile_room : k ≡ 0 → at + 4 + le 2 (drop at s) ≤ length s
  tile_room z = record_room s at 3 t h.inside (sym e ∙ z)

  pub tile_turn : k ≡ 0 → c ≤ 64 → (x : Tile) → x ≡ head (tile_in (body_in (drop at s))) → (n to : ℕ) → n ≡ le 2 (drop at s) → to ≡ at + 4 + n → TilesScanned s from c (set tiles t x) (set starts t (at + 4)) to (t + 1)
  tile_turn y few x H n to q u =
      let z = sym e ∙ y in
      let xs = drop from s in
      let m = tile_room y in
      let p : rest_in_of (drop at s) ≡ drop to s = rest_at s at n q ∙ ap (λ (k : ℕ). drop k s) (sym u) in record {
        below = omega arith;
        inside = omega arith;
        starts_length = simp length-set h.starts_length;
        reached = after_more t (drop at s) xs _ h.reached p;
        faults = rw (← p) (sym (tiles_on c t (drop at s) l z) ∙ h.faults);
        started = starts_more s xs starts t (at + 4) (omega arith) h.started (start_at s xs at t h.inside h.reached z);
        tiled = tiled_turn c xs t tiles x (drop at s) l (omega arith) h.reached H h.tiled;
      }
