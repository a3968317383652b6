-- What holds at the heads of the two loops over the tiles, and what they have tested together.
use mathlib.Core.Path.{◌≡◌, sym, ap, ◌∙◌}
use mathlib.Core.Bool.{Bool, true, false, ◌&&◌}
use Prim.Native.Nat.{ℕ, ◌*◌, ◌≤◌, ◌<◌}
use Rattle.laws.specs.Define.{all_below}
use Rattle.laws.proofs.Tables.{below_at, below_of}
use Rattle.laws.proofs.Tests.{and_true, and_no}
use borrow.Author.Tests.{eq-eqb}
use Rattle.floor.specs.declared.Floor.{Floor}
use Rattle.floor.specs.Memory.{head_of, block}
use Rattle.check_floor.specs.InternalTile.{front_test, back_test, tiles_test}
use Rattle.check_floor.specs.InternalCode.{counted}
use Rattle.check_floor.proofs.Branches.{front_few, tile_turns}
use Rattle.check_floor.proofs.Counts.{none_counted}
use Rattle.check_floor.proofs.WellCode.{test_of}

-- what the first loop tests of tile t, and the second
abbrev pub front_of : Floor → ℕ → Bool
front_of f t = front_test f.settings t (head_of f t) (block f.canisters t)

abbrev pub back_of : Floor → ℕ → Bool
back_of f t = back_test f.settings f.counters.last (head_of f t).count (block f.canisters t)

turns_of : (f : Floor) (t : ℕ) → (front_of f t && back_of f t) ≡ test_of f t
unfolding tiles_test
turns_of f t = tile_turns f.settings f.counters.last t (head_of f t) (block f.canisters t)

pub front_off : (f : Floor) (t : ℕ) → front_of f t ≡ false → test_of f t ≡ false
front_off f t h = sym (turns_of f t) ∙ ap (λ (b : Bool). b && back_of f t) h

pub back_off : (f : Floor) (t : ℕ) → back_of f t ≡ false → test_of f t ≡ false
back_off f t h = sym (turns_of f t) ∙ ap (λ (b : Bool). front_of f t && b) h ∙ and_no (front_of f t)

-- every tile is tested once both loops are through; where nothing is counted, after the first
module _ (f : Floor) (front : all_below (front_of f) 64 ≡ true) where
  pub few_each : (t : ℕ) → t < 64 → (head_of f t).count ≤ 16
  few_each t h = front_few f.settings t (head_of f t) (block f.canisters t) (below_at (front_of f) 64 front t h)

  pub both_tested : all_below (back_of f) 64 ≡ true → all_below (test_of f) 64 ≡ true
  both_tested back = below_of (test_of f) 64 (λ t h. sym (turns_of f t) ∙ and_true (below_at (front_of f) 64 front t h) (below_at (back_of f) 64 back t h))

  pub none_tested : counted f.tiles 64 ≡ 0 → all_below (test_of f) 64 ≡ true
  unfolding back_test
  none_tested z = both_tested (below_of (back_of f) 64 (λ t h. rw (eq-eqb (head_of f t).count 0 (none_counted f.tiles 64 z t h))))

pub record Scanned (f : Floor) (n t : ℕ) : Type 0 where
  pub below : t ≤ 64
  pub small : n ≤ 255 * t
  pub totalled : n ≡ counted f.tiles t
  pub tested : true ≡ all_below (front_of f) t

pub record Seen (f : Floor) (u : ℕ) : Type 0 where
  pub below : u ≤ 64
  pub tested : true ≡ all_below (back_of f) u
