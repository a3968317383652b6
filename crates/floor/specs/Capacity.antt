-- "No refusal for a full tile is needed: spacing d allows (U - l) div d + 1 along each axis, and the product of the two bounds the tile." The theorem is `capacity` of proofs/FreshAndWidths.
use Rattle.std.specs.Prelude.{◌≡◌, ◌⊎◌, ◌≢◌, true, List, ℕ, ◌+◌, ◌*◌, ◌/◌, ◌≤◌, ◌<◌, length}
use Rattle.laws.specs.Define.{bit}
use Rattle.laws.specs.Every.{All, Pairs}
use Rattle.floor.specs.declared.Canister.{Canister}
use Rattle.floor.specs.declared.Settings.{Settings}
use Rattle.floor.specs.declared.Floor.{Floor}
use Rattle.floor.specs.Settings.{total, spacing, span}
use Rattle.floor.specs.Model.{runs_of_of, members_of}
use Rattle.floor.specs.Memory.{view}
use Rattle.floor.specs.Well.{inside, well_formed}
use Rattle.floor.specs.Calls.{book_answer}

-- "(U - l) div d + 1"
abbrev pub per_axis : Settings → ℕ
per_axis s = span s / spacing s + 1

pub record Capacity (f : Floor) : Type 0 where
  -- so many fit: 0, d, 2 × d, … up to U - l
  pub fit : (k : ℕ) → k < per_axis f.settings → k * spacing f.settings ≤ span f.settings
  -- and no more: places from 0 to U - l, any two of them at least d apart
  pub along : (l : List ℕ) → All (λ x. x ≤ span f.settings) l → Pairs (λ x y. (x + spacing f.settings ≤ y) ⊎ (y + spacing f.settings ≤ x)) l → length l ≤ per_axis f.settings
  pub product : (t : ℕ) → length (members_of (view f) t) ≤ per_axis f.settings * per_axis f.settings
  pub sixteen : per_axis f.settings * per_axis f.settings ≤ 16
  -- with the other tests passed, every place on a tile that holds so many is refused by 34
  pub full : (t : ℕ) (c : Canister) → length (members_of (view f) t) ≡ per_axis f.settings * per_axis f.settings
      → t < total f.settings → bit f.settings.sources t ≡ true → c.number ≢ 0 → inside f.settings c ≡ true → runs_of_of (view f) t ≡ true → f.counters.last < c.number
      → (book_answer f t c).refusal ≡ 34

abbrev pub FullTiles : Type 0
FullTiles = (f : Floor) → well_formed f ≡ true → Capacity f
