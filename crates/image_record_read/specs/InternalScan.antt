-- What is read of a record; what the scans of an image find: the layouts and how many there are, and where the body of each tile's record starts.
use Rattle.std.specs.Prelude.{◌≡◌, cond, List, ℕ, zero, suc, ◌+◌, ◌*◌, ◌≤◌, ◌<◌, ltb, length, drop, get_or}
use Rattle.laws.specs.Define.{tab}
use Rattle.image_bytes.specs.Bytes.{field}
use Rattle.floor.specs.declared.Layout.{Layout}
use Rattle.floor.specs.Memory.{zero_layout, head}
use Rattle.image.specs.Image.{tile_widths, length_in, body_in, rest_in_of, settings_in, counters_in, tile_in, layout_in, layouts_in, after_layouts}
use Rattle.image_record_read.specs.declared.Record.{Record}
use Rattle.image_record_read.specs.declared.Record.TheVariants as R

-- what a record at the front of xs holds, where kind `due` is due; for kind 2, t is the number of hoppers
abbrev pub Holds : ℕ → ℕ → List ℕ → Record → Type 0
Holds due t xs (R.Settings x) = (due ≡ 1) × (x ≡ settings_in (length_in xs) (body_in xs))
Holds due t xs (R.Counters x) = (due ≡ 2) × (x ≡ counters_in t (body_in xs))
Holds due t xs (R.Tile x) = (due ≡ 3) × (x ≡ head (tile_in (body_in xs)))
Holds due t xs R.End = due ≡ 4
Holds due t xs (R.Layout x) = (due ≡ 5) × (x ≡ layout_in (body_in xs))

-- place k of n layouts whose records begin at `from`
unfoldable pub layout_from : List ℕ → ℕ → ℕ → ℕ → Layout
layout_from s from n k = cond (ltb k n) (layout_in (drop (from + 4 + 20 * k) s)) zero_layout

-- n records of layouts stand in s from `from` on, twenty bytes each; `out` are the eight places in memory
pub record LayoutsAt (s : List ℕ) (from n : ℕ) (out : List Layout) : Type 0 where
  pub few : n ≤ 8
  pub room : from + 20 * n ≤ length s
  pub values : layouts_in 8 (drop from s) ≡ tab n (λ k. layout_in (drop (from + 4 + 20 * k) s))
  pub rest : after_layouts 8 (drop from s) ≡ drop (from + 20 * n) s
  pub places : out ≡ tab 8 (layout_from s from n)

-- the bytes left after t records
unfoldable pub after : ℕ → List ℕ → List ℕ
after zero xs = xs
after (suc t) xs = rest_in_of (after t xs)

-- p is the place in s where the body of the record after t others starts; n of that body is at most 16, and the body stands in s
pub record Start (s xs : List ℕ) (t p : ℕ) : Type 0 where
  pub spot : drop p s ≡ body_in (after t xs)
  pub room : p + 6 + 8 * field tile_widths 5 (drop p s) ≤ length s
  pub few : field tile_widths 5 (drop p s) ≤ 16

abbrev pub Starts : List ℕ → List ℕ → List ℕ → ℕ → Type 0
Starts s xs starts n = (t : ℕ) → t < n → Start s xs t (get_or starts t 0)
