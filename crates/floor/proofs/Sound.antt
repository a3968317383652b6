-- What a sound floor is like, as facts that proofs use. The Bool tests of specs/ and these facts are joined in Well.
use mathlib.Core.Path.{◌≡◌}
use mathlib.Core.Logic.{◌⊎◌, ◌↔◌, ◌≢◌}
use mathlib.Core.Bool.{true, false}
use mathlib.Core.List.{[]}
use Prim.Native.Nat.{ℕ, ◌+◌, ◌/◌, ◌^◌, ◌≤◌, ◌<◌}
use lib.ListN.{length, get_or}
use Rattle.laws.specs.Define.{bit, sum}
use Rattle.laws.specs.Every.{All, Pairs}
use Rattle.floor.specs.declared.Canister.{Canister}
use Rattle.floor.specs.declared.Settings.{Settings}
use Rattle.floor.specs.Settings.{total, spacing, span, is_hopper, hoppers_of}
use Rattle.floor.specs.Grid.{neighbour}
use Rattle.floor.specs.Layouts.{layouts_sound}
use Rattle.floor.specs.Model.{Model, tile_of, runs_of_of, distance_of, next_of, token_of, members_of, numbers_on}

-- settings that pass 1 to 3
pub record Measured (s : Settings) : Type 0 where
  pub columns_pos : 1 ≤ s.columns
  pub columns_few : s.columns ≤ 8
  pub rows_pos : 1 ≤ s.rows
  pub rows_few : s.rows ≤ 8
  pub two : 2 ≤ total s
  pub few : total s ≤ 64
  pub hoppers_on : s.hoppers < 2 ^ total s
  pub hoppers_some : 1 ≤ length (hoppers_of s)
  pub hoppers_few : length (hoppers_of s) ≤ 4
  pub no_source : All (λ t. bit s.sources t ≡ false) (hoppers_of s)
  pub sources_on : s.sources < 2 ^ total s
  pub wide : 2 ≤ s.width
  pub narrow : s.width ≤ 60000
  pub moving : 1 ≤ s.travel
  pub slow : s.travel < s.length
  pub short : spacing s < s.width
  pub dense : span s / spacing s ≤ 3

-- a canister lies within its tile
pub record Inside (s : Settings) (c : Canister) : Type 0 where
  pub in_a : c.a ≤ span s
  pub in_b : c.b ≤ span s

-- x and y differ by at least d
abbrev pub Differ : ℕ → ℕ → ℕ → Type 0
Differ d x y = (x + d ≤ y) ⊎ (y + d ≤ x)

-- two canisters differ by at least d in a or in b
abbrev pub Apart : ℕ → Canister → Canister → Type 0
Apart d c e = Differ d c.a e.a ⊎ Differ d c.b e.b

-- a side that is none, or faces a tile of the floor
abbrev pub Faces : Settings → ℕ → ℕ → Type 0
Faces s t k = (k ≡ 0) ⊎ (neighbour s k t < total s)

-- all facts hold for every t: where no tile is, a stopped tile without canisters is read
pub record Sound (m : Model) : Type 0 where
  pub measured : Measured m.settings
  pub len : length m.tiles ≡ total m.settings
  pub flag : (t : ℕ) → ((tile_of m t).running ≡ 1) ⊎ ((tile_of m t).running ≡ 0)
  pub hopper_runs : (t : ℕ) → is_hopper m.settings t ≡ true → runs_of_of m t ≡ true
  pub hopper_distance : (t : ℕ) → is_hopper m.settings t ≡ true → distance_of m t ≡ 0
  pub hopper_next : (t : ℕ) → is_hopper m.settings t ≡ true → next_of m t ≡ 0
  pub hopper_empty : (t : ℕ) → is_hopper m.settings t ≡ true → members_of m t ≡ []
  pub off_hopper : (t : ℕ) → is_hopper m.settings t ≡ false → 1 ≤ distance_of m t
  pub capped : (t : ℕ) → (distance_of m t < total m.settings) ⊎ (distance_of m t ≡ 255)
  pub next_iff : (t : ℕ) → is_hopper m.settings t ≡ false → runs_of_of m t ≡ true → next_of m t ≡ 0 ↔ distance_of m t ≡ 255
  pub stop_distance : (t : ℕ) → runs_of_of m t ≡ false → distance_of m t ≡ 255
  pub stop_next : (t : ℕ) → runs_of_of m t ≡ false → next_of m t ≡ 0
  pub stop_token : (t : ℕ) → runs_of_of m t ≡ false → token_of m t ≡ 0
  pub next_faces : (t : ℕ) → Faces m.settings t (next_of m t)
  pub token_faces : (t : ℕ) → Faces m.settings t (token_of m t)
  pub inside : (t : ℕ) → All (Inside m.settings) (members_of m t)
  pub spaced : (t : ℕ) → Pairs (Apart (spacing m.settings)) (members_of m t)
  pub rising : (t : ℕ) → Pairs (λ c e. c.number < e.number) (members_of m t)
  pub positive : All (λ n. 0 < n) (numbers_on m)
  pub below : All (λ n. n ≤ m.counters.last) (numbers_on m)
  pub unique : Pairs (λ x y. x ≢ y) (numbers_on m)
  pub four : length m.counters.delivered ≡ 4
  pub spare : (k : ℕ) → length (hoppers_of m.settings) ≤ k → get_or m.counters.delivered k 0 ≡ 0
  pub counted : m.counters.booked ≡ sum m.counters.delivered + length (numbers_on m)
  pub booked_last : m.counters.booked ≤ m.counters.last
  pub last_fits : m.counters.last < 2 ^ 32
  pub layouts_sound_lem : layouts_sound m.settings m.layouts ≡ true
