-- Demand 2: "each tile deciding from its four neighbours". The theorems are `local_steps` and `local_reasons` of proofs/Locality.
use Rattle.std.specs.Prelude.{◌≡◌, ℕ, ◌<◌}
use Rattle.floor.specs.declared.Settings.{Settings}
use Rattle.floor.specs.Settings.{total}
use Rattle.floor.specs.Grid.{neighbour}
use Rattle.floor.specs.Model.{Model, tile_of}
use Rattle.floor.specs.Route.{route}
use Rattle.floor.specs.Signal.{signal_of}
use Rattle.floor.specs.Move.{arrivals, move_tile}
use Rattle.floor.specs.Reasons.{reason_of, missing_of}

-- a and b agree on t and on what lies beside it; where there is no neighbour, on the number C of no tile
pub record Agree (s : Settings) {A : Type 0} (a b : ℕ → A) (t : ℕ) : Type 0 where
  pub own : a t ≡ b t
  pub beside : (k : ℕ) → a (neighbour s k t) ≡ b (neighbour s k t)

-- two floors with equal settings that agree on tile t and on its four neighbours, whatever the other tiles are
pub record AlikeAround (m n : Model) (t : ℕ) : Type 0 where
  pub settings : m.settings ≡ n.settings
  pub tiles : Agree m.settings (tile_of m) (tile_of n) t

-- each step gives tile t the same. "Each step reads only what the step before left": m and n are what Route, Signal and Move each begin with
pub record LocalSteps (m n : Model) (t : ℕ) : Type 0 where
  pub route : t < total m.settings → tile_of (route m) t ≡ tile_of (route n) t
  -- its turn, its grant, the missing millimetres, and its token afterwards
  pub signal : signal_of m t ≡ signal_of n t
  -- by the grants g on the one floor and e on the other: all that the tile has afterwards
  pub move : (g e : ℕ → ℕ) → Agree m.settings g e t → move_tile m g t ≡ move_tile n e t
  -- what comes to it; at a hopper, what is reported delivered
  pub takes : (g e : ℕ → ℕ) → Agree m.settings g e t → arrivals m g t ≡ arrivals n e t

abbrev pub Local : Type 0
Local = (m n : Model) (t : ℕ) → AlikeAround m n t → LocalSteps m n t

-- [6]: on floors after Route a tile's reason and its millimetres depend on itself and on the tile that its arrow leads to, on that one's neighbours only through its turn
pub record AlikeAhead (m n : Model) (t : ℕ) : Type 0 where
  pub settings : m.settings ≡ n.settings
  pub own : tile_of m t ≡ tile_of n t
  pub ahead : ℕ
  pub is_ahead : ahead ≡ neighbour m.settings (tile_of m t).next t
  pub tile : tile_of m ahead ≡ tile_of n ahead
  pub turn : (signal_of m ahead).turn ≡ (signal_of n ahead).turn

abbrev pub LocalReasons : Type 0
LocalReasons = (m n : Model) (t : ℕ) → AlikeAhead m n t → (reason_of m t ≡ reason_of n t) × (missing_of m t ≡ missing_of n t)
