-- Live paths, and the canisters on tiles that have one.
use Rattle.std.specs.Prelude.{◌≡◌, Bool, true, false, cond, ◌&&◌, ◌||◌, ℕ, zero, suc, ◌-◌, ◌<◌, length, get_or}
use mathlib.Core.List.{List, [], Memᴰ}
use Rattle.laws.specs.Define.{tab, cat, any_of}
use Rattle.floor.specs.declared.Settings.{Settings}
use Rattle.floor.specs.Sides.{sides}
use Rattle.floor.specs.Settings.{total, is_hopper}
use Rattle.floor.specs.Grid.{neighbour}
use Rattle.floor.specs.Model.{Model, members_of}

-- "A live path goes from a tile, neighbour by neighbour, to the hopper; all its tiles run, both ends included."; it "may end at any hopper"
pub data LivePath (s : Settings) (run : ℕ → Bool) : ℕ → Type 0 where
  here : {t : ℕ} → is_hopper s t ≡ true → t < total s → run t ≡ true → LivePath s run t
  step : {t : ℕ} (k : ℕ) → Memᴰ k sides → t < total s → run t ≡ true → LivePath s run (neighbour s k t) → LivePath s run t

-- for each tile, whether a path of at most n steps leads from it to a hopper
unfoldable pub reached : Settings → (ℕ → Bool) → ℕ → List Bool
reached s run zero = tab (total s) (λ t. is_hopper s t && run t)
reached s run (suc n) =
    let l = reached s run n in
    tab (total s) (λ t. run t && (is_hopper s t || any_of (λ k. get_or l (neighbour s k t) false) sides))

-- whether tile t has a live path: no shortest one has more than C - 1 steps
unfoldable pub connected : Settings → (ℕ → Bool) → ℕ → Bool
connected s run t = get_or (reached s run (total s - 1)) t false

-- K: the canisters on tiles with a live path
unfoldable pub connected_count : Model → (ℕ → Bool) → ℕ
connected_count m run = length (cat (total m.settings) (λ t. cond (connected m.settings run t) (members_of m t) []))
