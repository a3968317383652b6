-- The front of an image, the records of kinds 1, 2 and 5: what is kept of it.
use Rattle.std.specs.Prelude.{◌≡◌, List, ℕ, ◌≤◌, length, take, drop}
use Rattle.floor.specs.Settings.{total}
use Rattle.floor.specs.Memory.{layout_places}
use Rattle.image.specs.Image.{rest_in_of, after_layouts, model_in}
use Rattle.image_read.specs.declared.Front.{Front}

-- r is the front of the floor that xs hold; the tiles' records begin at its `next`
pub record FrontRead (xs : List ℕ) (r : Front) : Type 0 where
  pub settings : r.settings ≡ (model_in xs).settings
  pub counters : r.counters ≡ (model_in xs).counters
  pub layouts : r.layouts ≡ layout_places 8 (model_in xs).layouts
  pub used : take r.count r.layouts ≡ (model_in xs).layouts
  pub few : r.count ≤ 8
  pub size : total r.settings ≤ 64
  pub room : r.next ≤ length xs
  pub rest : after_layouts 8 (rest_in_of (rest_in_of xs)) ≡ drop r.next xs
