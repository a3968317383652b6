-- The entry of a label: its tile, and whether it is ready.
use mathlib.Core.Path.{◌≡◌, refl}
use mathlib.Core.Bool.{Bool, true, false, cond, ◌&&◌, ◌||◌}
use mathlib.Core.List.{List, [], ◌∷◌}
use denote.Ref.{Bor}
use Prim.Native.Nat.{ℕ, ◌+◌, ◌<◌}
use lib.Dec.{eqb}
use lib.ListN.{length, take}
use Rattle.std.specs.Prelude.{Option, None, Some}
use Rattle.std.specs.List.{find}
use Rattle.std.specs.Option.{option_map, option_map_or}
use Rattle.laws.specs.Define.{any_of}
use Rattle.plan.specs.declared.Entry.{Entry}
use Rattle.plan.specs.Entries.{ready}
use Rattle.plan.specs.Plans.{tile_for}
use Rattle.plan_check.proofs.Tables.{zero_entry, entry_at, any_more}
use Rattle.plan_parts.proofs.Lowest.{ready_in}

-- no entry was looked at yet
pub found_none : (es : List Entry) (label : ℕ) → false ≡ ready_in es (take 0 es) label
unfolding any_of
found_none es label = refl

-- x is the entry at place k
pub found_turn : (es : List Entry) (label k : ℕ) {ok own y : Bool} → k < length es → ok ≡ ready_in es (take k es) label
    → own ≡ eqb (entry_at es k).label label → y ≡ ready es (entry_at es k) → (ok || (own && y)) ≡ ready_in es (take (k + 1) es) label
found_turn es label k h f o w = rw (any_more (λ e. eqb e.label label && ready es e) es k zero_entry h, f, o, w)

-- ---- the tile: of the first entry that has the label
pub tile_read : (r : Option (Bor Entry)) → option_map_or (λ (e : Bor Entry). e.now.tile) r 0 ≡ option_map_or (λ (e : Entry). e.tile) (option_map (λ (e : Bor Entry). e.now) r) 0
tile_read None = refl
tile_read (Some e) = refl

pub tile_found : (es : List Entry) (label : ℕ) → option_map_or (λ (e : Entry). e.tile) (find (λ e. eqb e.label label) es) 0 ≡ tile_for es label
unfolding tile_for
tile_found [] label = refl
tile_found (e ∷ es) label = go (eqb e.label label) (tile_found es label)
  where
    go : (b : Bool) → option_map_or (λ (e : Entry). e.tile) (find (λ e. eqb e.label label) es) 0 ≡ tile_for es label
        → option_map_or (λ (e : Entry). e.tile) (cond b (Some e) (find (λ e. eqb e.label label) es)) 0 ≡ cond b e.tile (tile_for es label)
    go true h = refl
    go false h = h
