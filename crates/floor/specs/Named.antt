-- Named layouts: what is promised of keeping, forgetting and recalling. The theorems are `named_layouts` of proofs/Named and `spelling` of proofs/Names.
use Rattle.std.specs.Prelude.{◌≡◌, ◌⊎◌, ◌↔◌, ◌≢◌, Bool, true, false, cond, not, ◌&&◌, ◌||◌, List, [], ◌∷◌, ◌++◌, ℕ, zero, suc, ◌<◌, eqb, length, replicate}
use Rattle.laws.specs.Define.{bit}
use Rattle.laws.specs.Every.{All}
use Rattle.floor.specs.declared.Settings.{Settings}
use Rattle.floor.specs.declared.Floor.{Floor}
use Rattle.floor.specs.Settings.{total}
use Rattle.floor.specs.Layouts.{name_number, letters, name_held, set_of}
use Rattle.floor.specs.Model.{runs_of_of}
use Rattle.floor.specs.Memory.{zero_layout, view, head_of}
use Rattle.floor.specs.Calls.{fresh_answer, running_set}
use Rattle.floor.specs.Demand3.{Call, book, anywhere, stop, repair, round, keep, forget, recall, list, outcome, floor_after, recall_set, recall_makes, runs_by, latest, disturbs}

-- ---- a recall
-- "the stops and repairs needed, in rising tile number": those of n tiles from t on
unfoldable pub needed : Floor → ℕ → ℕ → ℕ → List Call
needed f set t zero = []
needed f set t (suc n) = cond (bit set t) (cond (runs_of_of (view f) t) [] (repair t ∷ [])) (cond (runs_of_of (view f) t) (stop t ∷ []) []) ++ needed f set (suc t) n

unfoldable pub recall_calls : Floor → ℕ → List Call
recall_calls f name = needed f (recall_set f name) 0 (total f.settings)

-- every call of the list is accepted
abbrev pub AllAccepted : Floor → List Call → Type 0
AllAccepted f [] = Unit {0}
AllAccepted f (c ∷ cs) = ((outcome f c).refusal ≡ 0) × AllAccepted (outcome f c).floor cs

-- an accepted recall
pub record Recalling (f : Floor) (name : ℕ) : Type 0 where
  pub after : Floor
  pub is_after : after ≡ (outcome f (recall name)).floor
  -- "Recall makes the stops and repairs needed, in rising tile number": it is these calls, and none of them is refused
  pub made : floor_after f (recall_calls f name) ≡ after
  pub none_refused : AllAccepted f (recall_calls f name)
  -- the tiles of the set run, the others don't
  pub runs : (t : ℕ) → t < total f.settings → runs_of_of (view after) t ≡ bit (recall_set f name) t
  -- a tile that stands as the layout says stays as it is, arrow and turn too
  pub untouched : (t : ℕ) → recall_makes f name t ≡ false → head_of after t ≡ head_of f t
  -- "Canisters and counters never go back."
  pub same_canisters : after.canisters ≡ f.canisters
  pub same_counters : after.counters ≡ f.counters
  pub same_settings : after.settings ≡ f.settings
  -- "and counts as these in demand 3": in what runs, r being what was said of the tile before, and in what ends a list without accepted stops and repairs
  pub counts : (t : ℕ) (r : Bool) → runs_by f (recall name) t r ≡ latest f (recall_calls f name) t r
  pub ends : disturbs f (recall name) ≡ false ↔ recall_calls f name ≡ []

-- ---- keeping and forgetting
-- "Keeping and forgetting change no tile"; nor canisters, counters, settings
pub record SameButLayouts (f g : Floor) : Type 0 where
  pub same_settings : g.settings ≡ f.settings
  pub same_counters : g.counters ≡ f.counters
  pub same_tiles : g.tiles ≡ f.tiles
  pub same_canisters : g.canisters ≡ f.canisters

-- an accepted keeping
pub record Keeping (f : Floor) (name : ℕ) : Type 0 where
  pub after : Floor
  pub is_after : after ≡ (outcome f (keep name)).floor
  -- "the set of tiles that ran when it was kept"
  pub ran : (t : ℕ) → t < total f.settings → bit (set_of (view after).layouts name) t ≡ runs_of_of (view f) t
  -- "Keeping under a held name replaces it": it is held, and the other names are as before
  pub names : (o : ℕ) → name_held (view after).layouts o ≡ (eqb name o || name_held (view f).layouts o)
  pub sets : (o : ℕ) → set_of (view after).layouts o ≡ cond (eqb name o) (running_set (view f)) (set_of (view f).layouts o)

-- an accepted forgetting
pub record Forgetting (f : Floor) (name : ℕ) : Type 0 where
  pub after : Floor
  pub is_after : after ≡ (outcome f (forget name)).floor
  pub names : (o : ℕ) → name_held (view after).layouts o ≡ (not (eqb name o) && name_held (view f).layouts o)
  pub sets : (o : ℕ) → name ≢ o → set_of (view after).layouts o ≡ set_of (view f).layouts o
  -- "forgetting a name frees its place"
  pub frees : length (view f).layouts ≡ suc (length (view after).layouts)

-- whether it is a keeping or a forgetting, the only calls that change layouts
abbrev pub changes_layouts : Call → Bool
changes_layouts (book t c) = false
changes_layouts (anywhere t number) = false
changes_layouts (stop t) = false
changes_layouts (repair t) = false
changes_layouts round = false
changes_layouts (keep name) = true
changes_layouts (forget name) = true
changes_layouts (recall name) = false
changes_layouts (list l) = false

-- f is any floor, well formed or not
pub record LayoutPromises (f : Floor) : Type 0 where
  pub recalling : (name : ℕ) → (outcome f (recall name)).refusal ≡ 0 → Recalling f name
  pub keeping : (name : ℕ) → (outcome f (keep name)).refusal ≡ 0 → Keeping f name
  pub forgetting : (name : ℕ) → (outcome f (forget name)).refusal ≡ 0 → Forgetting f name
  -- accepted or refused
  pub keep_leaves : (name : ℕ) → SameButLayouts f (outcome f (keep name)).floor
  pub forget_leaves : (name : ℕ) → SameButLayouts f (outcome f (forget name)).floor
  -- no other call changes them
  pub layouts_stay : (c : Call) → changes_layouts c ≡ false → (outcome f c).floor.layouts ≡ f.layouts

-- a fresh floor has none, refused or not
abbrev pub NamedLayouts : Type 0
NamedLayouts = ((f : Floor) → LayoutPromises f) × ((s : Settings) → (fresh_answer s).floor.layouts ≡ replicate 8 zero_layout)

-- ---- names as numbers
-- one list of bytes before another, as in a dictionary
abbrev pub Before : List ℕ → List ℕ → Type 0
Before [] [] = ⊥
Before [] (y ∷ ys) = ⊥
Before (x ∷ xs) [] = ⊥
Before (x ∷ xs) (y ∷ ys) = (x < y) ⊎ ((x ≡ y) × Before xs ys)

-- a name's bytes are those of its number, and names rise as their numbers do
pub record Spelling : Type 0 where
  pub bytes : (l : List ℕ) → All (λ x. x < 256) l → letters (length l) (name_number l) ≡ l
  pub rising : (l k : List ℕ) → All (λ x. x < 256) l → All (λ x. x < 256) k → length l ≡ length k → name_number l < name_number k ↔ Before l k
