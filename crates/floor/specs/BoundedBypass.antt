-- Bounded bypass ([11]): while a side waits, no other is granted twice. The theorem is `bounded_bypass` of proofs/BoundedBypass.
use Rattle.std.specs.Prelude.{◌≡◌, ◌≢◌, Bool, true, false, cond, ◌&&◌, ℕ, ◌≤◌, ◌<◌, ltb, eqb, length, get_or}
use mathlib.Core.List.{List, [], ◌∷◌, ◌++◌, Memᴰ}
use Rattle.laws.specs.Define.{filter, bit}
use Rattle.laws.specs.Every.{All}
use Rattle.floor.specs.declared.Floor.{Floor}
use Rattle.floor.specs.Sides.{chosen}
use Rattle.floor.specs.Settings.{total}
use Rattle.floor.specs.Grid.{around}
use Rattle.floor.specs.Model.{Model, runs_of_of, token_of, members_of}
use Rattle.floor.specs.Memory.{view}
use Rattle.floor.specs.Well.{well_formed}
use Rattle.floor.specs.Route.{route}
use Rattle.floor.specs.Signal.{requests, missing, shown_of}
use Rattle.floor.specs.Calls.{round_answer}
use Rattle.floor.specs.Demand3.{Call, stop, recall, InRange, outcome, floor_after, recall_set, is_round, rounds_in}

-- which sides of tile t want in the round that begins with m: "the neighbour there has canisters and its new arrow faces here"
unfoldable pub wants : Model → ℕ → ℕ → Bool
wants m t = around m.settings (shown_of (route m)) t requests

-- "while a side … wants in every round" of the list: side k of tile t
abbrev pub Waiting : Floor → List Call → ℕ → ℕ → Type 0
Waiting f [] t k = Unit {0}
Waiting f (c ∷ cs) t k = (is_round c ≡ true → wants (view f) t k ≡ true) × Waiting (outcome f c).floor cs t k

-- the side that tile t grants in the round that begins with f, by the round's report; 0 where it grants none
unfoldable pub granted : Floor → ℕ → ℕ
granted f t = get_or (round_answer f).report.grants t 0

-- what tile t grants in the rounds of the list, round after round
unfoldable pub grants_in : Floor → List Call → ℕ → List ℕ
grants_in f [] t = []
grants_in f (c ∷ cs) t = cond (is_round c) (granted f t ∷ []) [] ++ grants_in (outcome f c).floor cs t

-- "no other side of that tile is granted twice without the waiting side granted between"
abbrev pub Fair : ℕ → List ℕ → Type 0
Fair k gs = (j : ℕ) (before between after : List ℕ) → j ≢ 0 → j ≢ k → gs ≡ before ++ (j ∷ (between ++ (j ∷ after))) → Memᴰ k between

-- how many rounds granted a side
unfoldable pub grant_count : List ℕ → ℕ
grant_count gs = length (filter (λ j. ltb 0 j) gs)

-- the side whose turn it is in the round that begins with m, before the turn passes on
unfoldable pub turn_of : Model → ℕ → ℕ
turn_of m t = chosen (wants m t) (token_of m t)

-- f is any well-formed floor, so also the one that any stretch of a longer list begins with; a list holds bookings with and without a place, lists of bookings, stops, repairs, recalls, keepings, forgettings and rounds, refused ones among them; t and k are any numbers
pub record BypassPromises (f : Floor) : Type 0 where
  -- "while a side of a running tile wants in every round, no other side of that tile is granted twice without the waiting side granted between"
  pub fair : (cs : List Call) → All InRange cs → (t k : ℕ) → Waiting f cs t k → Fair k (grants_in f cs t)
  -- "A stop of the granting tile ends the count": after an accepted one no side of the tile wants in the next round, so that no side wants in every round
  pub stop_ends : (t : ℕ) → (outcome f (stop t)).refusal ≡ 0 → (cs : List Call) → All InRange cs → rounds_in cs ≡ 0 → (k : ℕ) → wants (view (floor_after f (stop t ∷ cs))) t k ≡ false
  -- a recall that leaves the granting tile stopped ends it likewise
  pub recall_ends : (name t : ℕ) → (outcome f (recall name)).refusal ≡ 0 → t < total f.settings → bit (recall_set f name) t ≡ false → (cs : List Call) → All InRange cs → rounds_in cs ≡ 0 → (k : ℕ)
      → wants (view (floor_after f (recall name ∷ cs))) t k ≡ false
  -- while a side wants in every round and is not granted, at most three grants go to others
  pub three : (cs : List Call) → All InRange cs → (t k : ℕ) → Waiting f cs t k → ¬ (Memᴰ k (grants_in f cs t)) → grant_count (grants_in f cs t) ≤ 3
  -- a running tile grants the side whose turn it is, exactly if that side wants and the tile has the gap for it; if any side wants, that one does
  pub grants : (t : ℕ) → runs_of_of (view f) t ≡ true
      → granted f t ≡ cond (wants (view f) t (turn_of (view f) t) && eqb (missing f.settings (turn_of (view f) t) (members_of (view f) t)) 0) (turn_of (view f) t) 0
  pub turn_wants : (t j : ℕ) → wants (view f) t j ≡ true → wants (view f) t (turn_of (view f) t) ≡ true

-- the theorem: for every well-formed floor
abbrev pub BoundedBypass : Type 0
BoundedBypass = (f : Floor) → well_formed f ≡ true → BypassPromises f
