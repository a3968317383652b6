-- A booking without a place: which place it takes, what it answers, and when it is refused. The theorem is `placing` of proofs/Placing.
use Rattle.std.specs.Prelude.{◌≡◌, ◌⊎◌, ◌↔◌, ◌≢◌, true, cond, ℕ, ◌+◌, ◌≤◌, ◌<◌, eqb}
use Rattle.laws.specs.Define.{bit}
use Rattle.laws.specs.Every.{All}
use Rattle.floor.specs.declared.Floor.{Floor}
use Rattle.floor.specs.declared.Answer.{Answer}
use Rattle.floor.specs.declared.Placed.{Placed}
use Rattle.floor.specs.Settings.{total, spacing, span}
use Rattle.floor.specs.Model.{Model, runs_of_of, members_of}
use Rattle.floor.specs.Memory.{view}
use Rattle.floor.specs.Well.{well_formed}
use Rattle.floor.specs.Calls.{book_answer}
use Rattle.floor.specs.Anywhere.{anywhere_answer}

-- a pair "a, b from 0 to U - l" that "keeps the spacing" on tile t: each canister there differs by at least d in a or in b
pub record Free (m : Model) (t a b : ℕ) : Type 0 where
  pub a_within : a ≤ span m.settings
  pub b_within : b ≤ span m.settings
  pub spaced : All (λ c. ((a + spacing m.settings ≤ c.a) ⊎ (c.a + spacing m.settings ≤ a)) ⊎ ((b + spacing m.settings ≤ c.b) ⊎ (c.b + spacing m.settings ≤ b))) (members_of m t)

-- "the place with the lowest b, then the lowest a, that keeps the spacing"
pub record LowestPlace (m : Model) (t a b : ℕ) : Type 0 where
  pub free : Free m t a b
  pub lowest_b : (x y : ℕ) → Free m t x y → b ≤ y
  pub lowest_a : (x : ℕ) → Free m t x b → a ≤ x

-- "the other checks passed": none of 30, 4, 5, 6, 31, 33
pub record OthersPass (f : Floor) (t number : ℕ) : Type 0 where
  pub well : well_formed f ≡ true
  pub on_floor : t < total f.settings
  pub fill_tile : bit f.settings.sources t ≡ true
  pub not_zero : number ≢ 0
  pub running : runs_of_of (view f) t ≡ true
  pub above_last : f.counters.last < number

-- a booking of the number at a, b
abbrev pub booked_at : Floor → ℕ → ℕ → ℕ → ℕ → Answer
booked_at f t number a b = book_answer f t (record { number = number; a = a; b = b })

-- r: what the call answers on the floor f
pub record Placing (f : Floor) (t number : ℕ) (r : Placed) : Type 0 where
  -- "takes the place …", and tells it
  pub takes : r.refusal ≡ 0 → LowestPlace (view f) t r.a r.b
  -- "Its outcome equals a booking at that place.": floor, counters and refusal; where the tile has a place and another check refuses, too
  pub as_booked : (a b : ℕ) → LowestPlace (view f) t a b → booked_at f t number a b ≡ record { floor = r.floor; refusal = r.refusal }
  -- "With the other checks passed, it is refused exactly when no pair a, b from 0 to U - l keeps the spacing."
  pub accepted : r.refusal ≡ 0 ↔ (OthersPass f t number × (a : ℕ) × (b : ℕ) × Free (view f) t a b)
  pub no_place : r.refusal ≡ 40 ↔ (OthersPass f t number × ((a b : ℕ) → ¬ (Free (view f) t a b)))
  -- "Checks run as for a booking, without 7"; "40, no place on the tile, where 34 stood": refused, it has the number that a booking at any pair from 0 to U - l has
  pub checks : r.refusal ≢ 0 → (a b : ℕ) → a ≤ span f.settings → b ≤ span f.settings → (booked_at f t number a b).refusal ≡ cond (eqb r.refusal 40) 34 r.refusal
  -- refused: the floor as it came, and zeros
  pub refused : r.refusal ≢ 0 → (r.floor ≡ f) × (r.a ≡ 0) × (r.b ≡ 0)

-- the theorem: for every floor, well formed or not, and all numbers
abbrev pub PlaceFound : Type 0
PlaceFound = (f : Floor) (t number : ℕ) → Placing f t number (anywhere_answer f t number)
