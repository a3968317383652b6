-- What is promised of the call bound: after so many rounds what it counted is delivered. The theorem is `within_bound` of proofs/Within.
use Rattle.std.specs.Prelude.{◌≡◌, ◌↔◌, Bool, true, ℕ, ◌+◌, ◌*◌, ◌≤◌, length}
use mathlib.Core.List.{List, [], ◌++◌, Permᴰ}
use Rattle.laws.specs.Every.{All}
use Rattle.floor.specs.declared.Floor.{Floor}
use Rattle.floor.specs.Model.{members_of, numbers_on}
use Rattle.floor.specs.Memory.{view}
use Rattle.floor.specs.Well.{well_formed}
use Rattle.floor.specs.Bound.{bound}
use Rattle.floor.specs.Live.{LivePath, connected}
use Rattle.floor.specs.Demand3.{Call, InRange, floor_after, reported_all, runs_after_of, Quiet, rounds_in}
use Rattle.bound.specs.Answer.{connected_numbers, unconnected_numbers, bound_answer}

-- a further list with no accepted booking, stop or repair, and at least as many rounds as the call answers
abbrev pub Further : Floor → List Call → Type 0
Further now ds = All InRange ds × (Quiet now ds × ((bound_answer now).rounds ≤ rounds_in ds))

-- now: the floor that is asked; run: which tiles run
pub record WithinBound (now : Floor) (run : ℕ → Bool) : Type 0 where
  pub accepted : (bound_answer now).refusal ≡ 0
  -- what it answers: the bound of demand 3 with its own K; K and the others, each the length of a list of numbers, and the two lists are what is on the floor
  pub rounds : (bound_answer now).rounds ≡ bound now.settings (bound_answer now).connected
  pub counted : (bound_answer now).connected ≡ length (connected_numbers (view now) run)
  pub others : (bound_answer now).unconnected ≡ length (unconnected_numbers (view now) run)
  pub aboard : Permᴰ (numbers_on (view now)) (connected_numbers (view now) run ++ unconnected_numbers (view now) run)
  -- the first list is of the tiles with a live path
  pub paths : (t : ℕ) → LivePath now.settings run t ↔ connected now.settings run t ≡ true
  -- it is never 0, and fits 32 bits: at most 3,810,176,559
  pub at_least : 1 ≤ (bound_answer now).rounds
  pub at_most : (bound_answer now).rounds ≤ 63 * (1 + 1008 * 59999)
  -- after the rounds that it answers no canister is on a tile with a live path; the numbers reported meanwhile are, in some order, those that it counted; and those on the floor are the others
  pub emptied : (ds : List Call) → Further now ds → (t : ℕ) → LivePath now.settings run t → members_of (view (floor_after now ds)) t ≡ []
  pub delivered : (ds : List Call) → Further now ds → Permᴰ (reported_all now ds) (connected_numbers (view now) run)
  pub left : (ds : List Call) → Further now ds → Permᴰ (numbers_on (view (floor_after now ds))) (unconnected_numbers (view now) run)

-- the theorem: on the floor after every list of calls from a well-formed one, with the tiles that run by the history, as in demand 3
abbrev pub AtTheLatest : Type 0
AtTheLatest = (f : Floor) → well_formed f ≡ true → (cs : List Call) → All InRange cs → WithinBound (floor_after f cs) (runs_after_of f cs)
