-- Why each tile stood: "one reason for each tile in a round's report, the first that fits".
use Rattle.std.specs.Prelude.{Bool, true, cond, not, List, [], ◌∷◌, ℕ, ltb, eqb, length}
use Rattle.laws.specs.Define.{refusal}
use Rattle.floor.specs.Sides.{opposite}
use Rattle.floor.specs.Settings.{total}
use Rattle.floor.specs.Grid.{neighbour}
use Rattle.floor.specs.Model.{TileState, Model, tile_of, runs}
use Rattle.floor.specs.Signal.{Signal, signal_of}

-- "1 stopped, 2 empty when the round began, 3 no arrow, 4 the turn ahead was another's, 5 no gap, … 6 moved": where none of the first five fits it did (`standing`); x the tile after Route, y what Signal gave the tile that its arrow leads to. "Judge after Signal, by the turn before it passed on."
unfoldable pub reason_tests : TileState → Signal → List (Bool × ℕ)
reason_tests x y =
    (not (runs x), 1) ∷ (eqb (length x.members) 0, 2) ∷ (eqb x.next 0, 3)
    ∷ (not (eqb x.next (opposite y.turn)), 4) ∷ (ltb 0 y.missing, 5) ∷ (true, 6) ∷ []

-- what Signal gave the tile ahead of t; r is the floor after Route
unfoldable pub ahead_of : Model → ℕ → Signal
ahead_of r t = signal_of r (neighbour r.settings (tile_of r t).next t)

-- 0 where no tile is
unfoldable pub reason_of : Model → ℕ → ℕ
reason_of r t = cond (ltb t (total r.settings)) (refusal (reason_tests (tile_of r t) (ahead_of r t))) 0

-- "with the missing millimetres (0 beside other reasons)"
unfoldable pub missing_of : Model → ℕ → ℕ
missing_of r t = cond (eqb (reason_of r t) 5) (ahead_of r t).missing 0
