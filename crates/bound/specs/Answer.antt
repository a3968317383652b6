-- The call bound: "when at the latest", on all inputs.
use Rattle.std.specs.Prelude.{Bool, cond, not, List, [], ℕ, eqb, length}
use Rattle.laws.specs.Define.{cat}
use Rattle.floor.specs.declared.Floor.{Floor}
use Rattle.floor.specs.Settings.{total}
use Rattle.floor.specs.Model.{Model, runs_of_of, members_of, numbers}
use Rattle.floor.specs.Memory.{view}
use Rattle.floor.specs.Calls.{refusal_of}
use Rattle.floor.specs.Bound.{bound}
use Rattle.floor.specs.Live.{connected, connected_count}
use Rattle.bound.specs.declared.Bounded.{Bounded}

-- the numbers of the canisters on the tiles that pass a test
unfoldable pub numbers_where : Model → (ℕ → Bool) → List ℕ
numbers_where m p = cat (total m.settings) (λ t. cond (p t) (numbers (members_of m t)) [])

-- those on tiles with a live path, and those on tiles without one
unfoldable pub connected_numbers : Model → (ℕ → Bool) → List ℕ
connected_numbers m run = numbers_where m (connected m.settings run)

unfoldable pub unconnected_numbers : Model → (ℕ → Bool) → List ℕ
unconnected_numbers m run = numbers_where m (λ t. not (connected m.settings run t))

-- (C - 1) × (1 + K × M) of demand 3 for this floor, with K; and "how many canisters have no live path". Refused by 30 alone; refused, zeros
unfoldable pub bound_answer : Floor → Bounded
bound_answer f =
    let n = refusal_of f [] in
    let m = view f in
    let K = connected_count m (runs_of_of m) in
    let rest = length (unconnected_numbers m (runs_of_of m)) in
    record { rounds = cond (eqb n 0) (bound f.settings K) 0; connected = cond (eqb n 0) K 0; unconnected = cond (eqb n 0) rest 0; refusal = n }
