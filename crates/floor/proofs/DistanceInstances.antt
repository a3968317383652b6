-- [10]: distances to the nearest of two hoppers, computed, a cut-off tile too; then `distances` there: a path of one step.
use mathlib.Core.Path.{◌≡◌, refl}
use mathlib.Core.Bool.{Bool, true, ◌&&◌}
use mathlib.Core.List.Memᴰ
use mathlib.Core.List.{List, [], ◌∷◌}
use Prim.Native.Nat.{ℕ, ◌-◌, ◌≤◌}
use native.Mathlib.Omega.{arith}
use lib.Dec.{leb, ltb, eqb}
use borrow.Author.Tests.{leb-true, ltb-true, eqb-true}
use Rattle.laws.specs.Define.{tab}
use Rattle.laws.proofs.Tests.{and_left, and_right}
use Rattle.floor.specs.declared.Floor.{Floor}
use Rattle.floor.specs.Sides.{sides}
use Rattle.floor.specs.Settings.{total, is_hopper}
use Rattle.floor.specs.Grid.{neighbour}
use Rattle.floor.specs.Model.{runs_of_of, distance_of}
use Rattle.floor.specs.Memory.{view}
use Rattle.floor.specs.Well.{well_formed}
use Rattle.floor.specs.Calls.{fresh_answer}
use Rattle.floor.specs.Live.{LivePath, here, step}
use Rattle.floor.specs.Demand3.{Call, round, stop, outcome, floor_after, changes_running, rounds_in}
use Rattle.floor.specs.Distances.{steps}
use Rattle.floor.proofs.Calling.{got, several, Table, holds}
use Rattle.floor.proofs.Distances.{distances}

-- W 5, hoppers 0 and 4
unfoldable first : Floor
first = got (fresh_answer (several 5 1 17 20))

abbrev four : List Call
four = round ∷ round ∷ round ∷ round ∷ []

unfoldable settled : Floor
settled = floor_after first four

unfoldable table : Table
table =
    let shown : Floor → List ℕ = λ f. tab 5 (distance_of (view f)) in
    (shown settled, 0 ∷ 1 ∷ 2 ∷ 1 ∷ 0 ∷ [])
    -- tile 3 stopped: tile 2 goes the other way; tile 1 too: it has none
    ∷ (shown (floor_after settled (stop 3 ∷ four)), 0 ∷ 1 ∷ 2 ∷ 255 ∷ 0 ∷ [])
    ∷ (shown (floor_after settled (stop 3 ∷ stop 1 ∷ four)), 0 ∷ 255 ∷ 255 ∷ 255 ∷ 0 ∷ [])
    ∷ []

samples : holds table ≡ true
unfolding holds first settled table outcome floor_after
samples = refl

east : Bool
east =
    let m = view settled in
    (runs_of_of m 3 && (runs_of_of m 4 && is_hopper m.settings 4)) && (eqb (neighbour m.settings 4 3) 4 && ltb 4 (total m.settings))

test : (well_formed first && leb (total first.settings - 1) (rounds_in four)) && east ≡ true
unfolding holds first settled east outcome floor_after
test = refl

-- by the theorem alone: tile 3 is at most one step from a hopper, the one in the east
one_step : distance_of (view settled) 3 ≤ 1
unfolding east steps settled changes_running sides
one_step =
    let m = view settled in
    let w = and_left (well_formed first && leb (total first.settings - 1) (rounds_in four)) _ test in
    let e = and_right (well_formed first && leb (total first.settings - 1) (rounds_in four)) _ test in
    let l = and_left (runs_of_of m 3 && (runs_of_of m 4 && is_hopper m.settings 4)) _ e in
    let r = and_right (runs_of_of m 3 && (runs_of_of m 4 && is_hopper m.settings 4)) _ e in
    let q = and_right (runs_of_of m 3) _ l in
    let on = ltb-true 4 (total m.settings) (and_right (eqb (neighbour m.settings 4 3) 4) _ r) in
    let there : LivePath m.settings (runs_of_of m) 4 = here (and_right (runs_of_of m 4) _ q) on (and_left (runs_of_of m 4) _ q) in
    let p : LivePath m.settings (runs_of_of m) 3 = step {t = 3} 4 (Memᴰ.tail (Memᴰ.tail (Memᴰ.tail (Memᴰ.head refl)))) (omega (arith, on)) (and_left (runs_of_of m 3) _ l) (rw (eqb-true (neighbour m.settings 4 3) 4 (and_left (eqb (neighbour m.settings 4 3) 4) _ r)) there) in
    ((distances first (and_left (well_formed first) _ w)).settled four (tt, (tt, (tt, (tt, tt)))) (refl, (refl, (refl, (refl, tt)))) (leb-true (total first.settings - 1) (rounds_in four) (and_right (well_formed first) _ w))).shortest 3 p
