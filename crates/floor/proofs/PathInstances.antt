-- [10] on concrete floors, beside DistanceInstances: `distances` field by field, where distances have settled and where tiles are cut off.
use mathlib.Core.Path.{◌≡◌, refl, sym, ap, ◌∙◌, subst}
use mathlib.Core.Bool.{true, false, true≢false}
use Prim.Native.Nat.{ℕ, ◌≤◌}
use native.Mathlib.Omega.{arith}
use Rattle.floor.specs.Settings.{total}
use Rattle.floor.specs.Model.{Model, runs_of_of, distance_of}
use Rattle.floor.specs.Memory.{view}
use Rattle.floor.specs.Live.{LivePath, here, step}
use Rattle.floor.specs.Demand3.{floor_after}
use Rattle.floor.specs.Distances.{steps, ToNearest}
use Rattle.floor.proofs.Calling.{several, holds}
use Rattle.floor.proofs.CallsByValue.{Shows}
use Rattle.floor.proofs.ListsByValue.{value_after_of, shows_list}
use Rattle.floor.proofs.TablesByValue.{Made, begun, stop as halt, floor_of, made, made_shows, hold_by}
use Rattle.floor.proofs.Arrows.{arrows}
use Rattle.floor.proofs.Distances.{distances}
use Rattle.floor.proofs.Instances.{rounds, in_range_rounds, running_unchanged_rounds}

-- a floor of five tiles after four rounds, C - 1
module _ (e : Made) (h : (made e).0 ≡ true) (five : total (made e).1.settings ≡ 5) where
  first : Shows (floor_of e) (made e).1
  first = made_shows e h

  enough : total (floor_of e).settings ≡ 5
  unfolding view
  enough = ap (λ (x : Model). total x.settings) first.value ∙ five

  then : Shows (floor_after (floor_of e) (rounds 4)) (value_after_of (made e).1 (rounds 4))
  then = shows_list (floor_of e) (made e).1 first (rounds 4) (in_range_rounds 4)

  settled : ToNearest (value_after_of (made e).1 (rounds 4))
  settled = subst ToNearest then.value ((distances (floor_of e) first.well).settled (rounds 4) (in_range_rounds 4) (running_unchanged_rounds 4 (floor_of e)) (omega (arith, enough)))

  -- the next round changes no distance there
  steady : ToNearest (value_after_of (made e).1 (rounds 4))
  steady = subst ToNearest then.value ((distances (floor_after (floor_of e) (rounds 4)) then.well).steady ((arrows (floor_of e) first.well).1.steady (rounds 4) (in_range_rounds 4) (running_unchanged_rounds 4 (floor_of e)) (omega (arith, enough))))

-- ---- W 5, hoppers 0 and 4: tile 2 is two steps from either, tile 3 one from the second
unfoldable line : Made
line = begun (several 5 1 17 20)

abbrev m : Model
m = value_after_of (made line).1 (rounds 4)

line_test : ((made line).0 ≡ true) × ((total (made line).1.settings ≡ 5) × ((distance_of m 2 ≡ 2) × (distance_of m 3 ≡ 1)))
unfolding holds hold_by line
line_test = (refl, (refl, (refl, refl)))

none_shorter : (p : LivePath m.settings (runs_of_of m) 2) → 2 ≤ steps p
none_shorter p = subst (λ (d : ℕ). d ≤ steps p) line_test.1.1.0 ((settled line line_test.0 line_test.1.0).shortest 2 p)

just_two : (p : LivePath m.settings (runs_of_of m) 2) × (steps p ≡ 2)
just_two =
    let a = (settled line line_test.0 line_test.1.0).along 2 (λ q. absurd (omega (arith, q, line_test.1.1.0))) in
    (a.0, a.1 ∙ line_test.1.1.0)

-- the same of a floor on which a round changes no distance
steady_three : ((p : LivePath m.settings (runs_of_of m) 3) → 1 ≤ steps p) × ((p : LivePath m.settings (runs_of_of m) 3) × (steps p ≡ 1))
steady_three =
    let T = steady line line_test.0 line_test.1.0 in
    let a = T.along 3 (λ q. absurd (omega (arith, q, line_test.1.1.1))) in
    (λ p. subst (λ (d : ℕ). d ≤ steps p) line_test.1.1.1 (T.shortest 3 p), (a.0, a.1 ∙ line_test.1.1.1))

-- ---- tiles 1 and 3 stopped: tile 2 has no live path, since its distance is none; tile 3 has distance none, since it has no live path
unfoldable cut : Made
cut = halt 3 (halt 1 line)

abbrev n : Model
n = value_after_of (made cut).1 (rounds 4)

cut_test : ((made cut).0 ≡ true) × ((total (made cut).1.settings ≡ 5) × ((distance_of n 2 ≡ 255) × (runs_of_of n 3 ≡ false)))
unfolding holds hold_by line cut
cut_test = (refl, (refl, (refl, refl)))

cut_off : ¬ (LivePath n.settings (runs_of_of n) 2)
cut_off = ((settled cut cut_test.0 cut_test.1.0).none 2).0 cut_test.1.1.0

stands : {t : ℕ} → runs_of_of n t ≡ false → ¬ (LivePath n.settings (runs_of_of n) t)
stands e (here h on r) = true≢false (sym r ∙ e)
stands e (step k side on r p) = true≢false (sym r ∙ e)

none_so : distance_of n 3 ≡ 255
none_so = ((settled cut cut_test.0 cut_test.1.0).none 3).1 (stands cut_test.1.1.1)

-- 7 is no tile: no live path, on a floor on which a round changes no distance
no_tile : ¬ (LivePath n.settings (runs_of_of n) 7)
unfolding holds hold_by line cut
no_tile = ((steady cut cut_test.0 cut_test.1.0).none 7).0 refl
