-- [3] on concrete floors: the arrow chosen against sides farther before it, one that is no longer nearest, and arrows at rest on tiles other than the first.
use mathlib.Core.Path.{◌≡◌, refl, sym, ap, ◌∙◌, subst}
use mathlib.Core.Logic.{◌≢◌}
use mathlib.Core.Bool.{true, false}
use mathlib.Core.List.{List, ◌∷◌, Memᴰ}
use Prim.Native.Nat.{ℕ, ◌≤◌, ◌<◌}
use native.Mathlib.Omega.{arith}
use lib.Dec.{eqb}
use borrow.Author.Tests.{eqb-false}
use Rattle.laws.specs.Define.{all_of}
use Rattle.laws.specs.Every.{All}
use Rattle.floor.specs.declared.Floor.{Floor}
use Rattle.floor.specs.Sides.{sides}
use Rattle.floor.specs.Settings.{is_hopper}
use Rattle.floor.specs.Model.{Model, distance_of, next_of}
use Rattle.floor.specs.Memory.{view}
use Rattle.floor.specs.Demand3.{Call, book, stop, round, InRange, outcome, floor_after}
use Rattle.floor.specs.Arrows.{beyond, FacesNearest, Chooses, RunningUnchanged, Resting}
use Rattle.floor.proofs.Calling.{can, holds}
use Rattle.floor.proofs.CallsByValue.{Shows, value_by, shows_call}
use Rattle.floor.proofs.ListsByValue.{is_in_range, all_in_range, value_after_of, running_unchanged_by, shows_list, running_unchanged}
use Rattle.floor.proofs.TablesByValue.{Made, fresh, stop as halt, rounds as run, floor_of, made, made_shows, hold_by}
use Rattle.floor.proofs.Grid.{at1, at2, at3, at4, side_pos}
use Rattle.floor.proofs.Arrows.{arrows}
use Rattle.floor.proofs.Instances.{rounds, in_range_rounds, square, square_shows, four_tiles, running_unchanged_rounds, settled, rest, settled_shows}

-- the arrow that a round from e gives tile t, by the values before and after it
module _ (e : Made) (h : (made e).0 ≡ true) where
  chosen : (t : ℕ) → is_hopper (made e).1.settings t ≡ false → eqb (distance_of (value_by (made e).1 round) t) 255 ≡ false → Chooses (made e).1 (value_by (made e).1 round) t
  unfolding view
  chosen t off some =
      let f = floor_of e in
      let s = made_shows e h in
      let A = (arrows f s.well).0 in
      let n = subst (λ (g : Floor). view g ≡ value_by (made e).1 round) (sym A.is_after) (shows_call f (made e).1 s round tt).value in
      subst (λ (x : Model). Chooses (made e).1 x t) n
      (subst (λ (x : Model). Chooses x (view A.after) t) s.value
      (A.chooses t (ap (λ (x : Model). is_hopper x.settings t) s.value ∙ off) (subst (λ (x : Model). distance_of x t ≢ 255) (sym n) (eqb-false (distance_of (value_by (made e).1 round) t) 255 some))))

-- ---- 3 × 3, hopper 5: in the first round tile 4, which has a neighbour on every side, faces north; west and south are farther
unfoldable middle : Made
middle = fresh 3 3 5

abbrev m : Model
m = (made middle).1

abbrev n : Model
n = value_by m round

middle_test : ((made middle).0 ≡ true) × ((is_hopper m.settings 4 ≡ false) × ((eqb (distance_of n 4) 255 ≡ false) × ((next_of m 4 ≡ 0) × (next_of n 4 ≡ 3))))
unfolding holds hold_by middle
middle_test = (refl, (refl, (refl, (refl, refl))))

middle_chooses : Chooses m n 4
middle_chooses = chosen middle middle_test.0 4 middle_test.1.0 middle_test.1.1.0

no_arrow : ¬ (FacesNearest m 4 (next_of m 4))
no_arrow N = absurd (omega (arith, middle_test.1.1.1.0, side_pos N.side))

-- the side is one of the four, and no nearer neighbour is on another
north_side : Memᴰ 3 sides
north_side = subst (λ (k : ℕ). Memᴰ k sides) middle_test.1.1.1.1 middle_chooses.nearest.side

north_west : beyond m 4 3 ≤ beyond m 4 1
unfolding sides
north_west = subst (λ (k : ℕ). beyond m 4 k ≤ beyond m 4 1) middle_test.1.1.1.1 (middle_chooses.nearest.least 1 at1)

north_east : beyond m 4 3 ≤ beyond m 4 4
unfolding sides
north_east = subst (λ (k : ℕ). beyond m 4 k ≤ beyond m 4 4) middle_test.1.1.1.1 (middle_chooses.nearest.least 4 at4)

-- two sides before the arrow's, and one
west_farther : beyond m 4 3 < beyond m 4 1
unfolding sides
west_farther = subst (λ (k : ℕ). beyond m 4 k < beyond m 4 1) middle_test.1.1.1.1 (middle_chooses.ties no_arrow 1 at1 (omega (arith, middle_test.1.1.1.1)))

south_farther : beyond m 4 3 < beyond m 4 2
unfolding sides
south_farther = subst (λ (k : ℕ). beyond m 4 k < beyond m 4 2) middle_test.1.1.1.1 (middle_chooses.ties no_arrow 2 at2 (omega (arith, middle_test.1.1.1.1)))

-- ---- 2 × 2, hopper 3: tile 0 faced north, and tile 1, which is there, was stopped. The arrow is no nearest one now; the round turns it east, and the three sides before that are farther
unfoldable turned : Made
turned = halt 1 (run 3 square)

abbrev p : Model
p = (made turned).1

abbrev q : Model
q = value_by p round

turned_test : ((made turned).0 ≡ true) × ((is_hopper p.settings 0 ≡ false) × ((eqb (distance_of q 0) 255 ≡ false) × ((next_of p 0 ≡ 3) × (next_of q 0 ≡ 4))))
unfolding holds hold_by square turned
turned_test = (refl, (refl, (refl, (refl, refl))))

turned_far : (beyond p 0 3 ≡ 255) × (beyond p 0 4 ≡ 1)
unfolding holds hold_by square turned
turned_far = (refl, refl)

turned_chooses : Chooses p q 0
turned_chooses = chosen turned turned_test.0 0 turned_test.1.0 turned_test.1.1.0

not_nearest : ¬ (FacesNearest p 0 (next_of p 0))
unfolding sides
not_nearest N = absurd (omega (arith, subst (λ (k : ℕ). beyond p 0 k ≤ beyond p 0 4) turned_test.1.1.1.0 (N.least 4 at4), turned_far.0, turned_far.1))

each_farther : (beyond p 0 4 < beyond p 0 1) × ((beyond p 0 4 < beyond p 0 2) × (beyond p 0 4 < beyond p 0 3))
unfolding sides
each_farther =
    let past : (j : ℕ) → Memᴰ j sides → j < 4 → beyond p 0 4 < beyond p 0 j =
    λ j side l. subst (λ (k : ℕ). beyond p 0 k < beyond p 0 j) turned_test.1.1.1.1 (turned_chooses.ties not_nearest j side (omega (arith, l, turned_test.1.1.1.1))) in
    (past 1 at1 (omega arith), (past 2 at2 (omega arith), past 3 at3 (omega arith)))

-- ---- at rest: 2 × 2 after four rounds. A booking on tile 1, a refused stop and rounds leave the arrow of tile 1, east, and it faces a nearest neighbour
abbrev busy : List Call
busy = book 1 (can 5 0 0) ∷ stop 3 ∷ rounds 2

in_range_busy : All InRange busy
unfolding is_in_range all_of can
in_range_busy = all_in_range busy refl

busy_test : (running_unchanged_by rest busy ≡ true) × ((next_of (value_after_of rest busy) 1 ≡ 4) × ((next_of rest 1 ≡ 4) × (distance_of rest 2 ≡ 1)))
unfolding holds hold_by square can running_unchanged_by
busy_test = (refl, (refl, (refl, refl)))

busy_running_unchanged : RunningUnchanged settled busy
busy_running_unchanged = running_unchanged settled rest settled_shows busy in_range_busy busy_test.0

busy_shows : Shows (floor_after settled busy) (value_after_of rest busy)
busy_shows = shows_list settled rest settled_shows busy in_range_busy

at_rest : Resting settled
at_rest = (arrows (floor_of square) square_shows.well).1.rests (rounds 4) (in_range_rounds 4) (running_unchanged_rounds 4 (floor_of square)) (omega (arith, four_tiles))

one_stays : next_of (view (floor_after settled busy)) 1 ≡ 4
one_stays = at_rest.stays busy in_range_busy busy_running_unchanged 1 ∙ ap (λ (x : Model). next_of x 1) settled_shows.value ∙ busy_test.1.1.0

one_faces : FacesNearest (view (floor_after settled busy)) 1 4
one_faces =
    let e : next_of (view (floor_after settled busy)) 1 ≡ 4 = ap (λ (x : Model). next_of x 1) busy_shows.value ∙ busy_test.1.0 in
    subst (λ (k : ℕ). FacesNearest (view (floor_after settled busy)) 1 k) e (at_rest.faces busy in_range_busy busy_running_unchanged 1 (λ z. absurd (omega (arith, e, z))))

one_nearest : beyond (view (floor_after settled busy)) 1 4 ≤ beyond (view (floor_after settled busy)) 1 2
unfolding sides
one_nearest = one_faces.least 2 at2

-- a round more leaves the distance of tile 2, after the three rounds of C - 1 with a booking before them
abbrev booked : List Call
booked = book 0 (can 5 0 0) ∷ rounds 3

in_range_booked : All InRange booked
unfolding is_in_range all_of can
in_range_booked = all_in_range booked refl

booked_test : (running_unchanged_by (made square).1 booked ≡ true) × (distance_of (value_after_of (made square).1 booked) 2 ≡ 1)
unfolding holds hold_by square can running_unchanged_by
booked_test = (refl, refl)

booked_steady : distance_of (view (outcome (floor_after (floor_of square) booked) round).floor) 2 ≡ 1
booked_steady =
    (arrows (floor_of square) square_shows.well).1.steady booked in_range_booked (running_unchanged (floor_of square) (made square).1 square_shows booked in_range_booked booked_test.0) (omega (arith, four_tiles)) 2
    ∙ ap (λ (x : Model). distance_of x 2) (shows_list (floor_of square) (made square).1 square_shows booked in_range_booked).value ∙ booked_test.1
