-- [11] on a tile that is no hopper: a side that wants from the second call on, the turn and the grant, a stop with calls after it.
use mathlib.Core.Path.{◌≡◌, refl, ap, ◌∙◌, subst}
use mathlib.Core.Bool.{true, false, cond, ◌&&◌}
use mathlib.Core.List.{List, [], ◌∷◌, Memᴰ}
use Prim.Native.Nat.{ℕ}
use native.Mathlib.Omega.{arith}
use lib.Dec.{eqb}
use Rattle.laws.specs.Define.{all_of}
use Rattle.laws.specs.Every.{All}
use Rattle.floor.specs.declared.Floor.{Floor}
use Rattle.floor.specs.Model.{Model, runs_of_of, members_of}
use Rattle.floor.specs.Memory.{view}
use Rattle.floor.specs.Signal.{missing}
use Rattle.floor.specs.Demand3.{Call, book, stop, repair, InRange, floor_after}
use Rattle.floor.specs.BoundedBypass.{wants, granted, Fair, turn_of}
use Rattle.floor.proofs.Calling.{can, holds}
use Rattle.floor.proofs.CallsByValue.{Shows, refusal_by, shows_refusal}
use Rattle.floor.proofs.ListsByValue.{is_in_range, all_in_range, grants_by_lem, waiting_by, grants_same, waiting}
use Rattle.floor.proofs.TablesByValue.{Made, fresh, book as put, stop as halt, rounds as run, floor_of, made, made_shows, hold_by}
use Rattle.floor.proofs.BoundedBypass.{bounded_bypass}
use Rattle.floor.proofs.Instances.{rounds}

-- 3 × 2, hopper 3, tiles 1 and 5 stopped: tile 2 is the way to the hopper from the west, where 5 is, and from the east
unfoldable fork : Made
fork = put 5 0 0 0 (halt 5 (halt 1 (run 3 (fresh 3 2 3))))

abbrev f : Floor
f = floor_of fork

abbrev m : Model
m = (made fork).1

-- east of tile 2 does not want before the booking; in the rounds after it, it does, and has its turn after each of the west's
abbrev calls : List Call
calls = book 4 (can 6 70 0) ∷ rounds 4

fork_test : ((made fork).0 ≡ true) × ((wants m 2 4 ≡ false) × ((waiting_by m calls 2 4 ≡ true) × (grants_by_lem m calls 2 ≡ 1 ∷ 4 ∷ 1 ∷ 4 ∷ [])))
unfolding holds hold_by fork wants waiting_by
fork_test = (refl, (refl, (refl, refl)))

in_range : All InRange calls
unfolding is_in_range all_of can
in_range = all_in_range calls refl

shown : Shows f m
shown = made_shows fork fork_test.0

idle_first : wants (view f) 2 4 ≡ false
idle_first = ap (λ (x : Model). wants x 2 4) shown.value ∙ fork_test.1.0

east_fair : Fair 4 (1 ∷ 4 ∷ 1 ∷ 4 ∷ [])
east_fair =
    subst (Fair 4) (grants_same f m shown calls in_range 2 ∙ fork_test.1.1.1)
    ((bounded_bypass f shown.well).fair calls in_range 2 4 (waiting f m shown calls in_range 2 4 fork_test.1.1.0))

-- so between the two grants of the west there is one of the east; and lists in which there is none are not fair
east_between : Memᴰ {A = ℕ} 4 (4 ∷ [])
east_between = east_fair 1 [] (4 ∷ []) (4 ∷ []) (omega arith) (omega arith) refl

unfair : ¬ (Fair 4 (1 ∷ 2 ∷ 3 ∷ 1 ∷ []))
unfair h = none (h 1 [] (2 ∷ 3 ∷ []) [] (omega arith) (omega arith) refl)
  where
    none : Memᴰ {A = ℕ} 4 (2 ∷ 3 ∷ []) → ⊥
    none (Memᴰ.head e) = absurd (omega arith)
    none (Memᴰ.tail (Memᴰ.tail x8)) = elim x8 [ ]
    none (Memᴰ.tail (Memᴰ.head e)) = absurd (omega arith)

-- ---- the turn and the grant of tile 2, with 6 on tile 4 too: east wants, and the turn, west's, wants; it is granted. With 7 on tile 2, 5 millimetres short of the gap for it, none is
unfoldable both : Made
both = put 6 0 0 4 fork

unfoldable blocked : Made
blocked = put 7 35 0 2 both

unfoldable grant_by : Model → ℕ
grant_by x = cond (wants x 2 (turn_of x 2) && eqb (missing x.settings (turn_of x 2) (members_of x 2)) 0) (turn_of x 2) 0

grants_by : (e : Made) → (made e).0 ≡ true → runs_of_of (made e).1 2 ≡ true → granted (floor_of e) 2 ≡ grant_by (made e).1
unfolding view grant_by
grants_by e h = let s = made_shows e h in subst (λ (x : Model). runs_of_of x 2 ≡ true → granted (floor_of e) 2 ≡ grant_by x) s.value ((bounded_bypass (floor_of e) s.well).grants 2)

both_test : ((made both).0 ≡ true) × ((runs_of_of (made both).1 2 ≡ true) × ((grant_by (made both).1 ≡ 1) × ((wants (made both).1 2 4 ≡ true) × (turn_of (made both).1 2 ≡ 1))))
unfolding holds hold_by fork both wants turn_of grant_by
both_test = (refl, (refl, (refl, (refl, refl))))

blocked_test : ((made blocked).0 ≡ true) × ((runs_of_of (made blocked).1 2 ≡ true) × (grant_by (made blocked).1 ≡ 0))
unfolding holds hold_by fork both blocked wants turn_of grant_by
blocked_test = (refl, (refl, refl))

west_granted : granted (floor_of both) 2 ≡ 1
west_granted = grants_by both both_test.0 both_test.1.0 ∙ both_test.1.1.0

none_granted : granted (floor_of blocked) 2 ≡ 0
none_granted = grants_by blocked blocked_test.0 blocked_test.1.0 ∙ blocked_test.1.1

west_wants : wants (view (floor_of both)) 2 1 ≡ true
west_wants =
    let s = made_shows both both_test.0 in
    subst (λ (k : ℕ). wants (view (floor_of both)) 2 k ≡ true) (ap (λ (x : Model). turn_of x 2) s.value ∙ both_test.1.1.1.1)
    ((bounded_bypass (floor_of both) s.well).turn_wants 2 4 (ap (λ (x : Model). wants x 2 4) s.value ∙ both_test.1.1.1.0))

-- tile 2 stopped: whatever comes before the next round, a booking, the repair, a refused stop (8), no side wants
abbrev meanwhile : List Call
meanwhile = book 4 (can 6 70 0) ∷ repair 2 ∷ stop 3 ∷ []

in_range_meanwhile : All InRange meanwhile
unfolding is_in_range all_of can
in_range_meanwhile = all_in_range meanwhile refl

stop_test : refusal_by m (stop 2) ≡ 0
unfolding holds hold_by fork
stop_test = refl

none_wants : (k : ℕ) → wants (view (floor_after f (stop 2 ∷ book 4 (can 6 70 0) ∷ repair 2 ∷ stop 3 ∷ []))) 2 k ≡ false
none_wants = (bounded_bypass f shown.well).stop_ends 2 (shows_refusal f m shown (stop 2) ∙ stop_test) meanwhile in_range_meanwhile refl
