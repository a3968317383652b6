-- What every round's report promises, on concrete floors: two deliveries at the second hopper, and a floor with one hopper.
use mathlib.Core.Path.{◌≡◌, refl, subst}
use mathlib.Core.Bool.{true}
use mathlib.Core.List.{List, [], ◌∷◌}
use Prim.Native.Nat.{◌≤◌, ◌<◌}
use native.Mathlib.Omega.{arith}
use lib.ListN.{length, get_or, drop}
use Rattle.laws.specs.Every.{All, Pairs}
use Rattle.floor.specs.declared.Delivery.{Delivery}
use Rattle.floor.specs.declared.Report.{Report}
use Rattle.floor.specs.Settings.{hoppers_of}
use Rattle.floor.specs.Model.{Model}
use Rattle.floor.specs.Memory.{view}
use Rattle.floor.specs.Calls.{no_delivery, report_of}
use Rattle.floor.specs.Reports.{Lists}
use Rattle.floor.proofs.Calling.{several, holds}
use Rattle.floor.proofs.CallsByValue.{shows_report}
use Rattle.floor.proofs.TablesByValue.{Made, begun, book as put, rounds as run, floor_of, made, made_shows, hold_by}
use Rattle.floor.proofs.Reports.{reports}
use Rattle.floor.proofs.Instances.{one}

-- what a round on the floor e delivers, by the value
abbrev delivered : Made → List Delivery
delivered e = (report_of (made e).1).deliveries

lists_of : (e : Made) → (made e).0 ≡ true → Lists (length (hoppers_of (made e).1.settings)) (delivered e)
unfolding view
lists_of e h =
    let s = made_shows e h in
    subst (λ (x : Model). Lists (length (hoppers_of x.settings)) (delivered e)) s.value
    (subst (λ (r : Report). Lists (length (hoppers_of (floor_of e).settings)) r.deliveries) (shows_report (floor_of e) (made e).1 s) (reports (floor_of e) s.well))

-- W 4, hoppers 0 and 3: 5 and 6 go from tile 2 into the second one
unfoldable ends : Made
ends = put 6 70 40 2 (put 5 70 0 2 (run 2 (begun (several 4 1 9 20))))

ends_made : (made ends).0 ≡ true
unfolding holds hold_by ends
ends_made = refl

ends_four : length (delivered ends) ≡ 4
ends_four = (lists_of ends ends_made).four

ends_few : (get_or (delivered ends) 1 no_delivery).count ≤ 4
ends_few = ((lists_of ends ends_made).each 1).few

ends_rising : Pairs (λ x y. x < y) (5 ∷ 6 ∷ [])
unfolding holds hold_by ends
ends_rising = ((lists_of ends ends_made).each 1).rising

ends_none_zero : All (λ n. 0 < n) (5 ∷ 6 ∷ [])
unfolding holds hold_by ends
ends_none_zero = ((lists_of ends ends_made).each 1).none_zero

ends_zeros : drop 2 (get_or (delivered ends) 1 no_delivery).numbers ≡ 0 ∷ 0 ∷ []
unfolding holds hold_by ends
ends_zeros = ((lists_of ends ends_made).each 1).zeros

-- nothing at the first; and zeros beyond the second
ends_first : drop 0 (get_or (delivered ends) 0 no_delivery).numbers ≡ 0 ∷ 0 ∷ 0 ∷ 0 ∷ []
unfolding holds hold_by ends
ends_first = ((lists_of ends ends_made).each 0).zeros

ends_beyond : get_or (delivered ends) 2 no_delivery ≡ no_delivery
unfolding holds hold_by ends
ends_beyond = (lists_of ends ends_made).beyond 2 (omega arith)

-- W 2, one hopper: zeros in the second place; no number listed where there is no fifth
one_made : (made one).0 ≡ true
unfolding holds hold_by one
one_made = refl

one_beyond : get_or (delivered one) 1 no_delivery ≡ no_delivery
unfolding holds hold_by one
one_beyond = (lists_of one one_made).beyond 1 (omega arith)

one_fifth : (get_or (delivered one) 4 no_delivery).count ≤ 4
one_fifth = ((lists_of one one_made).each 4).few
