-- The chain from real calls on concrete lists: a booking, a stop and a round, answered by their contracts; and lists with every sort of call, on a malformed floor too.
use mathlib.Core.Path.{◌≡◌, refl, ap, ◌∙◌}
use mathlib.Core.Bool.{true, false}
use mathlib.Core.List.{List, [], ◌∷◌, ◌++◌}
use Prim.Native.Nat.{ℕ}
use Rattle.laws.specs.Define.{all_of}
use Rattle.laws.specs.Every.{All}
use Rattle.floor.specs.declared.Canister.{Canister}
use Rattle.floor.specs.declared.Floor.{Floor}
use Rattle.floor.specs.declared.Answer.{Answer}
use Rattle.floor.specs.declared.Rounded.{Rounded}
use Rattle.floor.specs.Model.{Model, runs_of_of}
use Rattle.floor.specs.Memory.{zero_floor, view}
use Rattle.floor.specs.Calls.{book_answer, stop_answer, round_answer}
use Rattle.floor.specs.Demand3.{Call, book, anywhere, stop, repair, round, keep, forget, recall, list, InRange, floor_after, booked_in, reported_in, runs_after_of}
use Rattle.floor.specs.Chain.{Made as Answered, none, books, stops, rounds, booked_by, reported_by, joined, runs_made, Chained}
use Rattle.floor.proofs.Calling.{can, named, holds}
use Rattle.floor.proofs.ListSamples.{entry}
use Rattle.floor.proofs.CallsByValue.{Shows}
use Rattle.floor.proofs.ListsByValue.{is_in_range, all_in_range, value_after_of, booked_by as booked_of, reported_by as reported_of, booked_same, reported_same, runs_same}
use Rattle.floor.proofs.TablesByValue.{Made, begun, book as put, floor_of, made, made_shows, hold_by}
use Rattle.floor.proofs.Chain.{real_calls}
use Rattle.floor.proofs.CommutingInstances.{narrow}

-- 5 on tile 1, about to cross into the hopper
unfoldable near : Made
near = put 5 6 0 1 (begun narrow)

abbrev f : Floor
f = floor_of near

abbrev m : Model
m = (made near).1

abbrev c : Canister
c = can 6 0 0

abbrev calls : List Call
calls = book 0 c ∷ stop 0 ∷ round ∷ []

-- the answers, each on the floor that the last one gave
abbrev first : Answer
first = book_answer f 0 c

abbrev second : Answer
second = stop_answer first.floor 0

abbrev third : Rounded
third = round_answer second.floor

answered : Answered f calls third.floor (booked_by c first ++ []) (joined third (λ _. []))
answered = books 0 c first refl (stops 0 second refl (rounds third refl none))

chained : Chained answered
chained = real_calls.chained answered

near_test : ((made near).0 ≡ true) × ((booked_of m calls ≡ 6 ∷ []) × ((reported_of m calls 0 ≡ 5 ∷ []) × (runs_of_of (value_after_of m calls) 0 ≡ false)))
unfolding holds hold_by narrow near can
near_test = (refl, (refl, (refl, refl)))

shown : Shows f m
shown = made_shows near near_test.0

in_range : All InRange calls
unfolding is_in_range all_of can
in_range = all_in_range calls refl

-- the last answer's floor is the list's; 6 is booked, 5 is reported to hopper 0; tile 0 stands
same_floor : (round_answer (stop_answer (book_answer f 0 c).floor 0).floor).floor ≡ floor_after f (book 0 c ∷ stop 0 ∷ round ∷ [])
same_floor = chained.floor

six_booked : booked_by c first ++ [] ≡ 6 ∷ []
six_booked = chained.booked ∙ booked_same f m shown calls in_range ∙ near_test.1.0

five_reported : reported_by third 0 ++ [] ≡ 5 ∷ []
five_reported = ap (λ (ns : ℕ → List ℕ). ns 0) chained.reported ∙ reported_same f m shown calls in_range 0 ∙ near_test.1.1.0

zero_stands : runs_made answered 0 (runs_of_of (view f) 0) ≡ false
unfolding runs_after_of
zero_stands = chained.runs 0 (runs_of_of (view f) 0) ∙ runs_same f m shown calls in_range 0 ∙ near_test.1.1.1

abbrev A : ℕ
A = named (65 ∷ [])

-- every sort of call, refused ones too, can be made: on this floor, and on the all-zero one
abbrev sorts : List Call
sorts = book 0 c ∷ anywhere 1 7 ∷ list (entry 0 8 0 0 ∷ []) ∷ stop 0 ∷ repair 0 ∷ round ∷ keep A ∷ recall A ∷ forget A ∷ stop 2 ∷ []

can_be_made : Answered f sorts (floor_after f sorts) (booked_in f sorts) (reported_in f sorts)
can_be_made = real_calls.every f sorts

zero_made : Answered zero_floor sorts (floor_after zero_floor sorts) (booked_in zero_floor sorts) (reported_in zero_floor sorts)
zero_made = real_calls.every zero_floor sorts
