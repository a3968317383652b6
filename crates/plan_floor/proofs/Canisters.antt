-- The canister of a booked label is on the floor until a round reports it: `canisters`. The statement is specs/Promises.
use mathlib.Core.Path.{◌≡◌, refl, sym, ◌∙◌, subst}
use mathlib.Core.Logic.{◌≢◌}
use mathlib.Core.List.Memᴰ
use mathlib.Core.List.{List, [], ◌∷◌, ◌++◌, Memᴰ}
use mathlib.Core.Bool.{not}
use Prim.Native.Nat.{ℕ}
use lib.Dec.{eqb}
use Rattle.laws.specs.Every.{All}
use Rattle.laws.proofs.Tests.{r_ne, r_pairs}
use Rattle.laws.proofs.Lists.{all_of_lem, all_append, all_left, all_right, pairs_between, mem_perm}
use Rattle.floor.specs.Model.{numbers_on}
use Rattle.floor.specs.Memory.{view}
use Rattle.floor.specs.Demand3.{booked_in, reported_all}
use Rattle.plan_floor.specs.Steps.{bookings_in, Step, State, stepped, state_after, plan_calls_in, step_bookings, calls_in, booked_of, booked_by}
use Rattle.plan_floor.specs.Promises.{OnFloorUntilReported, CanisterPromise}
use Rattle.plan_floor.proofs.AsPlan.{bookings_at, bookings_next}
use Rattle.plan_floor.proofs.AsCalls.{as_calls}
use Rattle.plan_floor.proofs.Once.{step_numbers}

-- what holds of every number booked holds of those of the labels
list_numbers : (P : ℕ → Type 0) (s : State) (cs : List Step) → All P (booked_by s cs) → All (λ x. P x.1) (step_bookings s cs)
unfolding booked_by bookings_in plan_calls_in
list_numbers P s [] h = tt
list_numbers P s (c ∷ cs) h =
    subst (All (λ x. P x.1)) (sym (bookings_next s c cs)) (all_append (λ x. P x.1) (bookings_at s c) (step_bookings (stepped s c) cs) (step_numbers P s c (all_left P (booked_of s c) (booked_by (stepped s c) cs) h))
    (list_numbers P (stepped s c) cs (all_right P (booked_of s c) (booked_by (stepped s c) cs) h)))

pub canisters : CanisterPromise
canisters s w cs t =
    let C = as_calls s cs in
    let D = C.promises w t in
    let there = numbers_on (view (state_after s cs).floor) in
    let reported-numbers = reported_all s.floor (calls_in s cs) in
    let now : numbers_on (view D.now) ≡ there = (λ i. numbers_on (view ((D.is_now ∙ C.same_floor) i))) in
    let apart = (r_pairs (λ x y. not (eqb x y)) (λ x y. x ≢ y) r_ne (numbers_on (view D.now) ++ reported-numbers)).0 D.once_now in
    list_numbers (OnFloorUntilReported s cs) s cs (subst (All (OnFloorUntilReported s cs)) C.same_booked (all_of_lem (OnFloorUntilReported s cs) (booked_in s.floor (calls_in s cs)) (λ n m. record {
      either = Memᴰ.append_cases there (subst (λ (l : List ℕ). Memᴰ n (l ++ reported-numbers)) now (mem_perm D.kept n (Memᴰ.append_right (numbers_on (view s.floor)) m)));
      not_both = λ a b. pairs_between (λ x y. x ≢ y) (numbers_on (view D.now)) reported-numbers apart (subst (λ (l : List ℕ). Memᴰ n l) (sym now) a) b refl;
    })))
