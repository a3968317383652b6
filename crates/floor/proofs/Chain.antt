-- A list of real calls is a list of the theorem: each call that meets its contract, given the floor that the last one gave, leads to the floor of `floor_after`; what the bookings accepted is `booked_in`, what the rounds reported is `reported_in`, and the tiles run as `latest` says.
use mathlib.Core.Path.{◌≡◌, refl, ap, ◌∙◌}
use mathlib.Core.Bool.{Bool, true, false, cond, ◌&&◌}
use mathlib.Core.List.{List, [], ◌∷◌, ◌++◌}
use Prim.Native.Nat.{ℕ}
use lib.Dec.{eqb}
use Rattle.laws.specs.Define.{bit}
use Rattle.floor.specs.declared.Floor.{Floor}
use Rattle.floor.specs.declared.Answer.{Answer}
use Rattle.floor.specs.declared.Placed.{Placed}
use Rattle.floor.specs.declared.Rounded.{Rounded}
use Rattle.floor.specs.Calls.{book_answer, stop_answer, repair_answer, keep_answer, forget_answer, recall_answer, round_answer}
use Rattle.floor.specs.Anywhere.{anywhere_answer}
use Rattle.floor.specs.Bookings.{list_answer, list_after}
use Rattle.floor.specs.Demand3.{Call, book, anywhere, stop, repair, round, keep, forget, recall, list, outcome, floor_after, booked_in, reported_in, recall_set, recall_makes, runs_by, latest}
use Rattle.floor.specs.Chain.{booked_by, placed_by, listed_by, joined, Made, none, books, places, stops, repairs, rounds, keeps, forgets, recalls, lists, runs_made, RealCalls}

pub made_floor : {f g : Floor} {cs : List Call} {bs : List ℕ} {ns : ℕ → List ℕ} → Made f cs g bs ns → g ≡ floor_after f cs
unfolding floor_after outcome
made_floor none = refl
made_floor (books {cs = cs} t c r e p) = made_floor p ∙ ap (λ (x : Answer). floor_after x.floor cs) e
made_floor (places {cs = cs} t number r e p) = made_floor p ∙ ap (λ (x : Placed). floor_after x.floor cs) e
made_floor (stops {cs = cs} t r e p) = made_floor p ∙ ap (λ (x : Answer). floor_after x.floor cs) e
made_floor (repairs {cs = cs} t r e p) = made_floor p ∙ ap (λ (x : Answer). floor_after x.floor cs) e
made_floor (rounds {cs = cs} r e p) = made_floor p ∙ ap (λ (x : Rounded). floor_after x.floor cs) e
made_floor (keeps {cs = cs} name r e p) = made_floor p ∙ ap (λ (x : Answer). floor_after x.floor cs) e
made_floor (forgets {cs = cs} name r e p) = made_floor p ∙ ap (λ (x : Answer). floor_after x.floor cs) e
made_floor (recalls {cs = cs} name r e p) = made_floor p ∙ ap (λ (x : Answer). floor_after x.floor cs) e
made_floor (lists {cs = cs} l r after e a p) = made_floor p ∙ ap (λ (x : Answer). floor_after x.floor cs) e

pub made_booked : {f g : Floor} {cs : List Call} {bs : List ℕ} {ns : ℕ → List ℕ} → Made f cs g bs ns → bs ≡ booked_in f cs
unfolding booked_in outcome
made_booked none = refl
made_booked (books {cs = cs} t c r e p) = ap (λ l. booked_by c r ++ l) (made_booked p) ∙ ap (λ (x : Answer). booked_by c x ++ booked_in x.floor cs) e
made_booked (places {cs = cs} t number r e p) = ap (λ l. placed_by number r ++ l) (made_booked p) ∙ ap (λ (x : Placed). placed_by number x ++ booked_in x.floor cs) e
made_booked (stops {cs = cs} t r e p) = made_booked p ∙ ap (λ (x : Answer). booked_in x.floor cs) e
made_booked (repairs {cs = cs} t r e p) = made_booked p ∙ ap (λ (x : Answer). booked_in x.floor cs) e
made_booked (rounds {cs = cs} r e p) = made_booked p ∙ ap (λ (x : Rounded). booked_in x.floor cs) e
made_booked (keeps {cs = cs} name r e p) = made_booked p ∙ ap (λ (x : Answer). booked_in x.floor cs) e
made_booked (forgets {cs = cs} name r e p) = made_booked p ∙ ap (λ (x : Answer). booked_in x.floor cs) e
made_booked (recalls {cs = cs} name r e p) = made_booked p ∙ ap (λ (x : Answer). booked_in x.floor cs) e
made_booked (lists {cs = cs} l r after e a p) = ap (λ k. listed_by r after ++ k) (made_booked p) ∙ (λ i. listed_by (e i) (a i) ++ booked_in (e i).floor cs)

pub made_reported : {f g : Floor} {cs : List Call} {bs : List ℕ} {ns : ℕ → List ℕ} → Made f cs g bs ns → ns ≡ reported_in f cs
unfolding reported_in outcome
made_reported none = refl
made_reported (books {cs = cs} t c r e p) = made_reported p ∙ ap (λ (x : Answer). reported_in x.floor cs) e
made_reported (places {cs = cs} t number r e p) = made_reported p ∙ ap (λ (x : Placed). reported_in x.floor cs) e
made_reported (stops {cs = cs} t r e p) = made_reported p ∙ ap (λ (x : Answer). reported_in x.floor cs) e
made_reported (repairs {cs = cs} t r e p) = made_reported p ∙ ap (λ (x : Answer). reported_in x.floor cs) e
made_reported (rounds {cs = cs} r e p) = ap (joined r) (made_reported p) ∙ ap (λ (x : Rounded). joined x (reported_in x.floor cs)) e
made_reported (keeps {cs = cs} name r e p) = made_reported p ∙ ap (λ (x : Answer). reported_in x.floor cs) e
made_reported (forgets {cs = cs} name r e p) = made_reported p ∙ ap (λ (x : Answer). reported_in x.floor cs) e
made_reported (recalls {cs = cs} name r e p) = made_reported p ∙ ap (λ (x : Answer). reported_in x.floor cs) e
made_reported (lists {cs = cs} l r after e a p) = made_reported p ∙ ap (λ (x : Answer). reported_in x.floor cs) e

pub made_runs : {f g : Floor} {cs : List Call} {bs : List ℕ} {ns : ℕ → List ℕ} (m : Made f cs g bs ns) (t : ℕ) (b : Bool) → runs_made m t b ≡ latest f cs t b
unfolding runs_made latest runs_by outcome
made_runs none t b = refl
made_runs (books {cs = cs} u c r e p) t b = made_runs p t b ∙ ap (λ (x : Answer). latest x.floor cs t b) e
made_runs (places {cs = cs} u number r e p) t b = made_runs p t b ∙ ap (λ (x : Placed). latest x.floor cs t b) e
made_runs (stops {cs = cs} u r e p) t b = made_runs p t (cond (eqb r.refusal 0 && eqb u t) false b) ∙ ap (λ (x : Answer). latest x.floor cs t (cond (eqb x.refusal 0 && eqb u t) false b)) e
made_runs (repairs {cs = cs} u r e p) t b = made_runs p t (cond (eqb r.refusal 0 && eqb u t) true b) ∙ ap (λ (x : Answer). latest x.floor cs t (cond (eqb x.refusal 0 && eqb u t) true b)) e
made_runs (rounds {cs = cs} r e p) t b = made_runs p t b ∙ ap (λ (x : Rounded). latest x.floor cs t b) e
made_runs (keeps {cs = cs} name r e p) t b = made_runs p t b ∙ ap (λ (x : Answer). latest x.floor cs t b) e
made_runs (forgets {cs = cs} name r e p) t b = made_runs p t b ∙ ap (λ (x : Answer). latest x.floor cs t b) e
made_runs (recalls {f = f} {cs = cs} name r e p) t b =
    made_runs p t (cond (eqb r.refusal 0 && recall_makes f name t) (bit (recall_set f name) t) b)
    ∙ ap (λ (x : Answer). latest x.floor cs t (cond (eqb x.refusal 0 && recall_makes f name t) (bit (recall_set f name) t) b)) e
made_runs (lists {cs = cs} l r after e a p) t b = made_runs p t b ∙ ap (λ (x : Answer). latest x.floor cs t b) e

-- every list of calls can be made: no sort of call is left out of `Made`
pub every_list : (f : Floor) (cs : List Call) → Made f cs (floor_after f cs) (booked_in f cs) (reported_in f cs)
unfolding floor_after booked_in reported_in outcome
every_list f [] = none
every_list f (book t c ∷ cs) = let r = book_answer f t c in books t c r refl (every_list r.floor cs)
every_list f (anywhere t number ∷ cs) = let r = anywhere_answer f t number in places t number r refl (every_list r.floor cs)
every_list f (stop t ∷ cs) = let r = stop_answer f t in stops t r refl (every_list r.floor cs)
every_list f (repair t ∷ cs) = let r = repair_answer f t in repairs t r refl (every_list r.floor cs)
every_list f (round ∷ cs) = let r = round_answer f in rounds r refl (every_list r.floor cs)
every_list f (keep name ∷ cs) = let r = keep_answer f name in keeps name r refl (every_list r.floor cs)
every_list f (forget name ∷ cs) = let r = forget_answer f name in forgets name r refl (every_list r.floor cs)
every_list f (recall name ∷ cs) = let r = recall_answer f name in recalls name r refl (every_list r.floor cs)
every_list f (list l ∷ cs) = let r = list_answer f l in lists l r (list_after f l) refl refl (every_list r.floor cs)

pub real_calls : RealCalls
real_calls = record { chained = λ m. record { floor = made_floor m; booked = made_booked m; reported = made_reported m; runs = made_runs m }; every = every_list }
