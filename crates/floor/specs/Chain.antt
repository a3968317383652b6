-- Lists of real calls: each answered by its contract, given the floor that the last one gave. That they are the lists of demand 3 is `real_calls` of proofs/Chain.
use Rattle.std.specs.Prelude.{◌≡◌, Bool, true, false, cond, ◌&&◌, List, [], ◌∷◌, ◌++◌, ℕ, eqb}
use Rattle.laws.specs.Define.{bit}
use Rattle.floor.specs.declared.Canister.{Canister}
use Rattle.floor.specs.declared.Booking.{Booking}
use Rattle.floor.specs.declared.Floor.{Floor}
use Rattle.floor.specs.declared.Answer.{Answer}
use Rattle.floor.specs.declared.Placed.{Placed}
use Rattle.floor.specs.declared.Rounded.{Rounded}
use Rattle.floor.specs.Calls.{book_answer, stop_answer, repair_answer, keep_answer, forget_answer, recall_answer, round_answer}
use Rattle.floor.specs.Anywhere.{anywhere_answer}
use Rattle.floor.specs.Bookings.{accepted_in, list_answer, list_after}
use Rattle.floor.specs.Reports.{listed_at}
use Rattle.floor.specs.Demand3.{Call, book, anywhere, stop, repair, round, keep, forget, recall, list, floor_after, booked_in, reported_in, recall_set, recall_makes, latest}

-- the number that a booking's answer accepted
abbrev pub booked_by : Canister → Answer → List ℕ
booked_by c r = cond (eqb r.refusal 0) (c.number ∷ []) []

-- of a booking without a place
abbrev pub placed_by : ℕ → Placed → List ℕ
placed_by number r = cond (eqb r.refusal 0) (number ∷ []) []

-- of a list of bookings, by its own answer and those written in its entries
abbrev pub listed_by : Answer → List Booking → List ℕ
listed_by r after = cond (eqb r.refusal 0) (accepted_in after) []

-- the numbers that a round's answer reported delivered to hopper k
abbrev pub reported_by : Rounded → ℕ → List ℕ
reported_by r = listed_at r.report

-- what r reported, then ns
abbrev pub joined : Rounded → (ℕ → List ℕ) → ℕ → List ℕ
joined r ns k = reported_by r k ++ ns k

-- calls made one after another from f, each answer r by its contract; g is the last floor, bs what was booked and ns k what was reported delivered to hopper k
pub data Made : Floor → List Call → Floor → List ℕ → (ℕ → List ℕ) → Type 0 where
  none : {f : Floor} → Made f [] f [] (λ _. [])
  books : {f g : Floor} {cs : List Call} {bs : List ℕ} {ns : ℕ → List ℕ} (t : ℕ) (c : Canister) (r : Answer) → r ≡ book_answer f t c → Made r.floor cs g bs ns → Made f (book t c ∷ cs) g (booked_by c r ++ bs) ns
  places : {f g : Floor} {cs : List Call} {bs : List ℕ} {ns : ℕ → List ℕ} (t number : ℕ) (r : Placed) → r ≡ anywhere_answer f t number → Made r.floor cs g bs ns → Made f (anywhere t number ∷ cs) g (placed_by number r ++ bs) ns
  stops : {f g : Floor} {cs : List Call} {bs : List ℕ} {ns : ℕ → List ℕ} (t : ℕ) (r : Answer) → r ≡ stop_answer f t → Made r.floor cs g bs ns → Made f (stop t ∷ cs) g bs ns
  repairs : {f g : Floor} {cs : List Call} {bs : List ℕ} {ns : ℕ → List ℕ} (t : ℕ) (r : Answer) → r ≡ repair_answer f t → Made r.floor cs g bs ns → Made f (repair t ∷ cs) g bs ns
  rounds : {f g : Floor} {cs : List Call} {bs : List ℕ} {ns : ℕ → List ℕ} (r : Rounded) → r ≡ round_answer f → Made r.floor cs g bs ns → Made f (round ∷ cs) g bs (joined r ns)
  keeps : {f g : Floor} {cs : List Call} {bs : List ℕ} {ns : ℕ → List ℕ} (name : ℕ) (r : Answer) → r ≡ keep_answer f name → Made r.floor cs g bs ns → Made f (keep name ∷ cs) g bs ns
  forgets : {f g : Floor} {cs : List Call} {bs : List ℕ} {ns : ℕ → List ℕ} (name : ℕ) (r : Answer) → r ≡ forget_answer f name → Made r.floor cs g bs ns → Made f (forget name ∷ cs) g bs ns
  recalls : {f g : Floor} {cs : List Call} {bs : List ℕ} {ns : ℕ → List ℕ} (name : ℕ) (r : Answer) → r ≡ recall_answer f name → Made r.floor cs g bs ns → Made f (recall name ∷ cs) g bs ns
  lists : {f g : Floor} {cs : List Call} {bs : List ℕ} {ns : ℕ → List ℕ} (l : List Booking) (r : Answer) (after : List Booking) → r ≡ list_answer f l → after ≡ list_after f l
      → Made r.floor cs g bs ns → Made f (list l ∷ cs) g (listed_by r after ++ bs) ns

-- whether tile t runs, by the answers to its stops and repairs and, for a recall, by its answer and the layout that the floor held; b says whether it ran before
unfoldable pub runs_made : {f g : Floor} {cs : List Call} {bs : List ℕ} {ns : ℕ → List ℕ} → Made f cs g bs ns → ℕ → Bool → Bool
runs_made none t b = b
runs_made (books u c r e p) t b = runs_made p t b
runs_made (places u number r e p) t b = runs_made p t b
runs_made (stops u r e p) t b = runs_made p t (cond (eqb r.refusal 0 && eqb u t) false b)
runs_made (repairs u r e p) t b = runs_made p t (cond (eqb r.refusal 0 && eqb u t) true b)
runs_made (rounds r e p) t b = runs_made p t b
runs_made (keeps name r e p) t b = runs_made p t b
runs_made (forgets name r e p) t b = runs_made p t b
runs_made (recalls {f = f} name r e p) t b = runs_made p t (cond (eqb r.refusal 0 && recall_makes f name t) (bit (recall_set f name) t) b)
runs_made (lists l r after e a p) t b = runs_made p t b

-- they lead to the floor of `floor_after`; what the bookings accepted is `booked_in`, what the rounds reported is `reported_in`, and the tiles run as `latest` says
pub record Chained {f g : Floor} {cs : List Call} {bs : List ℕ} {ns : ℕ → List ℕ} (m : Made f cs g bs ns) : Type 0 where
  pub floor : g ≡ floor_after f cs
  pub booked : bs ≡ booked_in f cs
  pub reported : ns ≡ reported_in f cs
  pub runs : (t : ℕ) (b : Bool) → runs_made m t b ≡ latest f cs t b

pub record RealCalls : Type 0 where
  pub chained : {f g : Floor} {cs : List Call} {bs : List ℕ} {ns : ℕ → List ℕ} (m : Made f cs g bs ns) → Chained m
  -- every list of calls can be made: no sort of call is left out
  pub every : (f : Floor) (cs : List Call) → Made f cs (floor_after f cs) (booked_in f cs) (reported_in f cs)
