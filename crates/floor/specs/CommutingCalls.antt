-- Calls that commute ([14]): which calls may change places, and what stop, repair, stop comes to. The theorem is `commuting_calls` of proofs/CommutingCalls.
use Rattle.std.specs.Prelude.{◌≡◌, ◌≢◌, true, false, List, [], ◌∷◌, ◌++◌, ℕ}
use Rattle.laws.specs.Every.{All}
use Rattle.floor.specs.declared.Canister.{Canister}
use Rattle.floor.specs.declared.Booking.{Booking}
use Rattle.floor.specs.declared.Floor.{Floor}
use Rattle.floor.specs.declared.Report.{Report}
use Rattle.floor.specs.Settings.{is_hopper}
use Rattle.floor.specs.Model.{runs_of_of}
use Rattle.floor.specs.Memory.{view}
use Rattle.floor.specs.Well.{well_formed}
use Rattle.floor.specs.Calls.{zero_report, round_answer}
use Rattle.floor.specs.Anywhere.{anywhere_answer}
use Rattle.floor.specs.Bookings.{list_after}
use Rattle.floor.specs.Demand3.{Call, book, anywhere, stop, repair, round, keep, forget, recall, list, InRange, outcome, floor_after}

-- a stop or a repair of tile t
pub data RunningChange (t : ℕ) : Call → Type 0 where
  stops : RunningChange t (stop t)
  repairs : RunningChange t (repair t)

-- a booking on tile t, with a place or without one ([1])
pub data Books (t : ℕ) : Call → Type 0 where
  placed : (b : Canister) → Books t (book t b)
  unplaced : (number : ℕ) → Books t (anywhere t number)

-- two calls that may change places; each pair stands here one way round, since what is said of it reads the same both ways
pub data Exchangeable : Call → Call → Type 0 where
  -- "Stops and repairs of different tiles"
  running_changes : {t u : ℕ} {c e : Call} → t ≢ u → RunningChange t c → RunningChange u e → Exchangeable c e
  -- "A booking and a stop or repair of another tile"; the number has its width, 32 bits
  booking : {t u : ℕ} {c e : Call} → t ≢ u → Books t c → InRange c → RunningChange u e → Exchangeable c e
  -- so a list of bookings, none of them on that tile
  listing : {u : ℕ} {l : List Booking} {e : Call} → All (λ b. b.tile ≢ u) l → InRange (list l) → RunningChange u e → Exchangeable (list l) e

-- the place that a booking without one tells; zeros for the other calls, which tell none
unfoldable pub place_to : Floor → Call → ℕ × ℕ
place_to f (book t b) = (0, 0)
place_to f (anywhere t number) = let r = anywhere_answer f t number in (r.a, r.b)
place_to f (stop t) = (0, 0)
place_to f (repair t) = (0, 0)
place_to f round = (0, 0)
place_to f (keep name) = (0, 0)
place_to f (forget name) = (0, 0)
place_to f (recall name) = (0, 0)
place_to f (list l) = (0, 0)

-- a round's report; zeros for the other calls, which have none
unfoldable pub report_to : Floor → Call → Report
report_to f (book t b) = zero_report
report_to f (anywhere t number) = zero_report
report_to f (stop t) = zero_report
report_to f (repair t) = zero_report
report_to f round = (round_answer f).report
report_to f (keep name) = zero_report
report_to f (forget name) = zero_report
report_to f (recall name) = zero_report
report_to f (list l) = zero_report

-- the entries of a list of bookings as they come back; none for the other calls, which have none
unfoldable pub list_to : Floor → Call → List Booking
list_to f (book t b) = []
list_to f (anywhere t number) = []
list_to f (stop t) = []
list_to f (repair t) = []
list_to f round = []
list_to f (keep name) = []
list_to f (forget name) = []
list_to f (recall name) = []
list_to f (list l) = list_after f l

-- all that a call answers beside its floor: its refusal number, the place found, its report and its entries
abbrev pub Reply : Type 0
Reply = ℕ × (ℕ × ℕ) × Report × List Booking

abbrev pub reply : Floor → Call → Reply
reply f c = ((outcome f c).refusal, place_to f c, report_to f c, list_to f c)

-- c and e from f: "the same floor and the same two answers in either order"
pub record EitherOrder (f : Floor) (c e : Call) : Type 0 where
  pub same_floor : floor_after f (c ∷ e ∷ []) ≡ floor_after f (e ∷ c ∷ [])
  pub first_answer : reply (outcome f e).floor c ≡ reply f c
  pub second_answer : reply (outcome f c).floor e ≡ reply f e

-- the refusal numbers of a list, in its order
unfoldable pub answers_in : Floor → List Call → List ℕ
answers_in f [] = []
answers_in f (c ∷ cs) = (outcome f c).refusal ∷ answers_in (outcome f c).floor cs

-- the answers of a list, in its order
unfoldable pub replies_in : Floor → List Call → List Reply
replies_in f [] = []
replies_in f (c ∷ cs) = reply f c ∷ replies_in (outcome f c).floor cs

-- c and e as neighbours in a list from f: exchanged, they take their answers along, and no other answer changes
pub record Exchanged (f : Floor) (before : List Call) (c e : Call) (after : List Call) : Type 0 where
  pub here : Floor
  pub is_here : here ≡ floor_after f before
  pub same_floor : floor_after f (before ++ (c ∷ e ∷ after)) ≡ floor_after f (before ++ (e ∷ c ∷ after))
  pub answers : replies_in f (before ++ (c ∷ e ∷ after)) ≡ replies_in f before ++ (reply here c ∷ reply here e ∷ replies_in (floor_after here (c ∷ e ∷ [])) after)
  pub exchanged : replies_in f (before ++ (e ∷ c ∷ after)) ≡ replies_in f before ++ (reply here e ∷ reply here c ∷ replies_in (floor_after here (c ∷ e ∷ [])) after)

-- c and then e are both accepted
abbrev pub BothBooked : Floor → Call → Call → Type 0
BothBooked f c e = ((outcome f c).refusal ≡ 0) × ((outcome (outcome f c).floor e).refusal ≡ 0)

-- f is any floor, well formed or not; t and u are any numbers, of tiles or not
pub record CallsCommute (f : Floor) : Type 0 where
  -- "the same floor and the same two answers in either order, refused ones included"; and so anywhere in a list
  pub either : (c e : Call) → Exchangeable c e → EitherOrder f c e
  pub in_lists : (before : List Call) (c e : Call) (after : List Call) → Exchangeable c e → Exchanged f before c e after
  -- "On one running tile other than a hopper, stop, repair, stop gives the floor of a single stop": the floor is the same on any tile; on such a one all three are accepted
  pub again : (t : ℕ) → floor_after f (stop t ∷ repair t ∷ stop t ∷ []) ≡ floor_after f (stop t ∷ [])
  pub again_accepted : (t : ℕ) → well_formed f ≡ true → runs_of_of (view f) t ≡ true → is_hopper f.settings t ≡ false
      → ((outcome f (stop t)).refusal ≡ 0) × ((outcome (floor_after f (stop t ∷ [])) (repair t)).refusal ≡ 0) × ((outcome (floor_after f (stop t ∷ repair t ∷ [])) (stop t)).refusal ≡ 0)
  -- "Two bookings of given numbers on one floor, both accepted in one order, never are in the other"; of either sort
  pub rising : (t u : ℕ) (c e : Call) → Books t c → Books u e → BothBooked f c e → ¬ (BothBooked f e c)
  -- "because numbers must rise": in the other order the first is accepted, and the second refused by 33
  pub rising_answers : (t u : ℕ) (c e : Call) → Books t c → Books u e → InRange e → BothBooked f c e → ((outcome f e).refusal ≡ 0) × ((outcome (outcome f e).floor c).refusal ≡ 33)

-- the theorem: for every floor
abbrev pub CommutingCalls : Type 0
CommutingCalls = (f : Floor) → CallsCommute f
