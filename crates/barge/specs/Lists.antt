-- Lists of calls on a barge, and the joint total over them. The theorems are `as_standalone` and `refused` of proofs/Standalone, `others` of proofs/Answers and `totals` of proofs/Totals.
use Rattle.std.specs.Prelude.{◌≡◌, ◌↔◌, ◌≢◌, Bool, true, false, cond, List, [], ◌∷◌, ◌++◌, ℕ, ◌+◌, ◌≤◌, ◌<◌, eqb, length}
use Rattle.laws.specs.Define.{cat}
use Rattle.laws.specs.Every.{All}
use Rattle.floor.specs.declared.Canister.{Canister}
use Rattle.floor.specs.declared.Floor.{Floor}
use Rattle.floor.specs.declared.Report.{Report}
use Rattle.floor.specs.Calls.{zero_report, round_answer}
use Rattle.floor.specs.Anywhere.{anywhere_answer}
use Rattle.floor.specs.Reports.{listed_at}
use Rattle.floor.specs.Demand3.{Call}
use Rattle.floor.specs.Demand3 as OneFloor
use Rattle.barge.specs.declared.Barge.{Barge}
use Rattle.barge.specs.Barges.{floor_at, with_floor, aboard, barge_sound, barge_book, barge_book_anywhere, barge_stop, barge_repair, barge_round}

-- "Bookings of either sort, stops, repairs and rounds each name one floor": its number comes first
pub data BargeCall : Type 0 where
  book : ℕ → ℕ → Canister → BargeCall
  anywhere : ℕ → ℕ → ℕ → BargeCall
  stop : ℕ → ℕ → BargeCall
  repair : ℕ → ℕ → BargeCall
  round : ℕ → BargeCall

-- the floor that it names
abbrev pub named : BargeCall → ℕ
named (book k t c) = k
named (anywhere k t number) = k
named (stop k t) = k
named (repair k t) = k
named (round k) = k

-- the same call on a lone floor
abbrev pub standalone : BargeCall → Call
standalone (book k t c) = OneFloor.book t c
standalone (anywhere k t number) = OneFloor.anywhere t number
standalone (stop k t) = OneFloor.stop t
standalone (repair k t) = OneFloor.repair t
standalone (round k) = OneFloor.round

-- a booking's number has its parameter's 32 bits, as on a lone floor
abbrev pub InRange : BargeCall → Type 0
InRange c = OneFloor.InRange (standalone c)

-- a call's answer: its refusal number, 0 if accepted; the barge; the numbers that it booked; the numbers that it reported delivered to each hopper of the floor that it names
pub record Outcome : Type 0 where
  pub refusal : ℕ
  pub barge : Barge
  pub booked : List ℕ
  pub reported : ℕ → List ℕ

unfoldable pub outcome : Barge → BargeCall → Outcome
outcome b (book k t c) = let r = barge_book b k t c in record { refusal = r.refusal; barge = r.barge; booked = cond (eqb r.refusal 0) (c.number ∷ []) []; reported = λ _. [] }
outcome b (anywhere k t number) = let r = barge_book_anywhere b k t number in record { refusal = r.refusal; barge = r.barge; booked = cond (eqb r.refusal 0) (number ∷ []) []; reported = λ _. [] }
outcome b (stop k t) = let r = barge_stop b k t in record { refusal = r.refusal; barge = r.barge; booked = []; reported = λ _. [] }
outcome b (repair k t) = let r = barge_repair b k t in record { refusal = r.refusal; barge = r.barge; booked = []; reported = λ _. [] }
outcome b (round k) = let r = barge_round b k in record { refusal = r.refusal; barge = r.barge; booked = []; reported = listed_at r.report }

-- each call gets the barge that the last one gave
unfoldable pub barge_after : Barge → List BargeCall → Barge
barge_after b [] = b
barge_after b (c ∷ cs) = barge_after (outcome b c).barge cs

-- the numbers of accepted bookings, and all that the rounds reported delivered, on all floors
unfoldable pub booked_in : Barge → List BargeCall → List ℕ
booked_in b [] = []
booked_in b (c ∷ cs) = (outcome b c).booked ++ booked_in (outcome b c).barge cs

unfoldable pub reported_in : Barge → List BargeCall → List ℕ
reported_in b [] = []
reported_in b (c ∷ cs) = cat 4 (outcome b c).reported ++ reported_in (outcome b c).barge cs

-- ---- one call
-- the same call on the floor that it names, alone
abbrev pub standalone_outcome : Barge → BargeCall → OneFloor.Outcome
standalone_outcome b c = OneFloor.outcome (floor_at b (named c)) (standalone c)

-- whether it is a booking of either sort
abbrev pub books : BargeCall → Bool
books (book k t c) = true
books (anywhere k t number) = true
books (stop k t) = false
books (repair k t) = false
books (round k) = false

-- what a call tells besides its number: a booking without a place its place, a round its report, whole: grants, reasons, missing millimetres, deliveries; the others nothing
pub data Payload : Type 0 where
  nothing : Payload
  place : ℕ → ℕ → Payload
  report : Report → Payload

abbrev pub payload : Barge → BargeCall → Payload
payload b (book k t c) = nothing
payload b (anywhere k t number) = let r = barge_book_anywhere b k t number in place r.a r.b
payload b (stop k t) = nothing
payload b (repair k t) = nothing
payload b (round k) = report (barge_round b k).report

-- the same of the call on the floor f, alone
abbrev pub standalone_payload : Floor → BargeCall → Payload
standalone_payload f (book k t c) = nothing
standalone_payload f (anywhere k t number) = let r = anywhere_answer f t number in place r.a r.b
standalone_payload f (stop k t) = nothing
standalone_payload f (repair k t) = nothing
standalone_payload f (round k) = report (round_answer f).report

-- of a refused call: "a report of zeros"
abbrev pub zero_payload : BargeCall → Payload
zero_payload (book k t c) = nothing
zero_payload (anywhere k t number) = place 0 0
zero_payload (stop k t) = nothing
zero_payload (repair k t) = nothing
zero_payload (round k) = report zero_report

-- calls "do there what they do on a lone one, but for 50"; 50 refuses a booking that nothing else refuses, where "the total is at or above the allowance"
pub record AsStandalone (b : Barge) (c : BargeCall) : Type 0 where
  pub refusal : (outcome b c).refusal ≢ 50 → (outcome b c).refusal ≡ (standalone_outcome b c).refusal
  pub floor : (outcome b c).refusal ≢ 50 → floor_at (outcome b c).barge (named c) ≡ (standalone_outcome b c).floor
  pub booked : (outcome b c).refusal ≢ 50 → (outcome b c).booked ≡ (standalone_outcome b c).booked
  pub reported : (outcome b c).refusal ≢ 50 → (outcome b c).reported ≡ (standalone_outcome b c).reported
  pub over : (outcome b c).refusal ≡ 50 ↔ ((books c ≡ true) × ((standalone_outcome b c).refusal ≡ 0) × (b.allowance ≤ aboard b))
  pub same_payload : (outcome b c).refusal ≢ 50 → payload b c ≡ standalone_payload (floor_at b (named c)) c
  -- accepted, the barge has that floor, and all else as it was
  pub barge : (outcome b c).refusal ≡ 0 → (outcome b c).barge ≡ with_floor b (named c) (standalone_outcome b c).floor

-- on a sound barge, for a call that names one of its floors
abbrev pub Standalone : Type 0
Standalone = (b : Barge) → barge_sound b ≡ true → (c : BargeCall) → named c < 4 → AsStandalone b c

-- "A refusal gives its number, a report of zeros, the same floor": of a refused call
pub record GivenBack (b : Barge) (c : BargeCall) : Type 0 where
  pub barge : (outcome b c).barge ≡ b
  pub same_payload : payload b c ≡ zero_payload c
  pub booked : (outcome b c).booked ≡ []
  pub reported : (outcome b c).reported ≡ (λ _. [])

pub record Refusals (b : Barge) (c : BargeCall) : Type 0 where
  -- by whatever number
  pub given_back : (outcome b c).refusal ≢ 0 → GivenBack b c
  -- "the barge is 30"; "49, floor number not 0 to 3, after 30"
  pub unsound : barge_sound b ≡ false → (outcome b c).refusal ≡ 30
  pub no_floor : barge_sound b ≡ true → 4 ≤ named c → (outcome b c).refusal ≡ 49

-- on every barge, sound or not, whatever floor is named
abbrev pub Refused : Type 0
Refused = (b : Barge) (c : BargeCall) → Refusals b c

-- "leave the other three", on every barge, sound or not
abbrev pub Others : Type 0
Others = (b : Barge) (c : BargeCall) (j : ℕ) → j ≢ named c → floor_at (outcome b c).barge j ≡ floor_at b j

-- ---- lists; b the first barge, cs the list
pub record Totals (b : Barge) (cs : List BargeCall) : Type 0 where
  pub sound : barge_sound (barge_after b cs) ≡ true
  pub same_allowance : (barge_after b cs).allowance ≡ b.allowance
  -- "Each delivery, on any floor, lowers the joint total by one", an accepted booking raises it by one, nothing else changes it
  pub counted : aboard (barge_after b cs) + length (reported_in b cs) ≡ aboard b + length (booked_in b cs)
  -- a total at or below the allowance never passes it; one above it never becomes greater than it was at first
  pub within : aboard b ≤ b.allowance → aboard (barge_after b cs) ≤ b.allowance
  pub above : b.allowance ≤ aboard b → aboard (barge_after b cs) ≤ aboard b

abbrev pub JointTotal : Type 0
JointTotal = (b : Barge) → barge_sound b ≡ true → (cs : List BargeCall) → All InRange cs → Totals b cs
