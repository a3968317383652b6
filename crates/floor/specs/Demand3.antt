-- Demand 3: what is promised of every list of calls. The theorem is `demand3` of proofs/Theorem.
use Rattle.std.specs.Prelude.{◌≡◌, ◌↔◌, Bool, true, false, cond, not, ◌&&◌, ℕ, ◌+◌, ◌^◌, ◌≤◌, ◌<◌, ltb, eqb, length, get_or}
use mathlib.Core.List.{List, [], ◌∷◌, ◌++◌, Permᴰ}
use Rattle.laws.specs.Define.{cat, all_of, pairs_of, all_below, bit}
use Rattle.laws.specs.Every.{All}
use Rattle.floor.specs.declared.Canister.{Canister}
use Rattle.floor.specs.declared.Booking.{Booking}
use Rattle.floor.specs.declared.Floor.{Floor}
use Rattle.floor.specs.Settings.{total, spacing}
use Rattle.floor.specs.Layouts.{set_of}
use Rattle.floor.specs.Model.{runs_of_of, members_of, numbers_on}
use Rattle.floor.specs.Memory.{view}
use Rattle.floor.specs.Well.{inside, apart, well_formed}
use Rattle.floor.specs.Calls.{book_answer, stop_answer, repair_answer, keep_answer, forget_answer, recall_answer, round_answer}
use Rattle.floor.specs.Anywhere.{anywhere_answer}
use Rattle.floor.specs.Bookings.{accepted_in, list_answer, list_after}
use Rattle.floor.specs.Reports.{listed_at}
use Rattle.floor.specs.Bound.{bound}
use Rattle.floor.specs.Live.{LivePath, connected, connected_count}

-- "a list holds bookings, stops, repairs and rounds in any order and number; it may be empty"; bookings without a place, by tile and number; [4]: lists of bookings; recalls, and "Keeping and forgetting … may stand in its lists", each with the number of its name
pub data Call : Type 0 where
  book : ℕ → Canister → Call
  anywhere : ℕ → ℕ → Call
  stop : ℕ → Call
  repair : ℕ → Call
  round : Call
  keep : ℕ → Call
  forget : ℕ → Call
  recall : ℕ → Call
  list : List Booking → Call

-- a booking's number has its parameter's 32 bits, that of each entry of a list too; no other width is needed
abbrev pub InRange : Call → Type 0
InRange (book t c) = c.number < 2 ^ 32
InRange (anywhere t number) = number < 2 ^ 32
InRange (stop t) = Unit {0}
InRange (repair t) = Unit {0}
InRange round = Unit {0}
InRange (keep name) = Unit {0}
InRange (forget name) = Unit {0}
InRange (recall name) = Unit {0}
InRange (list l) = All (λ b. b.canister.number < 2 ^ 32) l

-- a call's answer: its refusal number, 0 if accepted; its floor; the numbers that it booked; the numbers that it reported delivered to each hopper, the hoppers in tile order from 0 on
pub record Outcome : Type 0 where
  pub refusal : ℕ
  pub floor : Floor
  pub booked : List ℕ
  pub reported : ℕ → List ℕ

-- a booking's number counts if it is accepted; a round reports what its report lists. A list call books the numbers of the entries that it answers by 0; refused by 42 it writes no answer and books nothing
unfoldable pub outcome : Floor → Call → Outcome
outcome f (book t c) = let r = book_answer f t c in record { refusal = r.refusal; floor = r.floor; booked = cond (eqb r.refusal 0) (c.number ∷ []) []; reported = λ _. [] }
outcome f (anywhere t number) = let r = anywhere_answer f t number in record { refusal = r.refusal; floor = r.floor; booked = cond (eqb r.refusal 0) (number ∷ []) []; reported = λ _. [] }
outcome f (stop t) = let r = stop_answer f t in record { refusal = r.refusal; floor = r.floor; booked = []; reported = λ _. [] }
outcome f (repair t) = let r = repair_answer f t in record { refusal = r.refusal; floor = r.floor; booked = []; reported = λ _. [] }
outcome f round = let r = round_answer f in record { refusal = r.refusal; floor = r.floor; booked = []; reported = listed_at r.report }
outcome f (keep name) = let r = keep_answer f name in record { refusal = r.refusal; floor = r.floor; booked = []; reported = λ _. [] }
outcome f (forget name) = let r = forget_answer f name in record { refusal = r.refusal; floor = r.floor; booked = []; reported = λ _. [] }
outcome f (recall name) = let r = recall_answer f name in record { refusal = r.refusal; floor = r.floor; booked = []; reported = λ _. [] }
outcome f (list l) = let r = list_answer f l in record { refusal = r.refusal; floor = r.floor; booked = cond (eqb r.refusal 0) (accepted_in (list_after f l)) []; reported = λ _. [] }

-- "Each call gets its own arguments and the floor the last one gave; a refused call gives that floor back and stays in the list."
unfoldable pub floor_after : Floor → List Call → Floor
floor_after f [] = f
floor_after f (c ∷ cs) = floor_after (outcome f c).floor cs

-- the numbers of accepted bookings
unfoldable pub booked_in : Floor → List Call → List ℕ
booked_in f [] = []
booked_in f (c ∷ cs) = (outcome f c).booked ++ booked_in (outcome f c).floor cs

-- "all that the rounds reported delivered", to hopper k
unfoldable pub reported_in : Floor → List Call → ℕ → List ℕ
reported_in f [] k = []
reported_in f (c ∷ cs) k = (outcome f c).reported k ++ reported_in (outcome f c).floor cs k

-- to all hoppers together: "the total that nothing is lost from is over all"
unfoldable pub reported_all : Floor → List Call → List ℕ
reported_all f cs = cat 4 (reported_in f cs)

-- the set that a recall brings back
unfoldable pub recall_set : Floor → ℕ → ℕ
recall_set f name = set_of (view f).layouts name

-- whether a recall that is accepted stops or repairs tile t: it runs and is not in the set, or it is stopped and in it
unfoldable pub recall_makes : Floor → ℕ → ℕ → Bool
recall_makes f name t = ltb t (total f.settings) && cond (bit (recall_set f name) t) (not (runs_of_of (view f) t)) (runs_of_of (view f) t)

-- "A tile runs if the latest accepted stop or repair of it since the first floor was a repair or, without one, if it ran on the first floor."; a recall "counts as" its stops and repairs. r: whether tile t ran before the call
unfoldable pub runs_by : Floor → Call → ℕ → Bool → Bool
runs_by f (book u c) t r = r
runs_by f (anywhere u number) t r = r
runs_by f (stop u) t r = cond (eqb (outcome f (stop u)).refusal 0 && eqb u t) false r
runs_by f (repair u) t r = cond (eqb (outcome f (repair u)).refusal 0 && eqb u t) true r
runs_by f round t r = r
runs_by f (keep name) t r = r
runs_by f (forget name) t r = r
runs_by f (recall name) t r = cond (eqb (outcome f (recall name)).refusal 0 && recall_makes f name t) (bit (recall_set f name) t) r
runs_by f (list l) t r = r

unfoldable pub latest : Floor → List Call → ℕ → Bool → Bool
latest f [] t r = r
latest f (c ∷ cs) t r = latest (outcome f c).floor cs t (runs_by f c t r)

unfoldable pub runs_after_of : Floor → List Call → ℕ → Bool
runs_after_of f cs t = latest f cs t (runs_of_of (view f) t)

abbrev pub is_round : Call → Bool
is_round (book t c) = false
is_round (anywhere t number) = false
is_round (stop t) = false
is_round (repair t) = false
is_round round = true
is_round (keep name) = false
is_round (forget name) = false
is_round (recall name) = false
is_round (list l) = false

-- whether it is an accepted stop or repair; a recall counts as those that it makes
unfoldable pub changes_running : Floor → Call → Bool
changes_running f (book t c) = false
changes_running f (anywhere t number) = false
changes_running f (stop t) = eqb (outcome f (stop t)).refusal 0
changes_running f (repair t) = eqb (outcome f (repair t)).refusal 0
changes_running f round = false
changes_running f (keep name) = false
changes_running f (forget name) = false
changes_running f (recall name) = eqb (outcome f (recall name)).refusal 0 && not (all_below (λ t. not (recall_makes f name t)) (total f.settings))
changes_running f (list l) = false

-- whether it is an accepted booking of either sort, stop or repair; keeping and forgetting are none. A list call with an accepted entry is an accepted booking; one whose entries are all refused, or that 42 refuses, is not
unfoldable pub disturbs : Floor → Call → Bool
disturbs f (book t c) = eqb (outcome f (book t c)).refusal 0
disturbs f (anywhere t number) = eqb (outcome f (anywhere t number)).refusal 0
disturbs f (stop t) = changes_running f (stop t)
disturbs f (repair t) = changes_running f (repair t)
disturbs f round = false
disturbs f (keep name) = false
disturbs f (forget name) = false
disturbs f (recall name) = changes_running f (recall name)
disturbs f (list l) = ltb 0 (length (outcome f (list l)).booked)

-- a list with "no accepted booking, stop or repair", and its rounds
abbrev pub Quiet : Floor → List Call → Type 0
Quiet f [] = Unit {0}
Quiet f (c ∷ cs) = (disturbs f c ≡ false) × Quiet (outcome f c).floor cs

abbrev pub rounds_in : List Call → ℕ
rounds_in [] = 0
rounds_in (c ∷ cs) = cond (is_round c) 1 0 + rounds_in cs

-- f the first floor, cs the list
pub record Promises (f : Floor) (cs : List Call) : Type 0 where
  pub now : Floor
  pub is_now : now ≡ floor_after f cs
  pub well : well_formed now ≡ true
  pub same_settings : now.settings ≡ f.settings
  -- "each a and b is from 0 to U - l"; "two canisters of one tile differ by at least d in a or in b"
  pub within : (t : ℕ) → all_of (inside f.settings) (members_of (view now) t) ≡ true
  pub spaced : (t : ℕ) → pairs_of (apart (spacing f.settings)) (members_of (view now) t) ≡ true
  -- "the first floor's numbers with that of each accepted booking are, in some order, those on the floor now with all that the rounds reported delivered, and no number stands twice on either side"
  pub kept : Permᴰ (numbers_on (view f) ++ booked_in f cs) (numbers_on (view now) ++ reported_all f cs)
  pub once_before : pairs_of (λ x y. not (eqb x y)) (numbers_on (view f) ++ booked_in f cs) ≡ true
  pub once_now : pairs_of (λ x y. not (eqb x y)) (numbers_on (view now) ++ reported_all f cs) ≡ true
  -- "Booked now = booked on the first floor + accepted bookings. Delivered now = delivered on the first floor + numbers reported."
  pub booked : now.counters.booked ≡ f.counters.booked + length (booked_in f cs)
  -- for each hopper
  pub delivered : (k : ℕ) → get_or now.counters.delivered k 0 ≡ get_or f.counters.delivered k 0 + length (reported_in f cs k)
  -- "A tile runs if the latest accepted stop or repair …": that is what the floor says of it now
  pub runs_now : (t : ℕ) → runs_after_of f cs t ≡ runs_of_of (view now) t
  -- K, `connected_count`, counts the canisters on tiles with a live path
  pub counts_live : (t : ℕ) → LivePath f.settings (runs_after_of f cs) t ↔ connected f.settings (runs_after_of f cs) t ≡ true
  -- "after any further list with at least (C - 1) × (1 + K × M) rounds and no accepted booking, stop or repair, no canister is on a tile with a live path" to a hopper
  pub emptied : (ds : List Call) → All InRange ds → Quiet now ds → bound f.settings (connected_count (view now) (runs_after_of f cs)) ≤ rounds_in ds
      → (t : ℕ) → LivePath f.settings (runs_after_of f cs) t → members_of (view (floor_after now ds)) t ≡ []
  -- the same tiles run after such a list, so that the live paths are those before it
  pub runs_same : (ds : List Call) → Quiet now ds → (t : ℕ) → runs_after_of f (cs ++ ds) t ≡ runs_after_of f cs t
  pub live_same : (ds : List Call) → Quiet now ds → (t : ℕ) → LivePath f.settings (runs_after_of f (cs ++ ds)) t ↔ LivePath f.settings (runs_after_of f cs) t

-- the theorem: for every well-formed floor in memory and every list of calls
abbrev pub Demand3 : Type 0
Demand3 = (f : Floor) → well_formed f ≡ true → (cs : List Call) → All InRange cs → Promises f cs
