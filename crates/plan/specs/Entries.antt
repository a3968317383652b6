-- Document 02's [12]: the entries of a plan, and what refuses a plan.
use Rattle.std.specs.Prelude.{Bool, true, false, cond, not, ◌&&◌, ◌||◌, List, [], ◌∷◌, ◌++◌, map, ℕ, leb, ltb, eqb, take, drop}
use Rattle.laws.specs.Define.{all_of, any_of, pairs_of, filter}
use Rattle.plan.specs.declared.Entry.{Entry}
use Rattle.plan.specs.declared.Plan.{Plan}

-- "An entry waits, is booked under a number, or is delivered."
pub data Stage : Type 0 where
  waiting : Stage
  booked : ℕ → Stage
  delivered : Stage

-- by its byte: 0 waits, 2 is delivered, every other one is booked
unfoldable pub stage_of : Entry → Stage
stage_of e = cond (eqb e.stage 0) waiting (cond (eqb e.stage 2) delivered (booked e.number))

abbrev pub is_waiting : Stage → Bool
is_waiting waiting = true
is_waiting (booked n) = false
is_waiting delivered = false

abbrev pub is_delivered : Stage → Bool
is_delivered waiting = false
is_delivered (booked n) = false
is_delivered delivered = true

abbrev pub number_in : Stage → List ℕ
number_in waiting = []
number_in (booked n) = n ∷ []
number_in delivered = []

abbrev pub waits : Entry → Bool
waits e = is_waiting (stage_of e)

abbrev pub was_delivered : Entry → Bool
was_delivered e = is_delivered (stage_of e)

-- the number that it is booked under, if it is
abbrev pub booked_number : Entry → List ℕ
booked_number e = number_in (stage_of e)

-- "A plan has up to 64 entries": those below its count
abbrev pub used : Plan → List Entry
used p = take p.count p.entries

-- "up to two lower labels that must be delivered earlier"; 0 is none
unfoldable pub predecessors : Entry → List ℕ
predecessors e = filter (λ k. ltb 0 k) (e.first ∷ e.second ∷ [])

-- no entry of label k is undelivered; so too where none has that label, which 47 refuses
unfoldable pub done : List Entry → ℕ → Bool
done es k = all_of (λ x. not (eqb x.label k) || was_delivered x) es

-- some entry has label k
unfoldable pub present : List Entry → ℕ → Bool
present es k = any_of (λ x. eqb x.label k) es

-- the numbers that booked entries hold
unfoldable pub booked_numbers : List Entry → List ℕ
booked_numbers [] = []
booked_numbers (e ∷ es) = booked_number e ++ booked_numbers es

-- ---- 30
-- "an entry past waiting has a predecessor's label on an undelivered entry"
unfoldable pub after_predecessors : List Entry → Entry → Bool
after_predecessors es e = waits e || all_of (done es) (predecessors e)

-- "A plan is 30 if an entry past waiting has a predecessor's label on an undelivered entry, or two booked entries hold one number"; "A plan that claims more than 64 entries … is 30 too."
unfoldable pub plan_sound : Plan → Bool
plan_sound p = leb p.count 64 && (all_of (after_predecessors (used p)) (used p) && pairs_of (λ x y. not (eqb x y)) (booked_numbers (used p)))

-- "or at release a booked number is 0 or above the last booked"
unfoldable pub numbers_upto : ℕ → Plan → Bool
numbers_upto last p = all_of (λ n. ltb 0 n && leb n last) (booked_numbers (used p))

-- ---- "47, an entry's label repeated or outside 1 to 64, or a predecessor absent or not lower"
unfoldable pub entry_fits : List Entry → Entry → Bool
entry_fits es e = (leb 1 e.label && leb e.label 64) && all_of (λ k. ltb k e.label && present es k) (predecessors e)

unfoldable pub plan_fits : Plan → Bool
plan_fits p = all_of (entry_fits (used p)) (used p) && pairs_of (λ x y. not (eqb x.label y.label)) (used p)

-- ---- what can be released: a "waiting label whose predecessors are all delivered"
unfoldable pub ready : List Entry → Entry → Bool
ready es e = waits e && all_of (done es) (predecessors e)

unfoldable pub ready_label : List Entry → ℕ → Bool
ready_label es k = any_of (λ e. eqb e.label k && ready es e) es

-- ---- what changes in a plan: each used entry by itself; the others stay
abbrev pub changed : Plan → (Entry → Entry) → Plan
changed p g = record { entries = map g (used p) ++ drop p.count p.entries; count = p.count }

-- an entry booked under n, and an entry delivered; all else of it stays, the number of a delivered one too
abbrev pub booked_as : ℕ → Entry → Entry
booked_as n e = record { tile = e.tile; number = n; label = e.label; first = e.first; second = e.second; stage = 1 }

abbrev pub delivered_as : Entry → Entry
delivered_as e = record { tile = e.tile; number = e.number; label = e.label; first = e.first; second = e.second; stage = 2 }

-- the entry of label k booked under n
unfoldable pub released : ℕ → ℕ → Entry → Entry
released k n e = cond (eqb e.label k) (booked_as n e) e

-- "A round's report marks delivered exactly the booked labels whose numbers it lists": l are the listed numbers
unfoldable pub reported : List ℕ → Entry → Entry
reported l e = cond (any_of (λ n. any_of (eqb n) l) (booked_number e)) (delivered_as e) e
