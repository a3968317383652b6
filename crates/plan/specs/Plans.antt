-- Document 02's [12]: the calls on a plan: offer, release, report; the refusals of each, in its order, and its answer on all inputs.
use Rattle.std.specs.Prelude.{Bool, cond, not, List, [], ◌∷◌, map, ℕ, suc, ◌+◌, ◌^◌, ltb, eqb}
use Rattle.laws.specs.Define.{tab, any_of, first_of, join, refusal}
use Rattle.floor.specs.declared.Floor.{Floor}
use Rattle.floor.specs.declared.Report.{Report}
use Rattle.floor.specs.declared.Placed.{Placed}
use Rattle.floor.specs.Well.{well_formed}
use Rattle.floor.specs.Anywhere.{anywhere_answer}
use Rattle.floor.specs.Reports.{listed}
use Rattle.plan.specs.declared.Entry.{Entry}
use Rattle.plan.specs.declared.Plan.{Plan}
use Rattle.plan.specs.declared.Offered.{Offered}
use Rattle.plan.specs.declared.Planned.{Planned}
use Rattle.plan.specs.declared.Released.{Released}
use Rattle.plan.specs.Entries.{used, plan_sound, numbers_upto, plan_fits, ready_label, changed, released, reported}

-- ---- offer: 30, 47
unfoldable pub offer_tests : Plan → List (Bool × ℕ)
offer_tests p = (not (plan_sound p), 30) ∷ (not (plan_fits p), 47) ∷ []

-- "The plan offers the lowest waiting label whose predecessors are all delivered, and none exactly when there is no such label": 0 for none
unfoldable pub offered : Plan → ℕ
offered p = first_of (ready_label (used p)) (tab 64 suc)

unfoldable pub offer_answer : Plan → Offered
offer_answer p = let n = refusal (offer_tests p) in record { label = cond (eqb n 0) (offered p) 0; refusal = n }

-- ---- release: 30 (the plan, the floor, a booked number 0 or above the last), 47, 48, then the booking's
-- "48, the label asked for not waiting or a predecessor undelivered, at release, after 47 and before the booking's other checks"
unfoldable pub release_tests : Plan → Floor → ℕ → List (Bool × ℕ)
release_tests p f k =
    (not (plan_sound p), 30) ∷ (not (well_formed f), 30) ∷ (not (numbers_upto f.counters.last p), 30)
    ∷ (not (plan_fits p), 47) ∷ (not (ready_label (used p) k), 48) ∷ []

-- "under the number after the last booked; with no such number left it is 33": then the last itself, which a booking refuses by 33
unfoldable pub number_after : Floor → ℕ
number_after f = let n = f.counters.last in cond (ltb (n + 1) (2 ^ 32)) (n + 1) n

-- the tile of label k
unfoldable pub tile_for : List Entry → ℕ → ℕ
tile_for [] k = 0
tile_for (e ∷ es) k = let r = tile_for es k in cond (eqb e.label k) e.tile r

-- "A release books a waiting label as in [1]"
unfoldable pub release_booking : Plan → Floor → ℕ → Placed
release_booking p f k = anywhere_answer f (tile_for (used p) k) (number_after f)

-- accepted: the floor of the booking, the plan with the label booked, the number and the place; refused: both as they came, and zeros
unfoldable pub release_answer : Plan → Floor → ℕ → Released
release_answer p f k =
    let r = release_booking p f k in
    let own = refusal (release_tests p f k) in
    let n = cond (eqb own 0) r.refusal own in
    let accepted = eqb n 0 in
    record {
      floor = cond accepted r.floor f;
      plan = cond accepted (changed p (released k (number_after f))) p;
      number = cond accepted (number_after f) 0;
      a = cond accepted r.a 0;
      b = cond accepted r.b 0;
      refusal = n;
    }

-- ---- report: 30 (the plan, the report), 47
-- the numbers that a report lists, for all hoppers together
unfoldable pub numbers_in : Report → List ℕ
numbers_in r = join (map listed r.deliveries)

-- "a report to it with over four deliveries for a hopper, is 30 too"
unfoldable pub report_tests : Plan → Report → List (Bool × ℕ)
report_tests p r = (not (plan_sound p), 30) ∷ (any_of (λ d. ltb 4 d.count) r.deliveries, 30) ∷ (not (plan_fits p), 47) ∷ []

unfoldable pub report_answer : Plan → Report → Planned
report_answer p r = let n = refusal (report_tests p r) in record { plan = cond (eqb n 0) (changed p (reported (numbers_in r))) p; refusal = n }
