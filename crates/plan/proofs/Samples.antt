-- [12]: plans by their answers: one table, one proof. A row is what the calls give, then what is due.
use mathlib.Core.Path.{◌≡◌, refl}
use mathlib.Core.Bool.{true}
use mathlib.Core.List.{List, [], ◌∷◌, ◌++◌, map}
use Prim.Native.Nat.{ℕ, ◌-◌, ◌^◌}
use lib.ListN.{length, replicate, take}
use Rattle.laws.specs.Define.{join, tab}
use Rattle.floor.specs.declared.Delivery.{Delivery}
use Rattle.floor.specs.declared.Floor.{Floor}
use Rattle.floor.specs.declared.Report.{Report}
use Rattle.floor.specs.Memory.{zero_floor}
use Rattle.floor.specs.Calls.{fresh_answer}
use Rattle.floor.proofs.Calling.{got, book, stop, on, Table, holds}
use Rattle.floor.proofs.AnywhereSamples.{small}
use Rattle.plan.specs.declared.Entry.{Entry}
use Rattle.plan.specs.declared.Plan.{Plan}
use Rattle.plan.specs.Entries.{stage_of, predecessors, done, present, booked_numbers, after_predecessors, plan_sound, numbers_upto, entry_fits, plan_fits, ready, ready_label, released, reported}
use Rattle.plan.specs.Plans.{offer_tests, offered, offer_answer, release_tests, number_after, tile_for, release_booking, release_answer, numbers_in, report_tests, report_answer}

-- label k on tile t after a and b; its stage and its number
unfoldable pub entry : ℕ → ℕ → ℕ → ℕ → ℕ → ℕ → Entry
entry k t a b s n = record { tile = t; number = n; label = k; first = a; second = b; stage = s }

-- a plan of these entries; the place after them has a waiting label 5 that nothing may read
unfoldable pub plan : List Entry → Plan
plan l = record { entries = l ++ (entry 5 0 0 0 0 0 ∷ []); count = length l }

-- labels 3 after 1 and 2, 2 after 1, and 1, by the stages and numbers of 1, 2, 3; the tiles are 6, 0 and t
unfoldable three : ℕ → ℕ → ℕ → ℕ → ℕ → ℕ → ℕ → Plan
three t s n u m v k = plan (entry 3 6 1 2 v k ∷ entry 2 0 1 0 u m ∷ entry 1 t 0 0 s n ∷ [])

-- label 1 on tile t waits, beside label 2 after it
unfoldable pub two : ℕ → Plan
two t = plan (entry 2 0 1 0 0 0 ∷ entry 1 t 0 0 0 0 ∷ [])

-- labels 64 to 1, none with predecessors, and n entries claimed
unfoldable many : ℕ → Plan
many n = record { entries = tab 64 (λ k. entry (64 - k) 0 0 0 0 0); count = n }

unfoldable ask : Plan → List ℕ
ask p = let r = offer_answer p in r.refusal ∷ r.label ∷ []

-- all of a plan, the entries past the count too
unfoldable pub entries : Plan → List ℕ
entries p = p.count ∷ join (map (λ e. e.tile ∷ e.number ∷ e.label ∷ e.first ∷ e.second ∷ e.stage ∷ []) p.entries)

-- the refusal, the number, the place, the plan
unfoldable releases : Plan → Floor → ℕ → List ℕ
releases p f k = let r = release_answer p f k in r.refusal ∷ r.number ∷ r.a ∷ r.b ∷ entries r.plan

-- the refusal, the number and the place
unfoldable refused : Plan → Floor → ℕ → List ℕ
refused p f k = let r = release_answer p f k in r.refusal ∷ r.number ∷ r.a ∷ r.b ∷ []

unfoldable pub delivery : ℕ → List ℕ → Delivery
delivery n l = record { numbers = take 4 (l ++ replicate 4 0); count = n }

unfoldable pub report : List Delivery → Report
report l = record { grants = replicate 64 0; reasons = replicate 64 0; missing = replicate 64 0; deliveries = take 4 (l ++ replicate 4 (delivery 0 [])) }

unfoldable report_row : Plan → Report → List ℕ
report_row p r = let a = report_answer p r in a.refusal ∷ entries a.plan

unfoldable offers : Table
offers =
    (ask (three 0 0 0 0 0 0 0), 0 ∷ 1 ∷ [])
    -- booked is not delivered; then the lowest; both predecessors; none
    ∷ (ask (three 0 1 5 0 0 0 0), 0 ∷ 0 ∷ [])
    ∷ (ask (three 0 2 5 0 0 0 0), 0 ∷ 2 ∷ [])
    ∷ (ask (three 0 2 5 1 6 0 0), 0 ∷ 0 ∷ [])
    ∷ (ask (three 0 2 5 2 6 0 0), 0 ∷ 3 ∷ [])
    ∷ (ask (three 0 2 5 2 6 2 7), 0 ∷ 0 ∷ [])
    ∷ (ask (plan []), 0 ∷ 0 ∷ [])
    -- several could go: the lowest label, wherever it stands
    ∷ (ask (plan (entry 9 0 0 0 0 0 ∷ entry 4 0 0 0 0 0 ∷ entry 6 0 0 0 0 0 ∷ [])), 0 ∷ 4 ∷ [])
    -- 64 entries; more claimed
    ∷ (ask (many 64), 0 ∷ 1 ∷ [])
    ∷ (ask (many 65), 30 ∷ 0 ∷ [])
    ∷ (ask (many (2 ^ 32 - 1)), 30 ∷ 0 ∷ [])
    -- another byte is booked
    ∷ (ask (three 0 255 5 0 0 0 0), 0 ∷ 0 ∷ [])
    -- 30: past waiting before a predecessor; one number twice, also 0; not where one of them is delivered or waits
    ∷ (ask (three 0 0 0 1 5 0 0), 30 ∷ 0 ∷ [])
    ∷ (ask (three 0 1 5 2 6 0 0), 30 ∷ 0 ∷ [])
    ∷ (ask (three 0 2 5 0 0 1 6), 30 ∷ 0 ∷ [])
    ∷ (ask (plan (entry 3 0 0 0 1 4 ∷ entry 2 0 0 0 3 4 ∷ [])), 30 ∷ 0 ∷ [])
    ∷ (ask (plan (entry 3 0 0 0 1 0 ∷ entry 2 0 0 0 1 0 ∷ [])), 30 ∷ 0 ∷ [])
    ∷ (ask (plan (entry 3 0 0 0 1 4 ∷ entry 2 0 0 0 2 4 ∷ entry 7 0 0 0 0 4 ∷ [])), 0 ∷ 7 ∷ [])
    -- 47: label 0, 65, 255, repeated; a predecessor absent, the label itself, higher; 64 and two equal predecessors are fine
    ∷ (ask (plan (entry 0 0 0 0 0 0 ∷ [])), 47 ∷ 0 ∷ [])
    ∷ (ask (plan (entry 65 0 0 0 0 0 ∷ [])), 47 ∷ 0 ∷ [])
    ∷ (ask (plan (entry 255 0 0 0 0 0 ∷ [])), 47 ∷ 0 ∷ [])
    ∷ (ask (plan (entry 3 0 0 0 0 0 ∷ entry 3 0 0 0 0 0 ∷ [])), 47 ∷ 0 ∷ [])
    ∷ (ask (plan (entry 7 0 5 0 0 0 ∷ [])), 47 ∷ 0 ∷ [])
    ∷ (ask (plan (entry 3 0 0 3 0 0 ∷ [])), 47 ∷ 0 ∷ [])
    ∷ (ask (plan (entry 3 0 4 0 0 0 ∷ entry 4 0 0 0 2 0 ∷ [])), 47 ∷ 0 ∷ [])
    ∷ (ask (plan (entry 64 0 2 2 0 0 ∷ entry 2 0 0 0 2 0 ∷ [])), 0 ∷ 64 ∷ [])
    -- repeated labels: any undelivered one; past waiting after itself: booked, delivered
    ∷ (ask (plan (entry 3 0 2 0 1 4 ∷ entry 2 0 0 0 2 0 ∷ entry 2 0 0 0 0 0 ∷ [])), 30 ∷ 0 ∷ [])
    ∷ (ask (plan (entry 3 0 3 0 1 1 ∷ [])), 30 ∷ 0 ∷ [])
    ∷ (ask (plan (entry 3 0 3 0 2 0 ∷ [])), 47 ∷ 0 ∷ [])
    -- an entry without a label is no predecessor
    ∷ (ask (plan (entry 3 0 0 0 1 4 ∷ entry 0 0 0 0 0 0 ∷ [])), 47 ∷ 0 ∷ [])
    ∷ []

unfoldable reports : Table
reports =
    -- label 7 after the absent 5, and 1 booked under 5: 47
    let unfit = plan (entry 7 0 5 0 0 0 ∷ entry 1 0 0 0 1 5 ∷ []) in
    -- 7 before 1: 30
    let early = plan (entry 7 0 1 0 1 9 ∷ entry 1 0 0 0 1 5 ∷ []) in
    -- only what is listed, never the filling; nothing but the stage changes
    (report_row (three 9 1 5 0 0 0 0) (report (delivery 1 (5 ∷ []) ∷ [])), 0 ∷ entries (three 9 2 5 0 0 0 0))
    ∷ (report_row (three 9 1 5 0 0 0 0) (report (delivery 0 (5 ∷ []) ∷ [])), 0 ∷ entries (three 9 1 5 0 0 0 0))
    ∷ (report_row (three 9 1 0 0 0 0 0) (report (delivery 1 (5 ∷ []) ∷ [])), 0 ∷ entries (three 9 1 0 0 0 0 0))
    ∷ (report_row (three 9 1 0 0 0 0 0) (report (delivery 1 (0 ∷ []) ∷ [])), 0 ∷ entries (three 9 2 0 0 0 0 0))
    ∷ (report_row (three 9 2 5 2 6 1 7) (report (delivery 1 (7 ∷ []) ∷ [])), 0 ∷ entries (three 9 2 5 2 6 2 7))
    -- every list and every place in it; a number that no label holds; numbers beside waiting and delivered labels
    ∷ (
      report_row (plan (entry 3 0 0 0 1 8 ∷ entry 2 0 0 0 7 6 ∷ entry 1 0 0 0 1 4 ∷ entry 4 0 0 0 0 9 ∷ entry 6 0 0 0 2 4 ∷ [])) (report (delivery 1 (2 ∷ []) ∷ delivery 0 (4 ∷ []) ∷ delivery 0 [] ∷ delivery 4 (1 ∷ 6 ∷ 9 ∷ 8 ∷ []) ∷ [])),
      0 ∷ entries (plan (entry 3 0 0 0 2 8 ∷ entry 2 0 0 0 2 6 ∷ entry 1 0 0 0 1 4 ∷ entry 4 0 0 0 0 9 ∷ entry 6 0 0 0 2 4 ∷ [])),
    )
    -- over four for a hopper, for each of them alone; before 47; then 30 and 47 of the plan
    ∷ (report_row (two 0) (report (delivery 5 [] ∷ [])), 30 ∷ entries (two 0))
    ∷ (report_row (three 0 1 5 0 0 0 0) (report (delivery 1 (5 ∷ []) ∷ delivery 5 [] ∷ [])), 30 ∷ entries (three 0 1 5 0 0 0 0))
    ∷ (report_row (three 0 1 5 0 0 0 0) (report (delivery 1 (5 ∷ []) ∷ delivery 0 [] ∷ delivery 5 [] ∷ [])), 30 ∷ entries (three 0 1 5 0 0 0 0))
    ∷ (report_row (three 0 1 5 0 0 0 0) (report (delivery 1 (5 ∷ []) ∷ delivery 0 [] ∷ delivery 0 [] ∷ delivery 5 [] ∷ [])), 30 ∷ entries (three 0 1 5 0 0 0 0))
    ∷ (report_row unfit (report (delivery 255 (5 ∷ []) ∷ [])), 30 ∷ entries unfit)
    ∷ (report_row unfit (report (delivery 1 (5 ∷ []) ∷ [])), 47 ∷ entries unfit)
    ∷ (report_row early (report (delivery 1 (5 ∷ []) ∷ [])), 30 ∷ entries early)
    ∷ []

unfoldable releasing : Table
releasing =
    -- W 2, hopper 1; U 9, l 3, r 1: places 0 to 6, d 4
    let f = got (fresh_answer (small 3 1)) in
    let seven = book 7 2 1 0 f in
    let blocked = book 7 3 3 0 f in
    let out = stop 0 f in
    -- the number after the last, and [1]'s place; the label alone is booked, and the floor is that of the booking
    (releases (two 0) f 1, 0 ∷ 1 ∷ 0 ∷ 0 ∷ entries (plan (entry 2 0 1 0 0 0 ∷ entry 1 0 0 0 1 1 ∷ [])))
    ∷ (releases (three 9 2 5 0 0 0 0) seven 2, 0 ∷ 8 ∷ 6 ∷ 0 ∷ entries (three 9 2 5 1 8 0 0))
    ∷ (on 0 (release_answer (two 0) seven 1).floor, 0 ∷ 7 ∷ 2 ∷ 1 ∷ 8 ∷ 6 ∷ 0 ∷ [])
    -- a ready label that is not the one offered; the highest label
    ∷ (releases (plan (entry 3 0 0 0 0 0 ∷ entry 2 0 0 0 0 0 ∷ [])) f 3, 0 ∷ 1 ∷ 0 ∷ 0 ∷ entries (plan (entry 3 0 0 0 1 1 ∷ entry 2 0 0 0 0 0 ∷ [])))
    ∷ (releases (plan (entry 64 0 2 2 0 0 ∷ entry 2 0 0 0 2 0 ∷ [])) f 64, 0 ∷ 1 ∷ 0 ∷ 0 ∷ entries (plan (entry 64 0 2 2 1 1 ∷ entry 2 0 0 0 2 0 ∷ [])))
    -- a booked number at the last; 30: above it, 0
    ∷ (releases (plan (entry 3 0 0 0 0 0 ∷ entry 2 0 0 0 1 7 ∷ [])) seven 3, 0 ∷ 8 ∷ 6 ∷ 0 ∷ entries (plan (entry 3 0 0 0 1 8 ∷ entry 2 0 0 0 1 7 ∷ [])))
    ∷ (refused (plan (entry 3 0 0 0 0 0 ∷ entry 2 0 0 0 1 8 ∷ [])) seven 3, 30 ∷ 0 ∷ 0 ∷ 0 ∷ [])
    ∷ (refused (plan (entry 3 0 0 0 0 0 ∷ entry 2 0 0 0 1 0 ∷ [])) seven 3, 30 ∷ 0 ∷ 0 ∷ 0 ∷ [])
    -- numbers beside waiting and delivered labels don't count
    ∷ (releases (plan (entry 3 0 2 0 0 9 ∷ entry 2 0 0 0 2 9 ∷ [])) f 3, 0 ∷ 1 ∷ 0 ∷ 0 ∷ entries (plan (entry 3 0 2 0 1 1 ∷ entry 2 0 0 0 2 9 ∷ [])))
    -- 30 of the plan alone, of the floor alone, of a booked number above the last or 0, 47, 48, each where the next one of 47, 48, 4 holds too
    ∷ (refused (plan (entry 3 0 2 0 1 4 ∷ entry 2 0 0 0 2 0 ∷ entry 2 0 0 0 0 0 ∷ [])) seven 9, 30 ∷ 0 ∷ 0 ∷ 0 ∷ [])
    ∷ (refused (plan (entry 7 0 5 0 0 0 ∷ [])) zero_floor 9, 30 ∷ 0 ∷ 0 ∷ 0 ∷ [])
    ∷ (refused (plan (entry 7 0 5 0 0 0 ∷ entry 2 0 0 0 1 8 ∷ [])) seven 9, 30 ∷ 0 ∷ 0 ∷ 0 ∷ [])
    ∷ (refused (plan (entry 7 0 5 0 0 0 ∷ entry 2 0 0 0 1 0 ∷ [])) seven 9, 30 ∷ 0 ∷ 0 ∷ 0 ∷ [])
    ∷ (refused (plan (entry 7 0 5 0 0 0 ∷ [])) out 9, 47 ∷ 0 ∷ 0 ∷ 0 ∷ [])
    ∷ (refused (two 2) out 9, 48 ∷ 0 ∷ 0 ∷ 0 ∷ [])
    -- 48: a label that waits for another, one that waits for two of which one is delivered, booked, delivered, past the count, not in the plan
    ∷ (refused (two 0) f 2, 48 ∷ 0 ∷ 0 ∷ 0 ∷ [])
    ∷ (refused (plan (entry 3 0 1 2 0 0 ∷ entry 2 0 0 0 1 4 ∷ entry 1 0 0 0 2 5 ∷ [])) seven 3, 48 ∷ 0 ∷ 0 ∷ 0 ∷ [])
    ∷ (refused (three 0 1 7 0 0 0 0) seven 1, 48 ∷ 0 ∷ 0 ∷ 0 ∷ [])
    ∷ (refused (three 0 2 7 0 0 0 0) seven 1, 48 ∷ 0 ∷ 0 ∷ 0 ∷ [])
    ∷ (refused (two 0) f 5, 48 ∷ 0 ∷ 0 ∷ 0 ∷ [])
    ∷ (refused (two 0) f 0, 48 ∷ 0 ∷ 0 ∷ 0 ∷ [])
    ∷ (refused (two 0) f 65, 48 ∷ 0 ∷ 0 ∷ 0 ∷ [])
    ∷ (refused (two 0) f 257, 48 ∷ 0 ∷ 0 ∷ 0 ∷ [])
    -- the booking's: 4, 5, 31, 33 with no number left, 40; the plan comes back
    ∷ (refused (two 2) out 1, 4 ∷ 0 ∷ 0 ∷ 0 ∷ [])
    ∷ (refused (two 1) out 1, 5 ∷ 0 ∷ 0 ∷ 0 ∷ [])
    ∷ (refused (two 0) (stop 0 (book (2 ^ 32 - 1) 3 3 0 f)) 1, 31 ∷ 0 ∷ 0 ∷ 0 ∷ [])
    ∷ (refused (two 0) (book (2 ^ 32 - 1) 3 3 0 f) 1, 33 ∷ 0 ∷ 0 ∷ 0 ∷ [])
    ∷ (releases (two 0) (book (2 ^ 32 - 2) 2 1 0 f) 1, 0 ∷ (2 ^ 32 - 1) ∷ 6 ∷ 0 ∷ entries (plan (entry 2 0 1 0 0 0 ∷ entry 1 0 0 0 1 (2 ^ 32 - 1) ∷ [])))
    ∷ (releases (two 0) blocked 1, 40 ∷ 0 ∷ 0 ∷ 0 ∷ entries (two 0))
    ∷ []

offers_hold : holds offers ≡ true
unfolding holds entry plan three many ask offers
    stage_of predecessors done present booked_numbers after_predecessors plan_sound entry_fits plan_fits ready ready_label offer_tests offered offer_answer
offers_hold = refl

reports_hold : holds reports ≡ true
unfolding holds entry plan three two entries delivery report report_row reports
    stage_of predecessors done present booked_numbers after_predecessors plan_sound entry_fits plan_fits reported numbers_in report_tests report_answer
reports_hold = refl

releasing_holds : holds releasing ≡ true
unfolding holds small entry plan three two entries releases refused releasing
    stage_of predecessors done present booked_numbers after_predecessors plan_sound numbers_upto entry_fits plan_fits ready ready_label released release_tests number_after tile_for release_booking release_answer
releasing_holds = refl
