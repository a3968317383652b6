-- The calls: the refusals of each, in its order, and its answer on all inputs.
use Rattle.std.specs.Prelude.{Bool, cond, not, ◌&&◌, List, [], ◌∷◌, ℕ, ◌+◌, leb, eqb, length, get_or, replicate}
use Rattle.laws.specs.Define.{tab, all_of, bit, refusal}
use Rattle.floor.specs.declared.Canister.{Canister}
use Rattle.floor.specs.declared.Settings.{Settings}
use Rattle.floor.specs.declared.Counters.{Counters}
use Rattle.floor.specs.declared.Layout.{Layout}
use Rattle.floor.specs.declared.Floor.{Floor}
use Rattle.floor.specs.declared.Delivery.{Delivery}
use Rattle.floor.specs.declared.Report.{Report}
use Rattle.floor.specs.declared.Answer.{Answer}
use Rattle.floor.specs.declared.Rounded.{Rounded}
use Rattle.floor.specs.declared.Reading.{Reading}
use Rattle.floor.specs.Settings.{total, spacing, is_hopper, settings_refusal}
use Rattle.floor.specs.Layouts.{name_ok, set_below, name_held, set_of, keep_in, forget_in}
use Rattle.floor.specs.Model.{TileState, Model, tile_of, runs, runs_of_of, members_of, with_tiles, with_tile, with_counters, with_layouts, with_members}
use Rattle.floor.specs.Memory.{zero_counters, zero_tile, zero_canister, zero_floor, view, head, pack}
use Rattle.floor.specs.Well.{inside, apart, well_formed}
use Rattle.floor.specs.Route.{route}
use Rattle.floor.specs.Signal.{signal, grant_of}
use Rattle.floor.specs.Move.{insert, move, delivered_by}
use Rattle.floor.specs.Reasons.{reason_of, missing_of}

-- "30. The floor handed in isn't well formed. First in every call that takes one."
unfoldable pub refusal_of : Floor → List (Bool × ℕ) → ℕ
refusal_of f tests = refusal ((not (well_formed f), 30) ∷ tests)

-- "A refusal gives its number … the same floor"; accepted: number 0, and the floor m. Each call below reads its floor as a value, m = view f, and says what the value becomes; `pack` lays that out in memory, so that what the change leaves out stays as it was, and unused places are zero
unfoldable pub answer : Floor → List (Bool × ℕ) → Model → Answer
answer f tests m = let n = refusal_of f tests in record { refusal = n; floor = cond (eqb n 0) (pack m) f }

-- ---- fresh
-- "A fresh floor: all running, no canisters, every distance, arrow and turn none except the hopper's distance 0, counters 0."; each hopper's
unfoldable pub fresh_tile : Settings → ℕ → TileState
fresh_tile s t = record { running = 1; distance = cond (is_hopper s t) 0 255; next = 0; token = 0; members = [] }

unfoldable pub fresh_floor : Settings → Model
fresh_floor s = record { settings = s; counters = zero_counters; tiles = tab (total s) (fresh_tile s); layouts = [] }

-- "Fresh: 1, 2, 3." "A refused … fresh floor gives the all-zero floor."
unfoldable pub fresh_answer : Settings → Answer
fresh_answer s = let n = settings_refusal s in record { refusal = n; floor = cond (eqb n 0) (pack (fresh_floor s)) zero_floor }

-- ---- booking
-- "Order for booking: 30, 4, 5, 6, 7, 31, 33, 34.", after 30: by the settings, the last number, and whether the tile runs and what canisters l it has
unfoldable pub booking_tests : Settings → ℕ → ℕ → Canister → ℕ → List Canister → List (Bool × ℕ)
booking_tests s last t c running l =
    (leb (total s) t, 4) ∷ (not (bit s.sources t), 5) ∷ (eqb c.number 0, 6) ∷ (not (inside s c), 7)
    ∷ (not (eqb running 1), 31) ∷ (leb c.number last, 33) ∷ (not (all_of (apart (spacing s) c) l), 34) ∷ []

-- on a floor; where this is unfolded, `booking_tests` is too
unfoldable pub book_tests : Model → ℕ → Canister → List (Bool × ℕ)
unfolding booking_tests
book_tests m t c = booking_tests m.settings m.counters.last t c (tile_of m t).running (members_of m t)

-- "Booking adds the canister, sets last to its number and adds one to booked."
abbrev pub with_booking : Counters → ℕ → Counters
with_booking c n = record { last = n; booked = c.booked + 1; delivered = c.delivered }

unfoldable pub booked : Model → ℕ → Canister → Model
booked m t c = with_counters (with_tile m t (with_members (tile_of m t) (insert c (members_of m t)))) (with_booking m.counters c.number)

unfoldable pub book_answer : Floor → ℕ → Canister → Answer
book_answer f t c = let m = view f in answer f (book_tests m t c) (booked m t c)

-- ---- stop and repair
-- "Stop: 30, 4, 8, 31."
unfoldable pub stop_tests : Model → ℕ → List (Bool × ℕ)
stop_tests m t = (leb (total m.settings) t, 4) ∷ (is_hopper m.settings t, 8) ∷ (not (runs_of_of m t), 31) ∷ []

-- "Stop sets distance, arrow and turn none"; it keeps the canisters
unfoldable pub stopped : TileState → TileState
stopped x = record { running = 0; distance = 255; next = 0; token = 0; members = x.members }

unfoldable pub stop_answer : Floor → ℕ → Answer
stop_answer f t = let m = view f in answer f (stop_tests m t) (with_tile m t (stopped (tile_of m t)))

-- "Repair: 30, 4, 32."
unfoldable pub repair_tests : Model → ℕ → List (Bool × ℕ)
repair_tests m t = (leb (total m.settings) t, 4) ∷ (runs_of_of m t, 32) ∷ []

-- "repair only sets running"
unfoldable pub repaired : TileState → TileState
repaired x = record { running = 1; distance = x.distance; next = x.next; token = x.token; members = x.members }

unfoldable pub repair_answer : Floor → ℕ → Answer
repair_answer f t = let m = view f in answer f (repair_tests m t) (with_tile m t (repaired (tile_of m t)))

-- ---- layouts; a name is the number of its eight bytes (`name_number`), l the layouts that are kept
-- "44, bad name, after 30"; "46, eight other names held, after 44, at keeping"
unfoldable pub keep_tests : List Layout → ℕ → List (Bool × ℕ)
keep_tests l name = (not (name_ok name), 44) ∷ (leb 8 (length l) && not (name_held l name), 46) ∷ []

-- "the set of tiles that ran when it was kept"
unfoldable pub running_set : Model → ℕ
running_set m = set_below (runs_of_of m) (total m.settings)

-- "Keeping and forgetting change no tile"
unfoldable pub kept_under : Model → ℕ → Model
kept_under m name = with_layouts m (keep_in (record { name = name; set = running_set m }) m.layouts)

unfoldable pub keep_answer : Floor → ℕ → Answer
keep_answer f name = let m = view f in answer f (keep_tests m.layouts name) (kept_under m name)

-- "45, name not held, after 44, at recall and forgetting"
unfoldable pub name_held_tests : List Layout → ℕ → List (Bool × ℕ)
name_held_tests l name = (not (name_ok name), 44) ∷ (not (name_held l name), 45) ∷ []

unfoldable pub forgotten : Model → ℕ → Model
forgotten m name = with_layouts m (forget_in name m.layouts)

unfoldable pub forget_answer : Floor → ℕ → Answer
forget_answer f name = let m = view f in answer f (name_held_tests m.layouts name) (forgotten m name)

-- "Recall makes the stops and repairs needed": a stopped tile of the set is repaired, a running one outside it is stopped; the others stay as they are
unfoldable pub recall_tile : ℕ → ℕ → TileState → TileState
recall_tile set t x = cond (bit set t) (cond (runs x) x (repaired x)) (cond (runs x) (stopped x) x)

unfoldable pub recalled : Model → ℕ → Model
recalled m set = with_tiles m (tab (total m.settings) (λ t. recall_tile set t (tile_of m t)))

unfoldable pub recall_answer : Floor → ℕ → Answer
recall_answer f name = let m = view f in answer f (name_held_tests m.layouts name) (recalled m (set_of m.layouts name))

-- ---- a round
-- "Each step reads only what the step before left, for all tiles together."
unfoldable pub after_round : Model → Model
after_round m = let r = route m in let s = signal r in move s (grant_of r)

unfoldable pub delivered : Model → List (List ℕ)
delivered m = let r = route m in let s = signal r in delivered_by s (grant_of r)

-- one hopper's: "the delivered numbers, rising; never more than four"
unfoldable pub delivery_of : List ℕ → Delivery
delivery_of l = record { numbers = tab 4 (λ k. get_or l k 0); count = length l }

-- "The report gives every tile's grant and the delivered numbers"; "Deliveries are listed for each hopper, at most four apiece"; and why each tile stood. A tile from C on has 0 in each list: what is read there is `no_tile_of`, which grants nothing, and `reason_of` says 0 where no tile is
unfoldable pub report_of : Model → Report
report_of m = let ds = delivered m in record { grants = tab 64 (grant_of (route m)); reasons = tab 64 (reason_of (route m)); missing = tab 64 (missing_of (route m)); deliveries = tab 4 (λ k. delivery_of (get_or ds k [])) }

-- "a report of zeros"
abbrev pub no_delivery : Delivery
no_delivery = record { numbers = replicate 4 0; count = 0 }

unfoldable pub zero_report : Report
zero_report = record { grants = replicate 64 0; reasons = replicate 64 0; missing = replicate 64 0; deliveries = replicate 4 no_delivery }

-- "A round: 30."
unfoldable pub round_answer : Floor → Rounded
round_answer f =
    let n = refusal_of f [] in
    record { refusal = n; floor = cond (eqb n 0) (pack (after_round (view f))) f; report = cond (eqb n 0) (report_of (view f)) zero_report }

-- ---- reading
-- "Reading: 30, 4."
unfoldable pub read_tests : Model → ℕ → List (Bool × ℕ)
read_tests m t = (leb (total m.settings) t, 4) ∷ []

-- "Reading gives all that a tile has and changes nothing"; refused, zeros
unfoldable pub read_answer : Floor → ℕ → Reading
read_answer f t =
    let n = refusal_of f (read_tests (view f) t) in
    let x = tile_of (view f) t in
    record { refusal = n; tile = cond (eqb n 0) (head x) zero_tile; members = cond (eqb n 0) (tab 16 (λ k. get_or x.members k zero_canister)) (replicate 16 zero_canister) }
