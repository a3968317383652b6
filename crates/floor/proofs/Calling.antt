-- The calls by their answers, and what of an answer is compared: for the tables of Trials and Cases. What is read begins with the answer's refusal number.
use mathlib.Core.Bool.{Bool, cond, ◌&&◌}
use mathlib.Core.List.{List, [], ◌∷◌, ◌++◌, map}
use Prim.Native.Nat.{ℕ, zero, suc, ◌-◌, ◌*◌, ◌^◌}
use lib.Dec.{eqb}
use lib.ListN.{get_or, take, replicate}
use Rattle.laws.specs.Define.{tab, cat, all_of, any_of, pairs_of, all_below, filter, first_of, sum, bit, bits_below, join, refusal}
use Rattle.laws.proofs.Lists.{same}
use Rattle.floor.specs.declared.Canister.{Canister}
use Rattle.floor.specs.declared.Settings.{Settings}
use Rattle.floor.specs.declared.Counters.{Counters}
use Rattle.floor.specs.declared.Tile.{Tile}
use Rattle.floor.specs.declared.Layout.{Layout}
use Rattle.floor.specs.declared.Floor.{Floor}
use Rattle.floor.specs.declared.Answer.{Answer}
use Rattle.floor.specs.declared.Reading.{Reading}
use Rattle.floor.specs.Sides.{sides, opposite, after, following, chosen}
use Rattle.floor.specs.Settings.{is_hopper, hoppers_of, settings_tests, settings_refusal, settings_pass}
use Rattle.floor.specs.Grid.{neighbour}
use Rattle.floor.specs.Layouts.{name_number, letters, is_letter, spelled, name_ok, layout_ok, layouts_sound, set_below, name_held, set_of, keep_in, forget_in}
use Rattle.floor.specs.Model.{runs_of_of, numbers_on}
use Rattle.floor.specs.Memory.{zero_floor, state_of, used_layouts, view, head, places, rows, layout_places, build, pack, is_zero_canister, is_zero_tile, head_fits, tile_fits, tiles_fit, state_fits, is_zero_layout, layouts_fit, fits}
use Rattle.floor.specs.Well.{hopper_sound, running_sound, stopped_sound, faces, head_sound, inside, apart, in_order, members_sound, tile_sound, numbers_sound, counters_sound, state_sound, sound, well_formed}
use Rattle.floor.specs.Route.{nearer, nearest, lies_at, kept, onward, heading_of, route_tile, route}
use Rattle.floor.specs.Signal.{requests, lack, missing, signal_with, signal_by, signal_tile, shown_of, signal_of, signal}
use Rattle.floor.specs.Move.{way_of, crosses, shift, land, staying, leaving, insert, insert_each, members_next, arrivals, move_tile, delivered_by, raised, move}
use Rattle.floor.specs.Reasons.{reason_tests, ahead_of, reason_of, missing_of}
use Rattle.floor.specs.Calls.{refusal_of, answer, fresh_tile, fresh_floor, fresh_answer, book_tests, booked, book_answer, stop_tests, stopped, stop_answer, repair_tests, repaired, repair_answer, keep_tests, running_set, kept_under, keep_answer, name_held_tests, forgotten, forget_answer, recall_tile, recalled, recall_answer, after_round, delivered, delivery_of, report_of, zero_report, round_answer, read_tests, read_answer}
use Rattle.floor.specs.Anywhere.{least_from, least, clear, lowest_a_of, lowest_b_of, place_b, place_a, anywhere_tests, placed_at, anywhere_answer}
use Rattle.floor.specs.Reports.{listed_at}
use Rattle.floor.specs.Bound.{crossing, bound}
use Rattle.floor.specs.Live.{reached, connected, connected_count}

-- ---- the calls: the floor of an accepted answer; a refused one counts as the all-zero floor, on which every reading is 30
unfoldable pub got : Answer → Floor
got r = cond (eqb r.refusal 0) r.floor zero_floor

-- "U 100, l 30, r 10", travel v, "every tile but the hopper a fill tile": a set of hoppers
unfoldable pub several : ℕ → ℕ → ℕ → ℕ → Settings
several W H hoppers v = record { columns = W; rows = H; hoppers = hoppers; sources = 2 ^ (W * H) - 1 - hoppers; width = 100; length = 30; gap = 10; travel = v }

-- one hopper
unfoldable pub settings : ℕ → ℕ → ℕ → ℕ → Settings
settings W H hopper v = several W H (2 ^ hopper) v

unfoldable pub fresh : ℕ → ℕ → ℕ → Floor
fresh W H hopper = got (fresh_answer (settings W H hopper 20))

unfoldable pub can : ℕ → ℕ → ℕ → Canister
can number a b = record { number = number; a = a; b = b }

-- canister number n at (a, b) on tile t
unfoldable pub book : ℕ → ℕ → ℕ → ℕ → Floor → Floor
book n a b t f = got (book_answer f t (can n a b))

unfoldable pub stop : ℕ → Floor → Floor
stop t f = got (stop_answer f t)

unfoldable pub repair : ℕ → Floor → Floor
repair t f = got (repair_answer f t)

-- the name with these letters, zero filled
unfoldable pub named : List ℕ → ℕ
named l = name_number (take 8 (l ++ replicate 8 0))

unfoldable pub keeps : ℕ → Floor → Floor
keeps name f = got (keep_answer f name)

-- n rounds
unfoldable pub rounds : ℕ → Floor → Floor
rounds zero f = f
rounds (suc n) f = let r = round_answer f in let g = cond (eqb r.refusal 0) r.floor zero_floor in rounds n g

-- ---- what is compared
unfoldable pub flat : List Canister → List ℕ
flat [] = []
flat (c ∷ l) = c.number ∷ c.a ∷ c.b ∷ flat l

-- number, a and b of each canister on tile t
unfoldable pub on : ℕ → Floor → List ℕ
on t f = let r = read_answer f t in r.refusal ∷ flat (take r.tile.count r.members)

-- all that a reading, or tile t, has: running, distance, arrow, turn; number, a and b of each canister
unfoldable pub has : Reading → List ℕ
has r = r.refusal ∷ r.tile.running ∷ r.tile.distance ∷ r.tile.next.code ∷ r.tile.token.code ∷ flat (take r.tile.count r.members)

unfoldable pub tile : ℕ → Floor → List ℕ
tile t f = has (read_answer f t)

-- the distances of the tiles below n, after the total of the refusals
unfoldable pub distances : ℕ → Floor → List ℕ
distances n f = let l = tab n (read_answer f) in sum (map (λ r. r.refusal) l) ∷ map (λ r. r.tile.distance) l

unfoldable pub next : ℕ → Floor → List ℕ
next t f = let r = read_answer f t in r.refusal ∷ r.tile.next.code ∷ []

unfoldable pub turn : ℕ → Floor → List ℕ
turn t f = let r = read_answer f t in r.refusal ∷ r.tile.token.code ∷ []

-- what the next round reports: the numbers delivered to hopper k, and to the only one; the grant of tile t
unfoldable pub reported_to : ℕ → Floor → List ℕ
reported_to k f = let r = round_answer f in r.refusal ∷ listed_at r.report k

unfoldable pub reported : Floor → List ℕ
reported f = reported_to 0 f

unfoldable pub grant : ℕ → Floor → List ℕ
grant t f = let r = round_answer f in r.refusal ∷ get_or r.report.grants t 0 ∷ []

-- the reasons of the tiles below n, then the millimetres missing
unfoldable pub why : ℕ → Floor → List ℕ
why n f = let r = round_answer f in r.refusal ∷ take n r.report.reasons ++ take n r.report.missing

-- K, the canisters on tiles with a live path; the bound (C - 1) × (1 + K × M)
unfoldable pub live_count : Floor → ℕ
live_count f = let m = view f in connected_count m (runs_of_of m)

unfoldable pub bound_of : Floor → ℕ
bound_of f = bound f.settings (live_count f)

-- last, booked and delivered to each of four hoppers
unfoldable pub counts : Counters → List ℕ
counts c = c.last ∷ c.booked ∷ c.delivered

-- those of a floor, after the refusal of reading it
unfoldable pub counted : Floor → List ℕ
counted f = (read_answer f 0).refusal ∷ counts f.counters

-- ---- whole floors, field by field
unfoldable pub set_up_lem : Settings → List ℕ
set_up_lem s = s.columns ∷ s.rows ∷ s.hoppers ∷ s.sources ∷ s.width ∷ s.length ∷ s.gap ∷ s.travel ∷ []

unfoldable pub heads : List Tile → List ℕ
heads [] = []
heads (h ∷ l) = h.running ∷ h.distance ∷ h.next.code ∷ h.token.code ∷ h.count ∷ heads l

unfoldable pub layout_numbers : List Layout → List ℕ
layout_numbers [] = []
layout_numbers (x ∷ l) = x.name ∷ x.set ∷ layout_numbers l

-- the layouts of a floor, each its name and its set
unfoldable pub layouts_read_lem : Floor → List ℕ
layouts_read_lem f = (read_answer f 0).refusal ∷ layout_numbers (view f).layouts

-- all of a floor of n tiles: what each has, its counters, its layouts
unfoldable pub whole : ℕ → Floor → List ℕ
whole n f = join (map has (tab n (read_answer f))) ++ (counts f.counters ++ layout_numbers (view f).layouts)

unfoldable pub same_floor_lem : Floor → Floor → Bool
same_floor_lem f g =
    same (set_up_lem f.settings) (set_up_lem g.settings) && (same (counts f.counters) (counts g.counters)
    && (same (heads f.tiles) (heads g.tiles) && (same (flat f.canisters) (flat g.canisters) && same (layout_numbers f.layouts) (layout_numbers g.layouts))))

-- the refusal, then 1 where the answer's floor is f
unfoldable pub refused : Answer → Floor → List ℕ
refused r f = r.refusal ∷ cond (same_floor_lem r.floor f) 1 0 ∷ []

-- likewise of a round on f, then 1 where its report is zeros
unfoldable pub refused_round : Floor → List ℕ
refused_round f =
    let r = round_answer f in
    r.refusal ∷ cond (same_floor_lem r.floor f) 1 0 ∷ cond (same (join (map (λ d. d.count ∷ d.numbers) r.report.deliveries) ++ r.report.grants ++ r.report.reasons ++ r.report.missing) (replicate 212 0)) 1 0 ∷ []

-- of a reading: the refusal, then 1 where the tile and its sixteen places are zeros
unfoldable pub refused_reading : Reading → List ℕ
refused_reading r = r.refusal ∷ cond (same (heads (r.tile ∷ []) ++ flat r.members) (replicate 53 0)) 1 0 ∷ []

-- ---- a table: each row is what the answers give, then what is due
abbrev pub Table : Type 0
Table = List (List ℕ × List ℕ)

unfoldable pub holds : Table → Bool
unfolding got several settings fresh can book stop repair named keeps rounds flat on has tile distances next turn listed_at reported_to reported grant why counts counted same set_up_lem heads layout_numbers layouts_read_lem whole same_floor_lem refused refused_round refused_reading
    tab cat all_of any_of pairs_of all_below filter first_of sum bit bits_below join refusal
    sides opposite after following chosen is_hopper hoppers_of settings_tests settings_refusal settings_pass neighbour numbers_on
    name_number letters is_letter spelled name_ok layout_ok layouts_sound set_below name_held set_of keep_in forget_in
    zero_floor state_of used_layouts view head places rows layout_places build pack is_zero_canister is_zero_tile head_fits tile_fits tiles_fit state_fits is_zero_layout layouts_fit fits
    hopper_sound running_sound stopped_sound faces head_sound inside apart in_order members_sound tile_sound numbers_sound counters_sound state_sound sound well_formed
    nearer nearest lies_at kept onward heading_of route_tile route requests lack missing signal_with signal_by signal_tile shown_of signal_of signal
    way_of crosses shift land staying leaving insert insert_each members_next arrivals move_tile delivered_by raised move reason_tests ahead_of reason_of missing_of
    refusal_of answer fresh_tile fresh_floor fresh_answer book_tests booked book_answer least_from least clear lowest_a_of lowest_b_of place_b place_a anywhere_tests placed_at anywhere_answer stop_tests stopped stop_answer repair_tests repaired repair_answer
    keep_tests running_set kept_under keep_answer name_held_tests forgotten forget_answer recall_tile recalled recall_answer
    after_round delivered delivery_of report_of zero_report round_answer read_tests read_answer crossing bound reached connected connected_count live_count bound_of
holds table = all_of (λ r. same r.0 r.1) table
