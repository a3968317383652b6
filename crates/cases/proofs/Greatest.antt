-- The greatest bound: "at most 63 × (1 + 1,008 × 59,999)". A well-formed floor of 8 × 8 tiles, every tile but the hopper full, answers that; by `at_most` of the theorem `within_bound` none answers more.
use mathlib.Core.Path.{◌≡◌, refl, sym, ap, ◌∙◌, subst}
use mathlib.Core.Logic.{◌≢◌}
use mathlib.Core.Bool.{Bool, true, false, cond, not}
use mathlib.Core.List.{List, []}
use Prim.Native.Nat.{ℕ, ◌+◌, ◌-◌, ◌*◌, ◌/◌, ◌%◌, ◌^◌, ◌≤◌}
use lib.Dec.{eqb}
use lib.ListN.{length, get_or, replicate}
use Rattle.laws.specs.Define.{tab, cat, all_of, any_of, pairs_of, all_below, sum, bit, bits_below, refusal}
use Rattle.laws.proofs.Tests.{and_true, r_ne, r_pairs}
use Rattle.floor.specs.declared.Canister.{Canister}
use Rattle.floor.specs.declared.Settings.{Settings}
use Rattle.floor.specs.declared.Floor.{Floor}
use Rattle.floor.specs.Sides.{sides}
use Rattle.floor.specs.Settings.{is_hopper, hoppers_of, settings_tests, settings_refusal, settings_pass}
use Rattle.floor.specs.Grid.{neighbour}
use Rattle.floor.specs.Layouts.{layouts_sound}
use Rattle.floor.specs.Model.{TileState, Model, runs_of_of, members_of, numbers, numbers_on}
use Rattle.floor.specs.Memory.{head, pack}
use Rattle.floor.specs.Well.{hopper_sound, running_sound, faces, head_sound, inside, apart, in_order, members_sound, tile_sound, numbers_sound, counters_sound, state_sound, sound, well_formed}
use Rattle.floor.specs.Bound.{crossing, bound}
use Rattle.floor.specs.Live.{reached, connected, connected_count}
use Rattle.floor.specs.Demand3.{floor_after}
use Rattle.floor.proofs.Well.{sound_fact}
use Rattle.floor.proofs.Capacity.{view_packed, well_pack}
use Rattle.floor.proofs.CallsByValue.{Shows}
use Rattle.bound.specs.declared.Bounded.{Bounded}
use Rattle.bound.specs.Answer.{numbers_where, unconnected_numbers, bound_answer}
use Rattle.bound.proofs.Within.{within_bound}
use Rattle.bound.proofs.Samples.{bound_by, shows_bound}
use Rattle.cases.proofs.Longest.{rises, rises_differ}

-- ---- the floor: tile 0 the hopper; U 60,000, l 2, v 1, so M is 59,999; d 15,000, four places along each axis
unfoldable pub settings : Settings
settings = record { columns = 8; rows = 8; hoppers = 1; sources = 2 ^ 64 - 2; width = 60000; length = 2; gap = 14998; travel = 1 }

-- canister k of tile t; the numbers are 1 to 1008, from tile 63 down to tile 1
unfoldable pub canister : ℕ → ℕ → Canister
canister t k = record { number = 16 * (63 - t) + k + 1; a = 15000 * (k % 4); b = 15000 * (k / 4) }

unfoldable pub tile : ℕ → TileState
tile t = record { running = 1; distance = cond (eqb t 0) 0 255; next = 0; token = 0; members = cond (eqb t 0) [] (tab 16 (canister t)) }

unfoldable pub greatest : Model
greatest =
    let ts = tab 64 tile in
    record { settings = settings; counters = record { last = 1008; booked = 1008; delivered = replicate 4 0 }; tiles = ts; layouts = [] }

-- ---- it is well formed: computed, but for the pairs of numbers
greatest_rises : rises 0 (numbers_on greatest) ≡ true
unfolding settings canister tile greatest rises tab cat numbers_on
greatest_rises = refl

greatest_differ : pairs_of (λ x y. not (eqb x y)) (numbers_on greatest) ≡ true
greatest_differ = (r_pairs (λ x y. not (eqb x y)) (λ x y. x ≢ y) r_ne (numbers_on greatest)).1 (rises_differ 0 (numbers_on greatest) greatest_rises)

greatest_sound : sound greatest ≡ true
unfolding settings canister tile greatest tab cat all_of pairs_of all_below any_of sum bit bits_below refusal is_hopper hoppers_of settings_tests settings_refusal settings_pass numbers_on head
    hopper_sound running_sound faces head_sound inside apart in_order members_sound tile_sound numbers_sound counters_sound state_sound layouts_sound sound
greatest_sound = and_true (and_true refl (and_true refl (and_true refl (and_true (and_true refl greatest_differ) refl)))) refl

-- ---- every tile has a live path
all_reached : reached settings (runs_of_of greatest) 63 ≡ replicate 64 true
unfolding settings tile greatest tab any_of bit sides is_hopper neighbour reached
all_reached = refl

abbrev run : ℕ → Bool
run = runs_of_of greatest

K-is : connected_count greatest run ≡ 1008
unfolding settings canister tile greatest tab cat connected connected_count
K-is = ap (λ (l : List Bool). length (cat 64 (λ t. cond (get_or l t false) (members_of greatest t) []))) all_reached

none_left : length (unconnected_numbers greatest run) ≡ 0
unfolding settings canister tile greatest tab cat connected numbers_where unconnected_numbers
none_left = ap (λ (l : List Bool). length (cat 64 (λ t. cond (not (get_or l t false)) (numbers (members_of greatest t)) []))) all_reached

-- ---- its answer
greatest_well : well_formed (pack greatest) ≡ true
greatest_well = well_pack greatest greatest_sound

greatest_shows : Shows (pack greatest) greatest
greatest_shows = record { well = greatest_well; value = view_packed greatest ((sound_fact greatest).0 greatest_sound) }

pub greatest_answer : bound_answer (pack greatest) ≡ record { rounds = 63 * (1 + 1008 * 59999); connected = 1008; unconnected = 0; refusal = 0 }
unfolding settings greatest bound_by bound crossing
greatest_answer = shows_bound (pack greatest) greatest greatest_shows ∙ (λ i. record { rounds = 63 * (1 + K-is i * 59999); connected = K-is i; unconnected = none_left i; refusal = 0 })

-- no floor answers more
pub greatest_bound : (f : Floor) → well_formed f ≡ true → (bound_answer f).rounds ≤ (bound_answer (pack greatest)).rounds
unfolding floor_after
greatest_bound f w = subst (λ (r : Bounded). (bound_answer f).rounds ≤ r.rounds) (sym greatest_answer) (within_bound f w [] tt).at_most
