-- "The longest image is 8,908 bytes": a well-formed floor has an image of that length, and by `most` of the theorem `images` none is longer.
use mathlib.Core.Path.{◌≡◌, refl, sym, subst}
use mathlib.Core.Logic.{◌≢◌}
use mathlib.Core.Bool.{Bool, true, cond, not, ◌&&◌}
use mathlib.Core.List.{List, [], ◌∷◌}
use Prim.Native.Nat.{ℕ, ◌+◌, ◌-◌, ◌*◌, ◌/◌, ◌%◌, ◌^◌, ◌≤◌, ◌<◌}
use native.Mathlib.Omega.{arith}
use lib.Dec.{ltb, eqb}
use lib.ListN.{length, replicate}
use borrow.Author.Tests.{ltb-true}
use Rattle.laws.specs.Define.{tab, cat, all_of, any_of, pairs_of, all_below, sum, bit, bits_below, refusal}
use Rattle.laws.specs.Every.{All, Pairs}
use Rattle.laws.proofs.Tests.{and_left, and_right, and_true, r_ne, r_pairs}
use Rattle.laws.proofs.Lists.{all_imp}
use Rattle.floor.specs.declared.Canister.{Canister}
use Rattle.floor.specs.declared.Settings.{Settings}
use Rattle.floor.specs.declared.Layout.{Layout}
use Rattle.floor.specs.declared.Floor.{Floor}
use Rattle.floor.specs.Settings.{is_hopper, hoppers_of, settings_tests, settings_refusal, settings_pass}
use Rattle.floor.specs.Layouts.{letters, is_letter, spelled, name_ok, layout_ok, layouts_sound}
use Rattle.floor.specs.Model.{TileState, Model, numbers_on}
use Rattle.floor.specs.Memory.{view, head, pack}
use Rattle.floor.specs.Well.{hopper_sound, running_sound, faces, head_sound, inside, apart, in_order, members_sound, tile_sound, numbers_sound, counters_sound, state_sound, sound, well_formed}
use Rattle.floor.proofs.Well.{sound_fact}
use Rattle.floor.proofs.Capacity.{view_packed, well_pack}
use Rattle.image.specs.Image.{several, encode}
use Rattle.image.proofs.Sizes.{tile_size_lem, encode_size}
use Rattle.image.proofs.Theorem.{images}

-- ---- the floor: 8 x 8 tiles, tile 0 the hopper
-- d = 30 and (100 - 10) div 30 = 3: four places along each axis
unfoldable pub settings : Settings
settings = record { columns = 8; rows = 8; hoppers = 1; sources = 2 ^ 64 - 2; width = 100; length = 10; gap = 20; travel = 9 }

-- canister k of tile t; the numbers are 1 to 1008, from tile 63 down to tile 1
unfoldable pub canister : ℕ → ℕ → Canister
canister t k = record { number = 16 * (63 - t) + k + 1; a = 30 * (k % 4); b = 30 * (k / 4) }

-- sixteen canisters on each tile but the hopper
unfoldable pub tile : ℕ → TileState
tile t = record { running = 1; distance = cond (eqb t 0) 0 255; next = 0; token = 0; members = cond (eqb t 0) [] (tab 16 (canister t)) }

-- A to H, each with every tile
unfoldable pub layout : ℕ → Layout
layout k = record { name = (65 + k) * 2 ^ 56; set = 2 ^ 64 - 1 }

unfoldable pub longest : Model
longest =
    let ts = tab 64 tile in
    let ls = tab 8 layout in
    record { settings = settings; counters = record { last = 1008; booked = 1008; delivered = replicate 4 0 }; tiles = ts; layouts = ls }

-- ---- rising numbers differ
-- the first number is above n, each other one above the one before it
unfoldable pub rises : ℕ → List ℕ → Bool
rises n [] = true
rises n (x ∷ l) = ltb n x && rises x l

rises_above : (n : ℕ) (l : List ℕ) → rises n l ≡ true → All (λ x. n < x) l
unfolding rises
rises_above n [] h = tt
rises_above n (x ∷ l) h =
    let p : n < x = ltb-true n x (and_left (ltb n x) (rises x l) h) in
    (p, all_imp (λ y. x < y) (λ y. n < y) l (λ y q. omega arith) (rises_above x l (and_right (ltb n x) (rises x l) h)))

pub rises_differ : (n : ℕ) (l : List ℕ) → rises n l ≡ true → Pairs (λ x y. x ≢ y) l
unfolding rises
rises_differ n [] h = tt
rises_differ n (x ∷ l) h =
    let r : rises x l ≡ true = and_right (ltb n x) (rises x l) h in
    (all_imp (λ y. x < y) (λ y. x ≢ y) l (λ y q. omega arith) (rises_above x l r), rises_differ x l r)

-- ---- it is well formed: computed, but for the pairs of numbers
longest_rises : rises 0 (numbers_on longest) ≡ true
unfolding settings canister tile longest rises tab cat numbers_on
longest_rises = refl

longest_differ : pairs_of (λ x y. not (eqb x y)) (numbers_on longest) ≡ true
longest_differ = (r_pairs (λ x y. not (eqb x y)) (λ x y. x ≢ y) r_ne (numbers_on longest)).1 (rises_differ 0 (numbers_on longest) longest_rises)

longest_sound : sound longest ≡ true
unfolding settings canister tile layout longest tab cat all_of pairs_of all_below any_of sum bit bits_below refusal is_hopper hoppers_of settings_tests settings_refusal settings_pass numbers_on head
    hopper_sound running_sound faces head_sound inside apart in_order members_sound tile_sound numbers_sound counters_sound state_sound letters is_letter spelled name_ok layout_ok layouts_sound sound
longest_sound = and_true (and_true refl (and_true refl (and_true refl (and_true (and_true refl longest_differ) refl)))) refl

pub longest_well : well_formed (pack longest) ≡ true
longest_well = well_pack longest longest_sound

-- ---- the length of its image
pub longest_reached : length (encode (view (pack longest))) ≡ 8908
unfolding settings tile layout longest tab sum tile_size_lem several hoppers_of bits_below bit
longest_reached = rw (view_packed longest ((sound_fact longest).0 longest_sound)) (encode_size longest)

-- the greatest length of an image is that of this one
pub longest_image : (length (encode (view (pack longest))) ≡ 8908) × ((f : Floor) → well_formed f ≡ true → length (encode (view f)) ≤ length (encode (view (pack longest))))
longest_image = (longest_reached, λ f w. subst (λ (n : ℕ). length (encode (view f)) ≤ n) (sym longest_reached) (images.floors f w).most)
