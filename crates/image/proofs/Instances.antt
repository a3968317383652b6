-- What is promised of images on concrete floors and bytes, every promise by its name.
use mathlib.Core.Path.{◌≡◌, refl, ap, ◌∙◌}
use mathlib.Core.Logic.{◌≢◌}
use mathlib.Core.Bool.{true, false}
use mathlib.Core.List.{List, [], ◌∷◌, ◌++◌}
use Prim.Native.Nat.{ℕ, ◌≤◌, ◌<◌}
use native.Mathlib.Omega.{arith}
use lib.Dec.{ltb, eqb}
use borrow.Author.Tests.{ltb-true, eqb-true}
use lib.ListN.{length, set, take, drop, replicate}
use Rattle.laws.specs.Define.{all_of}
use Rattle.laws.proofs.Tests.{and_left, and_right, not_both}
use Rattle.laws.proofs.Lists.{same}
use Rattle.image_bytes.specs.Bytes.{Bytes}
use Rattle.floor.specs.declared.Floor.{Floor}
use Rattle.floor.specs.declared.Answer.{Answer}
use Rattle.floor.specs.Settings.{total}
use Rattle.floor.specs.Memory.{view, pack, zero_floor}
use Rattle.floor.specs.Well.{well_formed}
use Rattle.floor.specs.Calls.{fresh_floor}
use Rattle.floor.proofs.Calling.{named, keeps}
use Rattle.image.specs.Image.{one_tile, encode, rest_in_of, tiles_in, is_layout, model_in, fault, standard, load_answer, write_answer, written}
use Rattle.image.specs.Promises.{image_without, fault_without, image_before, FloorImage, LoadedBytes}
use Rattle.image.proofs.Theorem.{images}
use Rattle.image.proofs.Trials.{shows, blank, pair, good, pair_bytes}

-- ---- what the tests tell
pub same_lists : (xs ys : List ℕ) → same xs ys ≡ true → xs ≡ ys
unfolding same
same_lists [] [] h = refl
same_lists [] (y ∷ ys) h = not_both h refl
same_lists (x ∷ xs) [] h = not_both h refl
same_lists (x ∷ xs) (y ∷ ys) h = rw (eqb-true x y (and_left (eqb x y) (same xs ys) h), same_lists xs ys (and_right (eqb x y) (same xs ys) h))

pub are_bytes : (xs : List ℕ) → all_of (λ x. ltb x 256) xs ≡ true → Bytes xs
unfolding all_of
are_bytes [] h = tt
are_bytes (x ∷ xs) h = (ltb-true x 256 (and_left (ltb x 256) _ h), are_bytes xs (and_right (ltb x 256) _ h))

-- ---- the fresh W 2 floor that keeps AB: its image of 84 bytes has a layout
unfoldable kept : Floor
kept = keeps (named (65 ∷ 66 ∷ [])) blank

unfoldable kept_bytes_lem : List ℕ
kept_bytes_lem = take 40 good ++ ((16 ∷ 0 ∷ 5 ∷ 0 ∷ 65 ∷ 66 ∷ replicate 6 0) ++ ((3 ∷ replicate 7 0) ++ drop 40 good))

kept_well : well_formed kept ≡ true
unfolding shows blank kept
kept_well = refl

kept_same : same (encode (view kept)) kept_bytes_lem ≡ true
unfolding shows blank good kept kept_bytes_lem
kept_same = refl

kept_image : encode (view kept) ≡ kept_bytes_lem
kept_image = same_lists (encode (view kept)) kept_bytes_lem kept_same

kept_bytes : Bytes kept_bytes_lem
unfolding all_of good kept_bytes_lem
kept_bytes = are_bytes kept_bytes_lem refl

kept_long : length kept_bytes_lem ≡ 84
unfolding good kept_bytes_lem
kept_long = refl

kept_accepted : (load_answer kept_bytes_lem).refusal ≡ 0
unfolding shows good kept_bytes_lem
kept_accepted = refl

-- what is due of bytes that end too early or too late
abbrev ninth : Answer
ninth = record { refusal = 9; floor = zero_floor }

abbrev floor_image : FloorImage kept
floor_image = images.floors kept kept_well

kept_loads : load_answer kept_bytes_lem ≡ record { refusal = 0; floor = kept }
kept_loads = rw kept_image at floor_image.loads

kept_from_buffer : (buffer : List ℕ) → 84 ≤ length buffer → load_answer (take (write_answer kept (length buffer)).length (written kept buffer)) ≡ record { refusal = 0; floor = kept }
kept_from_buffer buffer h = floor_image.from_buffer buffer (rw (kept_image, kept_long) h)

kept_most : length (encode (view kept)) ≤ 8908
kept_most = floor_image.most

-- of 1 to 83 bytes
kept_prefixes : (n : ℕ) → 0 < n → n < 84 → load_answer (take n kept_bytes_lem) ≡ ninth
kept_prefixes n z h = rw kept_image at (floor_image.prefixes n z (rw (kept_image, kept_long) h))

kept_extensions : (y : ℕ) (ys : List ℕ) → load_answer (kept_bytes_lem ++ (y ∷ ys)) ≡ ninth
kept_extensions y ys = rw kept_image at (floor_image.extensions y ys)

-- ---- without layouts: two hoppers and a canister; one hopper, tile 1
pair_well : well_formed pair ≡ true
unfolding shows pair
pair_well = refl

pair_same : same (encode (view pair)) pair_bytes ≡ true
unfolding shows pair pair_bytes
pair_same = refl

pair_none : (view pair).layouts ≡ []
unfolding shows pair
pair_none = refl

pair_without : (pair_bytes ≡ image_without (view pair)) × (load_answer (image_without (view pair)) ≡ record { refusal = 0; floor = pair })
pair_without = rw (same_lists (encode (view pair)) pair_bytes pair_same) at ((images.floors pair pair_well).without pair_none)

blank_well : well_formed blank ≡ true
unfolding shows blank
blank_well = refl

blank_same : same (encode (view blank)) good ≡ true
unfolding shows blank good
blank_same = refl

blank_one : (view blank).settings.hoppers ≡ one_tile 1
unfolding shows blank
blank_one = refl

blank_none : (view blank).layouts ≡ []
unfolding shows blank
blank_none = refl

pub good_image : encode (view blank) ≡ good
good_image = same_lists (encode (view blank)) good blank_same

blank_before : (good ≡ image_before 1 (view blank)) × (load_answer (image_before 1 (view blank)) ≡ record { refusal = 0; floor = blank })
blank_before = rw good_image at ((images.floors blank blank_well).before 1 blank_one blank_none)

-- more bytes after the image of that floor
pub good_extensions : (y : ℕ) (ys : List ℕ) → load_answer (good ++ (y ∷ ys)) ≡ ninth
good_extensions y ys = rw good_image at ((images.floors blank blank_well).extensions y ys)

-- ---- bytes that are loaded: an image with a layout, and none at all
abbrev loaded_bytes : LoadedBytes kept_bytes_lem
loaded_bytes = images.images kept_bytes_lem kept_bytes

kept_loaded_well : well_formed (load_answer kept_bytes_lem).floor ≡ true
kept_loaded_well = loaded_bytes.well kept_accepted

kept_again : encode (view (load_answer kept_bytes_lem).floor) ≡ kept_bytes_lem
kept_again = loaded_bytes.again (rw kept_long (omega arith)) kept_accepted

kept_to_buffer : (buffer : List ℕ) → 84 ≤ length buffer
    → (write_answer (load_answer kept_bytes_lem).floor (length buffer) ≡ record { refusal = 0; length = 84 }) × (written (load_answer kept_bytes_lem).floor buffer ≡ kept_bytes_lem ++ drop 84 buffer)
kept_to_buffer buffer h = rw kept_long at (loaded_bytes.to_buffer (rw kept_long (omega arith)) kept_accepted buffer (rw kept_long h))

-- it comes back
kept_only : ¬ (encode (view (load_answer kept_bytes_lem).floor) ≢ kept_bytes_lem)
kept_only n = absurd (omega (arith, kept_long, ap length (loaded_bytes.only_empty kept_accepted n)))

one_byte : (x : ℕ) → x < 256 → load_answer (x ∷ []) ≡ ninth
one_byte x h = (images.images (x ∷ []) (h, tt)).few (omega arith) (omega arith)

three_bytes : load_answer (20 ∷ 0 ∷ 1 ∷ []) ≡ ninth
three_bytes = (images.images (20 ∷ 0 ∷ 1 ∷ []) (omega arith, (omega arith, (omega arith, tt)))).few (omega arith) (omega arith)

-- without records of kind 5: a good image, and one with kind 4 where kind 3 is due
abbrev Older : List ℕ → ℕ → Type 0
Older xs k = (k ≡ fault_without xs) × (((model_in xs).tiles ≡ tiles_in 2 (rest_in_of (rest_in_of xs))) × ((model_in xs).layouts ≡ []))

unfoldable tileless : List ℕ
tileless = set good 42 4

older : (xs : List ℕ) (k : ℕ) → Bytes xs → is_layout (rest_in_of (rest_in_of xs)) ≡ false → fault xs ≡ k → total (model_in xs).settings ≡ 2 → Older xs k
older xs k b e f t = rw (f, t) at ((images.images xs b).older e)

good_test : (is_layout (rest_in_of (rest_in_of good)) ≡ false) × ((fault good ≡ 0) × (total (model_in good).settings ≡ 2))
unfolding shows good
good_test = (refl, (refl, refl))

pub good_bytes : Bytes good
unfolding all_of good
good_bytes = are_bytes good refl

good_older : Older good 0
good_older = older good 0 good_bytes good_test.0 good_test.1.0 good_test.1.1

tileless_test : (is_layout (rest_in_of (rest_in_of tileless)) ≡ false) × ((fault tileless ≡ 10) × (total (model_in tileless).settings ≡ 2))
unfolding shows good tileless
tileless_test = (refl, (refl, refl))

tileless_bytes : Bytes tileless
unfolding all_of good tileless
tileless_bytes = are_bytes tileless refl

tileless_older : Older tileless 10
tileless_older = older tileless 10 tileless_bytes tileless_test.0 tileless_test.1.0 tileless_test.1.1

-- ---- the blank controller
blank_loads : load_answer [] ≡ record { refusal = 0; floor = pack (fresh_floor (record { columns = 4; rows = 4; hoppers = 1024; sources = 16; width = 1000; length = 250; gap = 50; travel = 200 })) }
unfolding standard
blank_loads = images.blank ∙ images.blank_fresh

blank_accepted : (load_answer []).refusal ≡ 0
blank_accepted = ap (λ (r : Answer). r.refusal) blank_loads

blank_loaded_well : well_formed (load_answer []).floor ≡ true
blank_loaded_well = (images.images [] tt).well blank_accepted

blank_lost : encode (view (load_answer []).floor) ≢ []
blank_lost = images.blank_lost

blank_only : ◌≡◌ {A = List ℕ} [] []
blank_only = (images.images [] tt).only_empty blank_accepted blank_lost

-- a value that no floor has, and a buffer of the image's length
zero_written : 0 < length (encode (view zero_floor))
zero_written = images.never_empty (view zero_floor)

kept_written : (write_answer kept 84).refusal ≡ 0
unfolding shows blank kept
kept_written = refl

kept_some : 0 < (write_answer kept 84).length
kept_some = images.written_some kept 84 kept_written
