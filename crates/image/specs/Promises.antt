-- What is promised of images. `ImagePromises` is the whole type of the theorem `images`.
use Rattle.std.specs.Prelude.{◌≡◌, ◌≢◌, true, false, List, [], ◌∷◌, ◌++◌, ℕ, ◌≤◌, ◌<◌, length, take, drop, get_or}
use Rattle.image_bytes.specs.Bytes.{Bytes, bytes_of}
use Rattle.floor.specs.declared.Settings.{Settings}
use Rattle.floor.specs.declared.Counters.{Counters}
use Rattle.floor.specs.declared.Floor.{Floor}
use Rattle.floor.specs.Settings.{total}
use Rattle.floor.specs.Model.{Model}
use Rattle.floor.specs.Memory.{view, pack, zero_floor}
use Rattle.floor.specs.Well.{well_formed}
use Rattle.floor.specs.Calls.{fresh_floor, fresh_answer}
use Rattle.image.specs.Image.{one_tile, hopper_count, record_of, settings_body, counters_body, tiles_bytes, encode, length_in, body_in, rest_in_of, settings_in, tiles_in, is_layout, model_in, record_fault, or_else, tiles_fault, fault, standard, load_answer, write_answer, written}

-- ---- the image as it was before layouts, and before several hoppers
unfoldable pub image_without : Model → List ℕ
image_without m = record_of 1 (settings_body m.settings) ++ (record_of 2 (counters_body (hopper_count m.settings) m.counters) ++ tiles_bytes 0 m.tiles)

unfoldable pub fault_without : List ℕ → ℕ
fault_without xs =
    let s = settings_in (length_in xs) (body_in xs) in
    or_else (record_fault 1 0 xs)
    (or_else (record_fault 2 (hopper_count s) (rest_in_of xs))
    (tiles_fault (total s) 0 (rest_in_of (rest_in_of xs))))

-- "Kind 1, 20 bytes: W, H, hopper, a zero byte; U, l, r, v (2 each); fill set (8)."
abbrev pub settings_before : ℕ → Settings → List ℕ
settings_before h s = bytes_of (1 ∷ 1 ∷ 1 ∷ 1 ∷ 2 ∷ 2 ∷ 2 ∷ 2 ∷ 8 ∷ []) (s.columns ∷ s.rows ∷ h ∷ 0 ∷ s.width ∷ s.length ∷ s.gap ∷ s.travel ∷ s.sources ∷ [])

-- "Kind 2, 12 bytes: last, booked, delivered."
abbrev pub counters_before : Counters → List ℕ
counters_before c = bytes_of (4 ∷ 4 ∷ 4 ∷ []) (c.last ∷ c.booked ∷ get_or c.delivered 0 0 ∷ [])

abbrev pub image_before : ℕ → Model → List ℕ
image_before h m = record_of 1 (settings_before h m.settings) ++ (record_of 2 (counters_before m.counters) ++ tiles_bytes 0 m.tiles)

-- ---- the image of a well-formed floor
pub record FloorImage (f : Floor) : Type 0 where
  -- demand 2: "Images read back to the floor written"; from a buffer too
  pub loads : load_answer (encode (view f)) ≡ record { refusal = 0; floor = f }
  pub from_buffer : (buffer : List ℕ) → length (encode (view f)) ≤ length buffer → load_answer (take (write_answer f (length buffer)).length (written f buffer)) ≡ record { refusal = 0; floor = f }
  -- "The longest image is 8,908 bytes.": none is longer; that one is so long is `longest_reached` in crates/cases
  pub most : length (encode (view f)) ≤ 8908
  -- "9. Image ends within a record or with its end record missing, or has bytes after its end record."
  pub prefixes : (n : ℕ) → 0 < n → n < length (encode (view f)) → load_answer (take n (encode (view f))) ≡ record { refusal = 9; floor = zero_floor }
  pub extensions : (y : ℕ) (ys : List ℕ) → load_answer (encode (view f) ++ (y ∷ ys)) ≡ record { refusal = 9; floor = zero_floor }
  -- without layouts it is as it was; "With one hopper, images keep their bytes."
  pub without : (view f).layouts ≡ [] → (encode (view f) ≡ image_without (view f)) × (load_answer (image_without (view f)) ≡ record { refusal = 0; floor = f })
  pub before : (h : ℕ) → (view f).settings.hoppers ≡ one_tile h → (view f).layouts ≡ [] → (encode (view f) ≡ image_before h (view f)) × (load_answer (image_before h (view f)) ≡ record { refusal = 0; floor = f })

-- ---- any bytes
pub record LoadedBytes (xs : List ℕ) : Type 0 where
  pub well : (load_answer xs).refusal ≡ 0 → well_formed (load_answer xs).floor ≡ true
  -- "An accepted image, written again, gives the same bytes."
  pub again : 0 < length xs → (load_answer xs).refusal ≡ 0 → encode (view (load_answer xs).floor) ≡ xs
  pub to_buffer : 0 < length xs → (load_answer xs).refusal ≡ 0 → (buffer : List ℕ) → length xs ≤ length buffer
      → (write_answer (load_answer xs).floor (length buffer) ≡ record { refusal = 0; length = length xs }) × (written (load_answer xs).floor buffer ≡ xs ++ drop (length xs) buffer)
  -- "the one accepted image that doesn't come back"
  pub only_empty : (load_answer xs).refusal ≡ 0 → encode (view (load_answer xs).floor) ≢ xs → xs ≡ []
  -- "One byte is still 9."; two and three are too
  pub few : 0 < length xs → length xs < 4 → load_answer xs ≡ record { refusal = 9; floor = zero_floor }
  -- "Older images read as having no layouts."
  pub older : is_layout (rest_in_of (rest_in_of xs)) ≡ false → (fault xs ≡ fault_without xs) × (((model_in xs).tiles ≡ tiles_in (total (model_in xs).settings) (rest_in_of (rest_in_of xs))) × ((model_in xs).layouts ≡ []))

pub record ImagePromises : Type 0 where
  pub floors : (f : Floor) → well_formed f ≡ true → FloorImage f
  pub images : (xs : List ℕ) → Bytes xs → LoadedBytes xs
  -- "Zero bytes now load the standard floor, fresh"
  pub blank : load_answer [] ≡ fresh_answer standard
  pub blank_fresh : fresh_answer standard ≡ record { refusal = 0; floor = pack (fresh_floor standard) }
  -- "Writing never yields an empty image"
  pub never_empty : (m : Model) → 0 < length (encode m)
  pub written_some : (f : Floor) (n : ℕ) → (write_answer f n).refusal ≡ 0 → 0 < (write_answer f n).length
  -- "the one accepted image that doesn't come back"; that no other is so is LoadedBytes.only-empty
  pub blank_lost : encode (view (load_answer []).floor) ≢ []
