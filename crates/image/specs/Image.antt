-- The image of a floor: what is written, what is read, and the refusals of loading and of writing.
use Rattle.std.specs.Prelude.{Bool, true, cond, not, ◌&&◌, ◌||◌, List, [], ◌∷◌, ◌++◌, ℕ, zero, suc, ◌+◌, ◌*◌, ◌^◌, leb, ltb, eqb, length, get_or, take, drop, replicate}
use Rattle.laws.specs.Define.{tab, all_of, bits_below, refusal}
use Rattle.image_bytes.specs.Bytes.{le, bytes, bytes_of, field}
use Rattle.floor.specs.declared.Canister.{Canister}
use Rattle.floor.specs.declared.Settings.{Settings}
use Rattle.floor.specs.declared.Counters.{Counters}
use Rattle.floor.specs.declared.Layout.{Layout}
use Rattle.floor.specs.declared.Floor.{Floor}
use Rattle.floor.specs.declared.Answer.{Answer}
use Rattle.floor.specs.Settings.{total, hoppers_of, size_tests, set_tests, measure_tests}
use Rattle.floor.specs.Layouts.{name_number, letters}
use Rattle.floor.specs.Model.{TileState, Model}
use Rattle.floor.specs.Memory.{view, pack, zero_floor}
use Rattle.floor.specs.Well.{sound}
use Rattle.floor.specs.Calls.{refusal_of, fresh_answer}
use Rattle.image.specs.declared.Written.{Written}

-- ---- the fields of each record: the bytes of each, and its value
-- "Kind 1, 20 bytes: W, H, hopper, a zero byte; U, l, r, v (2 each); fill set (8)." "With more, kind 1 has 28 bytes, the hopper set last". By place: 0 W, 1 H, 2 hopper byte, 3 zero byte, 4 U, 5 l, 6 r, 7 v, 8 fill set, 9 hopper set
abbrev pub settings_widths : Bool → List ℕ
settings_widths more = 1 ∷ 1 ∷ 1 ∷ 1 ∷ 2 ∷ 2 ∷ 2 ∷ 2 ∷ 8 ∷ cond more (8 ∷ []) []

-- the lowest tile of a set, 64 where it is empty
unfoldable pub lowest : ℕ → ℕ
lowest x = get_or (bits_below x 64) 0 64

-- the set of one tile; a byte that is no tile's number gives the empty set
unfoldable pub one_tile : ℕ → ℕ
one_tile h = cond (ltb h 64) (2 ^ h) 0

-- how many hoppers, and whether there are several
abbrev pub hopper_count : Settings → ℕ
hopper_count s = length (hoppers_of s)

unfoldable pub several : Settings → Bool
several s = ltb 1 (hopper_count s)

-- "the hopper byte the lowest of them"
abbrev pub settings_values : Settings → List ℕ
settings_values s =
    s.columns ∷ s.rows ∷ lowest s.hoppers ∷ 0 ∷ s.width ∷ s.length ∷ s.gap ∷ s.travel ∷ s.sources
    ∷ cond (several s) (s.hoppers ∷ []) []

-- "Kind 2, 12 bytes: last, booked, delivered."; "one delivered counter for each hopper in tile order": h hoppers
abbrev pub counters_widths : ℕ → List ℕ
counters_widths h = 4 ∷ 4 ∷ replicate h 4

abbrev pub counters_values : ℕ → Counters → List ℕ
counters_values h c = c.last ∷ c.booked ∷ tab h (λ k. get_or c.delivered k 0)

-- "Kind 3 …: tile, running (1 or 0), distance (255 none), arrow, turn, n (at most 16)", by place from 0 on
abbrev pub tile_widths : List ℕ
tile_widths = 1 ∷ 1 ∷ 1 ∷ 1 ∷ 1 ∷ 1 ∷ []

abbrev pub tile_values : ℕ → TileState → List ℕ
tile_values t x = t ∷ x.running ∷ x.distance ∷ x.next ∷ x.token ∷ length x.members ∷ []

-- "then number (4), a (2), b (2) for each canister"
abbrev pub canister_widths : List ℕ
canister_widths = 4 ∷ 2 ∷ 2 ∷ []

abbrev pub canister_values : Canister → List ℕ
canister_values c = c.number ∷ c.a ∷ c.b ∷ []

-- ---- writing
-- "Records: length of body (2 bytes), kind (2 bytes), body; little-endian."
unfoldable pub record_of : ℕ → List ℕ → List ℕ
record_of kind body = bytes 2 (length body) ++ (bytes 2 kind ++ body)

unfoldable pub settings_body : Settings → List ℕ
settings_body s = bytes_of (settings_widths (several s)) (settings_values s)

unfoldable pub counters_body : ℕ → Counters → List ℕ
counters_body h c = bytes_of (counters_widths h) (counters_values h c)

unfoldable pub canisters_body : List Canister → List ℕ
canisters_body [] = []
canisters_body (c ∷ l) = bytes_of canister_widths (canister_values c) ++ canisters_body l

-- "6 + 8n bytes"
unfoldable pub tile_body : ℕ → TileState → List ℕ
tile_body t x = bytes_of tile_widths (tile_values t x) ++ canisters_body x.members

-- "name (8 bytes, zero filled), set (8)": the first letter first
unfoldable pub layout_body : Layout → List ℕ
layout_body x = letters 8 x.name ++ bytes 8 x.set

-- "kind 5 records between kinds 2 and 3, by rising name"
unfoldable pub layouts_bytes : List Layout → List ℕ
layouts_bytes [] = []
layouts_bytes (x ∷ l) = record_of 5 (layout_body x) ++ layouts_bytes l

-- "Kind 3, once for each tile in order"; "Kind 4, 0 bytes: end."
unfoldable pub tiles_bytes : ℕ → List TileState → List ℕ
tiles_bytes t [] = record_of 4 []
tiles_bytes t (x ∷ l) = record_of 3 (tile_body t x) ++ tiles_bytes (suc t) l

-- the front of an image: the records of kinds 1, 2 and 5
unfoldable pub front_bytes : Settings → Counters → List Layout → List ℕ
front_bytes s c l = record_of 1 (settings_body s) ++ (record_of 2 (counters_body (hopper_count s) c) ++ layouts_bytes l)

-- the image of a floor
unfoldable pub encode : Model → List ℕ
encode m = front_bytes m.settings m.counters m.layouts ++ tiles_bytes 0 m.tiles

-- ---- reading: the record at the front of the bytes that are left, and what is left after it
abbrev pub length_in : List ℕ → ℕ
length_in xs = le 2 xs

abbrev pub kind_in : List ℕ → ℕ
kind_in xs = le 2 (drop 2 xs)

abbrev pub body_in : List ℕ → List ℕ
body_in xs = drop 4 xs

abbrev pub rest_in_of : List ℕ → List ℕ
rest_in_of xs = drop (4 + length_in xs) xs

-- the values of a body b of n bytes; each byte is kept as it stands, whatever it means
unfoldable pub settings_in : ℕ → List ℕ → Settings
settings_in n b =
    let at : ℕ → ℕ = λ k. field (settings_widths (eqb n 28)) k b in
    record { columns = at 0; rows = at 1; hoppers = cond (eqb n 28) (at 9) (one_tile (at 2)); sources = at 8; width = at 4; length = at 5; gap = at 6; travel = at 7 }

-- of h counters; those beyond are zero
unfoldable pub counters_in : ℕ → List ℕ → Counters
counters_in h b =
    let at : ℕ → ℕ = λ k. field (counters_widths h) k b in
    record { last = at 0; booked = at 1; delivered = tab 4 (λ k. at (2 + k)) }

unfoldable pub canister_in : List ℕ → Canister
canister_in b = record { number = field canister_widths 0 b; a = field canister_widths 1 b; b = field canister_widths 2 b }

unfoldable pub canisters_in : ℕ → List ℕ → List Canister
canisters_in zero b = []
canisters_in (suc n) b = canister_in b ∷ canisters_in n (drop 8 b)

unfoldable pub tile_in : List ℕ → TileState
tile_in b =
    let at : ℕ → ℕ = λ k. field tile_widths k b in
    record { running = at 1; distance = at 2; next = at 3; token = at 4; members = canisters_in (at 5) (drop 6 b) }

unfoldable pub tiles_in : ℕ → List ℕ → List TileState
tiles_in zero xs = []
tiles_in (suc n) xs = tile_in (body_in xs) ∷ tiles_in n (rest_in_of xs)

unfoldable pub layout_in : List ℕ → Layout
layout_in b = record { name = name_number (take 8 b); set = le 8 (drop 8 b) }

-- whether a record of kind 5 stands here, as far as its first four bytes tell
unfoldable pub is_layout : List ℕ → Bool
is_layout xs = leb 4 (length xs) && eqb (kind_in xs) 5

-- the layouts of at most n such records, and the bytes after these
unfoldable pub layouts_in : ℕ → List ℕ → List Layout
layouts_in zero xs = []
layouts_in (suc n) xs = let r = layouts_in n (rest_in_of xs) in cond (is_layout xs) (layout_in (body_in xs) ∷ r) []

unfoldable pub after_layouts : ℕ → List ℕ → List ℕ
after_layouts zero xs = xs
after_layouts (suc n) xs = let r = after_layouts n (rest_in_of xs) in cond (is_layout xs) r xs

-- the floor that the bytes hold; "Older images read as having no layouts."
unfoldable pub model_in : List ℕ → Model
model_in xs =
    let s = settings_in (length_in xs) (body_in xs) in
    let ys = rest_in_of (rest_in_of xs) in
    record { settings = s; counters = counters_in (hopper_count s) (body_in (rest_in_of xs)); tiles = tiles_in (total s) (after_layouts 8 ys); layouts = layouts_in 8 ys }

-- ---- the refusals of a record's own: n is the length of its body b, t the tile that is due
-- "the hopper byte the lowest of them (else 11; not tested for an empty set)"
unfoldable pub byte_wrong : ℕ → List ℕ → Bool
byte_wrong n b =
    let x = field (settings_widths true) 9 b in
    eqb n 28 && (not (eqb x 0) && not (eqb (field (settings_widths true) 2 b) (lowest x)))

-- "11. Wrong record length, or a fixed byte wrong", "then 1 to 3"; among 2: the hopper set "(2 unless it has two to four tiles of the floor)"
unfoldable pub settings_faults : ℕ → List ℕ → List (Bool × ℕ)
settings_faults n b =
    let s = settings_in n b in
    (not (eqb n 20 || eqb n 28), 11) ∷ (not (eqb (field (settings_widths (eqb n 28)) 3 b) 0), 11) ∷ (byte_wrong n b, 11)
    ∷ size_tests s ((eqb n 28 && ltb (hopper_count s) 2, 2) ∷ set_tests s (measure_tests s))

-- h hoppers
unfoldable pub counters_faults : ℕ → ℕ → List (Bool × ℕ)
counters_faults h n = (not (eqb n (8 + 4 * h)), 11) ∷ []

-- "11 (n above 16 and a wrong tile byte included)"
unfoldable pub tile_faults : ℕ → ℕ → List ℕ → List (Bool × ℕ)
tile_faults t n b =
    (ltb n 6, 11) ∷ (not (eqb (field tile_widths 0 b) t), 11) ∷ (ltb 16 (field tile_widths 5 b), 11)
    ∷ (not (eqb n (6 + 8 * field tile_widths 5 b)), 11) ∷ []

-- the length alone: what is wrong in name or set is 12
unfoldable pub layout_faults : ℕ → List (Bool × ℕ)
layout_faults n = (not (eqb n 16), 11) ∷ []

unfoldable pub end_faults : ℕ → List (Bool × ℕ)
end_faults n = (not (eqb n 0), 11) ∷ []

-- the kind that is due decides which tests are a record's own; t is the tile that is due and, for kind 2, the number of hoppers
unfoldable pub own_faults : ℕ → ℕ → ℕ → List ℕ → List (Bool × ℕ)
own_faults due t n b =
    cond (eqb due 1) (settings_faults n b) (cond (eqb due 2) (counters_faults t n) (cond (eqb due 3) (tile_faults t n b) (cond (eqb due 5) (layout_faults n) (end_faults n))))

-- "within a record 9, 10, 11 …, then 1 to 3"; "9. Image ends within a record"; "10. Record of another kind than the one due."
unfoldable pub record_fault : ℕ → ℕ → List ℕ → ℕ
record_fault due t xs = refusal ((ltb (length xs) (4 + length_in xs), 9) ∷ (not (eqb (kind_in xs) due), 10) ∷ own_faults due t (length_in xs) (body_in xs))

-- ---- loading
-- "First fault in reading order": this one, or else the first after it; 0 where there is none
abbrev pub or_else : ℕ → ℕ → ℕ
or_else k later = cond (eqb k 0) later k

-- "with its end record missing, or has bytes after its end record"; "Then bytes left over (9)"
unfoldable pub end_fault : List ℕ → ℕ
end_fault xs = or_else (record_fault 4 0 xs) (refusal ((ltb (4 + length_in xs) (length xs), 9) ∷ []))

-- n tiles from tile t on, then the end
unfoldable pub tiles_fault : ℕ → ℕ → List ℕ → ℕ
tiles_fault zero t xs = end_fault xs
tiles_fault (suc n) t xs = or_else (record_fault 3 t xs) (tiles_fault n (suc t) (rest_in_of xs))

-- at most n records of kind 5; "a ninth such record is 10", as kind 3 is due then
unfoldable pub layouts_fault : ℕ → List ℕ → ℕ
layouts_fault zero xs = 0
layouts_fault (suc n) xs = let r = or_else (record_fault 5 0 xs) (layouts_fault n (rest_in_of xs)) in cond (is_layout xs) r 0

-- the first fault of the front
unfoldable pub front_fault : List ℕ → ℕ
front_fault xs =
    let s = settings_in (length_in xs) (body_in xs) in
    or_else (record_fault 1 0 xs)
    (or_else (record_fault 2 (hopper_count s) (rest_in_of xs))
    (layouts_fault 8 (rest_in_of (rest_in_of xs))))

-- the first fault of an image: of the front, then of the tiles and the end
unfoldable pub fault : List ℕ → ℕ
fault xs =
    let s = settings_in (length_in xs) (body_in xs) in
    or_else (front_fault xs) (tiles_fault (total s) 0 (after_layouts 8 (rest_in_of (rest_in_of xs))))

-- the number n, and a floor where it is 0: "A refused load … gives the all-zero floor"
unfoldable pub answer_by : ℕ → Model → Answer
answer_by n m = record { refusal = n; floor = cond (eqb n 0) (pack m) zero_floor }

-- "then 12": "Image complete, floor not well formed."; "Bad, unsorted or repeated names, a stopped hopper or a bit for no tile are 12"
unfoldable pub image_refusal : List ℕ → ℕ
image_refusal xs = or_else (fault xs) (refusal ((not (sound (model_in xs)), 12) ∷ []))

-- what bytes answer as records
unfoldable pub image_answer : List ℕ → Answer
image_answer xs = answer_by (image_refusal xs) (model_in xs)

-- "W 4, H 4, hopper 10, fill tile 4, U 1,000, l 250, r 50, v 200"
unfoldable pub standard : Settings
standard = record { columns = 4; rows = 4; hoppers = 2 ^ 10; sources = 2 ^ 4; width = 1000; length = 250; gap = 50; travel = 200 }

-- "Zero bytes now load the standard floor, fresh"; "One byte is still 9."
unfoldable pub load_answer : List ℕ → Answer
load_answer [] = fresh_answer standard
load_answer (x ∷ xs) = image_answer (x ∷ xs)

-- ---- the same in the two steps of the code: the records are read, then the floor that they gave is judged in memory, and is 12 where it is not well formed (`load_12` and `load_other` of proofs/Promises)
-- In memory a layout of sixteen zero bytes is an unused place, and the second step could not tell. So the first step answers 12 for a layout without a name; every other 12 comes from the second.
unfoldable pub all_named : Model → Bool
all_named m = all_of (λ x. ltb 0 x.name) m.layouts

unfoldable pub records_refusal : List ℕ → ℕ
records_refusal xs = or_else (fault xs) (refusal ((not (all_named (model_in xs)), 12) ∷ []))

unfoldable pub records_answer : List ℕ → Answer
records_answer xs = answer_by (records_refusal xs) (model_in xs)

-- ---- writing into a buffer
-- "Writing: 30, 13."; "13. Buffer shorter than the image to write."
unfoldable pub write_refusal : Floor → ℕ → ℕ
write_refusal f n = refusal_of f ((ltb n (length (encode (view f))), 13) ∷ [])

-- "Writing answers the image's length"; n is the buffer's
unfoldable pub write_answer : Floor → ℕ → Written
write_answer f n = let k = write_refusal f n in record { refusal = k; length = cond (eqb k 0) (length (encode (view f))) 0 }

-- the buffer afterwards: "leaves the buffer's bytes after it"; refused, "untouched buffers"
unfoldable pub written : Floor → List ℕ → List ℕ
written f buffer = let bs = encode (view f) in cond (eqb (write_refusal f (length buffer)) 0) (bs ++ drop (length bs) buffer) buffer
