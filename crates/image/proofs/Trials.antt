-- Trials of the image: one table, one proof. Each row is a test that must pass.
use mathlib.Core.Path.{◌≡◌, refl}
use mathlib.Core.Bool.{Bool, true, cond}
use mathlib.Core.List.{List, [], ◌∷◌, ◌++◌}
use Prim.Native.Nat.{ℕ, ◌+◌}
use lib.Dec.{eqb}
use lib.ListN.{length, set, take, drop, replicate}
use Rattle.laws.specs.Define.{tab, all_of, join}
use Rattle.laws.proofs.Lists.{same}
use Rattle.image_bytes.specs.Bytes.{le, bytes, fields_of, bytes_of}
use Rattle.floor.specs.declared.Floor.{Floor}
use Rattle.floor.specs.Memory.{zero_floor, view}
use Rattle.floor.specs.Calls.{fresh_answer}
use Rattle.floor.proofs.Calling.{got, several, fresh, book, rounds, same_floor_lem, holds}
use Rattle.image.specs.Image.{lowest, one_tile, several as isSeveral, byte_wrong, record_of, settings_body, counters_body, canisters_body, tile_body, layout_body, layouts_bytes, tiles_bytes, front_bytes, encode, settings_in, counters_in, canister_in, canisters_in, tile_in, tiles_in, layout_in, is_layout, layouts_in, after_layouts, model_in, settings_faults, counters_faults, tile_faults, layout_faults, end_faults, own_faults, record_fault, end_fault, tiles_fault, layouts_fault, front_fault, fault, answer_by, image_refusal, image_answer, standard, load_answer, write_refusal, write_answer, written}

-- what loading and writing compute: a table's line names this alone
unfoldable pub shows : List ℕ → ℕ → Bool
unfolding holds le bytes fields_of bytes_of
    lowest one_tile isSeveral byte_wrong record_of settings_body counters_body canisters_body tile_body layout_body layouts_bytes tiles_bytes front_bytes encode
    settings_in counters_in canister_in canisters_in tile_in tiles_in layout_in is_layout layouts_in after_layouts model_in
    settings_faults counters_faults tile_faults layout_faults end_faults own_faults record_fault end_fault tiles_fault layouts_fault front_fault fault answer_by image_refusal image_answer standard load_answer write_refusal write_answer written
shows xs k = eqb (load_answer xs).refusal k

-- ---- the floors
-- "a fresh floor, H 1, U 100, l 30, r 10, v 20, every tile but the hopper a fill tile"; W 2, hopper 1
unfoldable pub blank : Floor
blank = fresh 2 1 1

-- with canister 5 at (70, 7) on tile 0
unfoldable one : Floor
one = book 5 70 7 0 blank

-- W 3, hopper 0, after a round in which tile 1 delivered 4 and took in 9: last 9, booked 2, delivered 1; tile 1 has arrow west, turn east, canister 9 at (70, 5)
unfoldable moved : Floor
moved = rounds 1 (book 9 13 5 2 (book 4 0 7 1 (rounds 2 (fresh 3 1 0))))

-- W 4, hoppers 0 and 3, after a round: 4 and 8 delivered to hopper 0, 10 to hopper 3, and 9 on tile 2 at (33, 5)
unfoldable pub pair : Floor
pair = rounds 1 (book 10 70 50 2 (book 9 13 5 2 (book 8 0 40 1 (book 4 0 0 1 (got (fresh_answer (several 4 1 9 20)))))))

-- ---- the bytes
unfoldable pub good : List ℕ
good =
    20 ∷ 0 ∷ 1 ∷ 0
    ∷ 2 ∷ 1 ∷ 1 ∷ 0 ∷ 100 ∷ 0 ∷ 30 ∷ 0 ∷ 10 ∷ 0 ∷ 20 ∷ 0 ∷ 1 ∷ 0 ∷ 0 ∷ 0 ∷ 0 ∷ 0 ∷ 0 ∷ 0
    ∷ 12 ∷ 0 ∷ 2 ∷ 0
    ∷ 0 ∷ 0 ∷ 0 ∷ 0 ∷ 0 ∷ 0 ∷ 0 ∷ 0 ∷ 0 ∷ 0 ∷ 0 ∷ 0
    ∷ 6 ∷ 0 ∷ 3 ∷ 0 ∷ 0 ∷ 1 ∷ 255 ∷ 0 ∷ 0 ∷ 0
    ∷ 6 ∷ 0 ∷ 3 ∷ 0 ∷ 1 ∷ 1 ∷ 0 ∷ 0 ∷ 0 ∷ 0
    ∷ 0 ∷ 0 ∷ 4 ∷ 0 ∷ []

unfoldable moved_bytes : List ℕ
moved_bytes =
    20 ∷ 0 ∷ 1 ∷ 0
    ∷ 3 ∷ 1 ∷ 0 ∷ 0 ∷ 100 ∷ 0 ∷ 30 ∷ 0 ∷ 10 ∷ 0 ∷ 20 ∷ 0 ∷ 6 ∷ 0 ∷ 0 ∷ 0 ∷ 0 ∷ 0 ∷ 0 ∷ 0
    ∷ 12 ∷ 0 ∷ 2 ∷ 0
    ∷ 9 ∷ 0 ∷ 0 ∷ 0 ∷ 2 ∷ 0 ∷ 0 ∷ 0 ∷ 1 ∷ 0 ∷ 0 ∷ 0
    ∷ 6 ∷ 0 ∷ 3 ∷ 0 ∷ 0 ∷ 1 ∷ 0 ∷ 0 ∷ 4 ∷ 0
    ∷ 14 ∷ 0 ∷ 3 ∷ 0 ∷ 1 ∷ 1 ∷ 1 ∷ 1 ∷ 4 ∷ 1 ∷ 9 ∷ 0 ∷ 0 ∷ 0 ∷ 70 ∷ 0 ∷ 5 ∷ 0
    ∷ 6 ∷ 0 ∷ 3 ∷ 0 ∷ 2 ∷ 1 ∷ 2 ∷ 1 ∷ 0 ∷ 0
    ∷ 0 ∷ 0 ∷ 4 ∷ 0 ∷ []

unfoldable pub pair_bytes : List ℕ
pair_bytes =
    28 ∷ 0 ∷ 1 ∷ 0
    ∷ 4 ∷ 1 ∷ 0 ∷ 0 ∷ 100 ∷ 0 ∷ 30 ∷ 0 ∷ 10 ∷ 0 ∷ 20 ∷ 0 ∷ 6 ∷ 0 ∷ 0 ∷ 0 ∷ 0 ∷ 0 ∷ 0 ∷ 0 ∷ 9 ∷ 0 ∷ 0 ∷ 0 ∷ 0 ∷ 0 ∷ 0 ∷ 0
    ∷ 16 ∷ 0 ∷ 2 ∷ 0
    ∷ 10 ∷ 0 ∷ 0 ∷ 0 ∷ 4 ∷ 0 ∷ 0 ∷ 0 ∷ 2 ∷ 0 ∷ 0 ∷ 0 ∷ 1 ∷ 0 ∷ 0 ∷ 0
    ∷ 6 ∷ 0 ∷ 3 ∷ 0 ∷ 0 ∷ 1 ∷ 0 ∷ 0 ∷ 4 ∷ 0
    ∷ 6 ∷ 0 ∷ 3 ∷ 0 ∷ 1 ∷ 1 ∷ 1 ∷ 1 ∷ 0 ∷ 0
    ∷ 14 ∷ 0 ∷ 3 ∷ 0 ∷ 2 ∷ 1 ∷ 1 ∷ 4 ∷ 0 ∷ 1 ∷ 9 ∷ 0 ∷ 0 ∷ 0 ∷ 33 ∷ 0 ∷ 5 ∷ 0
    ∷ 6 ∷ 0 ∷ 3 ∷ 0 ∷ 3 ∷ 1 ∷ 0 ∷ 0 ∷ 1 ∷ 0
    ∷ 0 ∷ 0 ∷ 4 ∷ 0 ∷ []

-- W 4, H 4, hopper 10, fill tile 4, U 1,000, l 250, r 50, v 200, fresh
unfoldable standard_bytes : List ℕ
standard_bytes =
    (20 ∷ 0 ∷ 1 ∷ 0
    ∷ 4 ∷ 4 ∷ 10 ∷ 0 ∷ 232 ∷ 3 ∷ 250 ∷ 0 ∷ 50 ∷ 0 ∷ 200 ∷ 0 ∷ 16 ∷ 0 ∷ 0 ∷ 0 ∷ 0 ∷ 0 ∷ 0 ∷ 0
    ∷ 12 ∷ 0 ∷ 2 ∷ 0
    ∷ replicate 12 0)
    ++ join (tab 16 (λ t. 6 ∷ 0 ∷ 3 ∷ 0 ∷ t ∷ 1 ∷ cond (eqb t 10) 0 255 ∷ 0 ∷ 0 ∷ 0 ∷ []))
    ++ (0 ∷ 0 ∷ 4 ∷ 0 ∷ [])

-- with hopper byte h, and byte k of the hopper set made x; on 4 × 4 too, without fill tiles
unfoldable hoppers : ℕ → ℕ → ℕ → List ℕ
hoppers h k x = set (set pair_bytes 6 h) (24 + k) x

unfoldable larger : ℕ → ℕ → ℕ → List ℕ
larger h k x = set (set (hoppers h k x) 5 4) 16 0

-- with a second record of n bytes, zeros
unfoldable counters : ℕ → List ℕ
counters n = take 32 pair_bytes ++ (n ∷ 0 ∷ 2 ∷ 0 ∷ replicate n 0) ++ drop 52 pair_bytes

-- byte k made x
unfoldable with : ℕ → ℕ → List ℕ
with k x = set good k x

-- ---- the table
unfoldable table : List Bool
table =
    -- "The fresh W 2 floor has an image of 64 bytes"; "Zero bytes now load the standard floor, fresh"; "One byte is still 9."
    same (encode (view blank)) good
    ∷ eqb (length good) 64
    ∷ shows good 0
    ∷ shows [] 0
    ∷ same (encode (view (load_answer []).floor)) standard_bytes
    ∷ same_floor_lem (load_answer standard_bytes).floor (load_answer []).floor
    ∷ shows (0 ∷ []) 9
    ∷ shows (take 1 good) 9
    ∷ shows (take 2 good) 9
    -- an image with a canister
    ∷ eqb (length (encode (view one))) 72
    ∷ shows (encode (view one)) 0
    ∷ same (encode (view (load_answer (encode (view one))).floor)) (encode (view one))
    -- every field of every record in its place, written and read
    ∷ same (encode (view moved)) moved_bytes
    ∷ shows moved_bytes 0
    ∷ same_floor_lem (load_answer moved_bytes).floor moved
    -- the same with two hoppers
    ∷ same (encode (view pair)) pair_bytes
    ∷ shows pair_bytes 0
    ∷ same_floor_lem (load_answer pair_bytes).floor pair
    ∷ shows (take 31 pair_bytes) 9
    ∷ shows (take 103 pair_bytes) 9
    ∷ shows (pair_bytes ++ (0 ∷ [])) 9
    -- 11: a length between the two, the zero byte, the hopper byte not the lowest of the set, on the floor or not
    ∷ shows (set pair_bytes 0 24) 11
    ∷ shows (set pair_bytes 7 1) 11
    ∷ shows (hoppers 3 0 9) 11
    ∷ shows (set (hoppers 3 0 9) 4 9) 11
    ∷ shows (hoppers 0 0 8) 11
    ∷ shows (hoppers 5 0 1) 11
    ∷ shows (set (larger 7 0 0) 29 1) 11
    -- 2: no hopper, whatever the byte; one; one and another off the floor; five
    ∷ shows (hoppers 77 0 0) 2
    ∷ shows (set (hoppers 77 0 0) 4 9) 1
    ∷ shows (hoppers 3 0 8) 2
    ∷ shows (hoppers 0 0 1) 2
    ∷ shows (hoppers 0 0 17) 2
    ∷ shows (set (larger 40 0 0) 29 1) 2
    ∷ shows (larger 0 0 31) 2
    -- 2: a fill bit for the second hopper; 1 before 2, 2 before 3
    ∷ shows (set pair_bytes 16 14) 2
    ∷ shows (set (hoppers 3 0 8) 4 9) 1
    ∷ shows (set (hoppers 3 0 8) 8 1) 2
    ∷ shows (set pair_bytes 8 1) 3
    -- 11: a counter too few or too many, with two hoppers and with one
    ∷ shows (counters 12) 11
    ∷ shows (counters 20) 11
    ∷ shows (take 24 good ++ (16 ∷ 0 ∷ 2 ∷ 0 ∷ replicate 16 0) ++ drop 40 good) 11
    -- 9: the end within a record, the end record missing, a byte left over, a length beyond the end
    ∷ shows (take 3 good) 9
    ∷ shows (take 63 good) 9
    ∷ shows (take 60 good) 9
    ∷ shows (good ++ (0 ∷ [])) 9
    ∷ shows (with 1 255) 9
    -- 10: another kind than the one due
    ∷ shows (with 2 2) 10
    ∷ shows (with 26 3) 10
    ∷ shows (with 42 4) 10
    ∷ shows (with 62 3) 10
    -- 11: a wrong length, the zero byte, the tile byte, n
    ∷ shows (with 0 19) 11
    ∷ shows (with 24 11) 11
    ∷ shows (with 7 1) 11
    ∷ shows (with 44 1) 11
    ∷ shows (with 49 17) 11
    ∷ shows (with 49 1) 11
    -- 11: an end record with a body, a tile record of five bytes
    ∷ shows (with 60 1 ++ (0 ∷ [])) 11
    ∷ shows (take 40 good ++ (5 ∷ 0 ∷ 3 ∷ 0 ∷ 0 ∷ 1 ∷ 255 ∷ 0 ∷ 0 ∷ drop 50 good)) 11
    -- 1, 2, 3 of record 1, before any fault of a later record
    ∷ shows (with 4 0) 1
    ∷ shows (with 4 9) 1
    ∷ shows (with 6 2) 2
    ∷ shows (with 16 2) 2
    ∷ shows (with 14 30) 3
    ∷ shows (take 24 (with 14 30)) 3
    -- 12: running 2, arrow 5, distance 200; but 9 where the end is missing as well
    ∷ shows (with 45 2) 12
    ∷ shows (with 47 5) 12
    ∷ shows (with 46 200) 12
    ∷ shows (take 60 (with 45 2)) 9
    -- two faults at once: 9 before 10, 10 before 11, 11 before 1 within a record; a byte left over before 12; a later 11 before 12
    ∷ shows (take 23 (with 2 2)) 9
    ∷ shows (set (with 2 2) 0 19) 10
    ∷ shows (set (with 7 1) 4 0) 11
    ∷ shows (with 45 2 ++ (0 ∷ [])) 9
    ∷ shows (set (with 45 2) 54 0) 11
    -- writing: 30, also where 13 would hold; 13; the length; the bytes after it
    ∷ eqb (write_answer zero_floor 100).refusal 30
    ∷ eqb (write_answer zero_floor 0).refusal 30
    ∷ eqb (write_answer blank 63).refusal 13
    ∷ eqb (write_answer blank 63).length 0
    ∷ eqb (write_answer blank 66).length 64
    ∷ same (written blank (replicate 66 9)) (good ++ (9 ∷ 9 ∷ []))
    ∷ same (written blank (replicate 63 9)) (replicate 63 9)
    ∷ []

trials : all_of (λ b. b) table ≡ true
unfolding shows blank one moved pair good moved_bytes pair_bytes standard_bytes hoppers larger counters with table
trials = refl
