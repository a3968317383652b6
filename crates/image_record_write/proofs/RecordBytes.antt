-- Laws of the records: how long their parts are, each as it is put, and the turn of the loop over a tile's canisters.
use mathlib.Core.Path.{◌≡◌, refl, sym, ap, ◌∙◌}
use mathlib.Core.Bool.{true, false}
use mathlib.Core.List.{List, [], ◌∷◌, ◌++◌, append_assoc, append-nil}
use Prim.Native.Nat.{ℕ, zero, suc, ◌+◌, ◌*◌, ◌/◌, ◌≤◌, ◌<◌}
use native.Mathlib.Omega.{arith}
use native.Mathlib.Numerals.{add-one}
use lib.ListN.{length, take, drop, get_or, replicate, length-append, length-drop, length-replicate}
use lib.Seq.{length-take-le, take-suc, get_or-drop}
use Rattle.std.specs.Int.{w64, to_be_bytes}
use Rattle.image_bytes.specs.Bytes.{bytes, bytes_of}
use Rattle.image_bytes.proofs.ByteLaws.{bytes_length, row_length}
use Rattle.laws.specs.Define.{tab}
use Rattle.laws.proofs.Tables.{tab_length}
use Rattle.image_bytes.specs.InternalPut.{put}
use Rattle.image_bytes.proofs.PutLaws.{put_two}
use Rattle.floor.specs.declared.Canister.{Canister}
use Rattle.floor.specs.declared.Settings.{Settings}
use Rattle.floor.specs.declared.Counters.{Counters}
use Rattle.floor.specs.declared.Tile.{Tile}
use Rattle.floor.specs.declared.Layout.{Layout}
use Rattle.floor.specs.Layouts.{letters}
use Rattle.floor.specs.Memory.{state_from}
use Rattle.image.specs.Image.{lowest, several, record_of, settings_body, counters_body, canisters_body, tile_body, layout_body}
use Rattle.image.proofs.Sizes.{fours, settings_size, counters_size, canister_size, canisters_size, tile_size, layout_size}
use Rattle.image_record_write.specs.InternalParts.{canister_bytes, measures_bytes, head_bytes, tile_bytes}

-- ---- lengths
pub pair_length : (x y : ℕ) → length (bytes 2 x ++ bytes 2 y) ≡ 4
pair_length x y = rw (length-append, bytes_length 2 x, bytes_length 2 y)

pub three_length : (n x y z : ℕ) → length (bytes n x ++ (bytes n y ++ bytes n z)) ≡ n + (n + n)
three_length n x y z = rw (length-append, bytes_length n x, length-append, bytes_length n y, bytes_length n z)

pub tile_length : (t : ℕ) (h : Tile) → length (tile_bytes t h) ≡ 10
unfolding tile_bytes
tile_length t h = rw (length-append, pair_length (6 + 8 * h.count) 3, length-append, three_length 1 t h.running h.distance, three_length 1 h.next.code h.token.code h.count)

-- ---- records 1 and 2, and a canister, as they are put
pub measures_length : (x : Settings) → length (measures_bytes x) ≡ 16
measures_length x = rw (length-append, pair_length x.width x.length, length-append, pair_length x.gap x.travel, bytes_length 8 x.sources)

pub head_length : (x : Settings) (n : ℕ) → length (head_bytes x n) ≡ 24
unfolding head_bytes
head_length x n = rw (length-append, pair_length n 1, length-append, three_length 1 x.columns x.rows (lowest x.hoppers), length-append, bytes_length 1 0, measures_length x)

pub settings_more : (x : Settings) → several x ≡ true → head_bytes x 28 ++ bytes 8 x.hoppers ≡ record_of 1 (settings_body x)
unfolding record_of head_bytes settings_body bytes_of
settings_more x e = rw (settings_size x, e) (simp (append_assoc, append-nil))

pub settings_one : (x : Settings) → several x ≡ false → head_bytes x 20 ≡ record_of 1 (settings_body x)
unfolding record_of head_bytes settings_body bytes_of
settings_one x e = rw (settings_size x, e) (simp (append_assoc, append-nil))

-- the counters of the first k hoppers
abbrev pub count_bytes : ℕ → List ℕ → List ℕ
count_bytes k ds = bytes_of (replicate k 4) (tab k (λ j. get_or ds j 0))

row_more : (k : ℕ) (f : ℕ → ℕ) → bytes_of (replicate (suc k) 4) (tab (suc k) f) ≡ bytes_of (replicate k 4) (tab k f) ++ bytes 4 (f k)
unfolding bytes_of tab
row_more zero f = append-nil (bytes 4 (f 0))
row_more (suc k) f = ap (λ (l : List ℕ). bytes 4 (f 0) ++ l) (row_more k (λ j. f (suc j))) ∙ sym (append_assoc (bytes 4 (f 0)) (bytes_of (replicate k 4) (tab k (λ j. f (suc j)))) (bytes 4 (f (suc k))))

pub count_length : (k : ℕ) (ds : List ℕ) → length (count_bytes k ds) ≡ 4 * k
count_length k ds = row_length (replicate k 4) (tab k (λ j. get_or ds j 0)) (tab_length k (λ j. get_or ds j 0) ∙ sym (length-replicate {A = ℕ} k 4)) ∙ fours k

pub count_turn : (s₀ s s' : List ℕ) (at k : ℕ) (ds : List ℕ) → at + 4 * k + 4 ≤ length s₀ → s ≡ put s₀ at (count_bytes k ds) → s' ≡ put s (at + 4 * k) (bytes 4 (get_or ds k 0)) → s' ≡ put s₀ at (count_bytes (k + 1) ds)
count_turn s₀ s s' at k ds r p q =
    let n = count_length k ds in
    let b = bytes_length 4 (get_or ds k 0) in
    rw (add-one, row_more k (λ j. get_or ds j 0)) (put_two s₀ s s' at (at + 4 * k) (count_bytes k ds) (bytes 4 (get_or ds k 0)) (omega arith) (omega arith) p q)

pub top_length : (n x y : ℕ) → length ((bytes 2 n ++ bytes 2 2) ++ (bytes 4 x ++ bytes 4 y)) ≡ 12
top_length n x y = rw (length-append, pair_length n 2, length-append, bytes_length 4 x, bytes_length 4 y)

pub counters_record : (h : ℕ) (x : Counters) → ((bytes 2 (8 + 4 * h) ++ bytes 2 2) ++ (bytes 4 x.last ++ bytes 4 x.booked)) ++ count_bytes h x.delivered ≡ record_of 2 (counters_body h x)
unfolding record_of counters_body bytes_of
counters_record h x = rw (counters_size h x) (simp append_assoc)

pub canister_bytes_lem : (c : Canister) → canister_bytes c ≡ bytes 4 c.number ++ (bytes 2 c.a ++ bytes 2 c.b)
unfolding bytes_of
canister_bytes_lem c = rw (append-nil (bytes 2 c.b))

-- ---- the canisters of a tile
canisters_append : (l k : List Canister) → canisters_body (l ++ k) ≡ canisters_body l ++ canisters_body k
unfolding canisters_body
canisters_append [] k = refl
canisters_append (c ∷ l) k = rw (canisters_append l k) (sym (append_assoc (canister_bytes c) (canisters_body l) (canisters_body k)))

canisters_one : (c : Canister) → canisters_body (c ∷ []) ≡ canister_bytes c
unfolding canisters_body
canisters_one c = append-nil (canister_bytes c)

canisters_upto : (l : List Canister) (k : ℕ) → k ≤ length l → length (canisters_body (take k l)) ≡ 8 * k
canisters_upto l k h = canisters_size (take k l) ∙ rw (length-take-le k l h)

canisters_turn : (l : List Canister) (k : ℕ) (z : Canister) → k < length l → canisters_body (take (k + 1) l) ≡ canisters_body (take k l) ++ canister_bytes (get_or l k z)
canisters_turn l k z h = rw (add-one, take-suc l k z h, canisters_append, canisters_one)

-- a turn of the loop over the canisters from place i on
pub put_turn : (s₀ s s' : List ℕ) (at i k : ℕ) (l : List Canister) (z : Canister) → i + k < length l → at + 8 * k + 8 ≤ length s₀
    → s ≡ put s₀ at (canisters_body (take k (drop i l))) → s' ≡ put s (at + 8 * k) (canister_bytes (get_or l (i + k) z)) → s' ≡ put s₀ at (canisters_body (take (k + 1) (drop i l)))
put_turn s₀ s s' at i k l z h r p q =
    let m : k < length (drop i l) = rw length-drop (omega arith) in
    let n : length (canisters_body (take k (drop i l))) ≡ 8 * k = canisters_upto (drop i l) k (omega arith) in
    let c : length (canister_bytes (get_or l (i + k) z)) ≡ 8 = canister_size (get_or l (i + k) z) in
    rw (canisters_turn (drop i l) k z m, get_or-drop i l k z) (put_two s₀ s s' at (at + 8 * k) (canisters_body (take k (drop i l))) (canister_bytes (get_or l (i + k) z)) (omega arith) (omega arith) p q)

-- a tile's record is its front and its canisters
pub tile_record_lem : (t : ℕ) (h : Tile) (l : List Canister) → length l ≡ h.count → tile_bytes t h ++ canisters_body l ≡ record_of 3 (tile_body t (state_from h l))
unfolding tile_bytes record_of tile_body bytes_of
tile_record_lem t h l e =
    let m : length (tile_body t (state_from h l)) ≡ 6 + 8 * h.count = tile_size t (state_from h l) ∙ rw e in
    rw (m, e) (simp (append_assoc, append-nil))

-- ---- the record of a layout: a name as std writes it
pub letters_std : (x : ℕ) → to_be_bytes w64 x ≡ letters 8 x
unfolding letters
letters_std x = let e : x / 1 ≡ x = omega arith in rw e

pub layout_record : (x : Layout) → (bytes 2 16 ++ bytes 2 5) ++ (letters 8 x.name ++ bytes 8 x.set) ≡ record_of 5 (layout_body x)
unfolding record_of layout_body
layout_record x = rw (layout_size x) (append_assoc (bytes 2 16) (bytes 2 5) (letters 8 x.name ++ bytes 8 x.set))
