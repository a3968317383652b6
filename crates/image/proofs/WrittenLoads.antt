-- What was written is read back: with nothing after it without a fault, with bytes after it or with its end cut off as 9.
use mathlib.Core.Path.{◌≡◌, refl, sym, ap, ◌∙◌, subst}
use mathlib.Core.Bool.{Bool, true, false, cond, not, ◌&&◌, ◌||◌}
use mathlib.Core.List.{List, [], ◌∷◌, ◌++◌, append_assoc, append-nil}
use Prim.Native.Nat.{ℕ, suc, ◌+◌, ◌-◌, ◌*◌, ◌≤◌, ◌<◌}
use native.Mathlib.Omega.{arith}
use native.Mathlib.Decide.{dec_le}
use lib.Dec.{leb, ltb, eqb}
use borrow.Author.Tests.{le-ltb, lt-ltb, lt-leb, ltb-true, eq-eqb}
use lib.ListN.{length, get_or, take, drop, length-append, length-take}
use lib.Seq.{drop_at}
use Rattle.laws.specs.Define.{tab, refusal}
use Rattle.laws.proofs.Tables.{tab_at, tab_off, filled}
use Rattle.laws.specs.Every.{All}
use Rattle.laws.proofs.Tests.{and_no}
use Rattle.image_bytes.specs.Bytes.{fields_of, bytes_of, field}
use Rattle.image_bytes.proofs.ByteLaws.{Fit, row_length, fields_bytes}
use Rattle.floor.specs.declared.Canister.{Canister}
use Rattle.floor.specs.declared.Settings.{Settings}
use Rattle.floor.specs.declared.Counters.{Counters}
use Rattle.floor.specs.Settings.{total, settings_refusal}
use Rattle.floor.specs.Model.{TileState, Model, with_tiles, with_layouts}
use Rattle.floor.specs.Move.{with_delivered}
use Rattle.image.specs.Image.{lowest, one_tile, hopper_count, several, byte_wrong, length_in, settings_widths, settings_values, counters_widths, counters_values, tile_widths, tile_values, canister_widths, canister_values, record_of, settings_body, counters_body, canisters_body, tile_body, layouts_bytes, tiles_bytes, encode, kind_in, body_in, rest_in_of, is_layout, layouts_in, after_layouts, settings_in, counters_in, canister_in, canisters_in, tile_in, tiles_in, model_in, settings_faults, counters_faults, tile_faults, end_faults, own_faults, record_fault, or_else, end_fault, tiles_fault, fault}
use Rattle.image.proofs.Hoppers.{none_spliced}
use Rattle.image.proofs.Records.{encode_records, fault_records, record_length, length_in_lem, kind_in_lem, body_in_lem, rest_in, fault_in, kind_take, cut_off, cut_after}
use Rattle.image.proofs.Sizes.{settings_size, counters_size, canister_size, tile_size}
use Rattle.image.proofs.Layouts.{LayoutFits, LayoutsBack, layouts_read_back, both_fault, layouts_cut}

-- ---- each value fits its bytes
pub record TileFits (x : TileState) : Type 0 where
  pub few : length x.members ≤ 16
  pub members : All (λ c. Fit canister_widths (canister_values c)) x.members
  pub head : (t : ℕ) → t < 256 → Fit tile_widths (tile_values t x)

-- and the settings pass 1 to 3, and there are C tiles
pub record Fits (m : Model) : Type 0 where
  pub settings : Fit (settings_widths (several m.settings)) (settings_values m.settings)
  pub single : several m.settings ≡ false → one_tile (lowest m.settings.hoppers) ≡ m.settings.hoppers
  pub counters : Fit (counters_widths (hopper_count m.settings)) (counters_values (hopper_count m.settings) m.counters)
  pub four : length m.counters.delivered ≡ 4
  pub spare : (k : ℕ) → hopper_count m.settings ≤ k → get_or m.counters.delivered k 0 ≡ 0
  pub each : All TileFits m.tiles
  pub many : length m.tiles ≡ total m.settings
  pub few : length m.tiles ≤ 64
  pub passed : settings_refusal m.settings ≡ 0
  pub hoppers_few : hopper_count m.settings ≤ 4
  pub layout_fits : All LayoutFits m.layouts
  pub eight : length m.layouts ≤ 8

-- ---- a body that is read after it was written
module _ (s : Settings) (ys : List ℕ) (h : Fit (settings_widths (several s)) (settings_values s)) where
  by_length : eqb (length (settings_body s)) 28 ≡ several s
  by_length = ap (λ (n : ℕ). eqb n 28) (settings_size s) ∙ go (several s)
    where
      go : (b : Bool) → eqb (cond b 28 20) 28 ≡ b
      go true = refl
      go false = refl

  right_length : (eqb (length (settings_body s)) 20 || eqb (length (settings_body s)) 28) ≡ true
  right_length = ap (λ (n : ℕ). eqb n 20 || eqb n 28) (settings_size s) ∙ go (several s)
    where
      go : (b : Bool) → (eqb (cond b 28 20) 20 || eqb (cond b 28 20) 28) ≡ true
      go true = refl
      go false = refl

  settings_fields : fields_of (settings_widths (several s)) (settings_body s ++ ys) ≡ settings_values s
  unfolding settings_body
  settings_fields = fields_bytes (settings_widths (several s)) (settings_values s) ys h

  settings_back : (several s ≡ false → one_tile (lowest s.hoppers) ≡ s.hoppers) → settings_in (length (settings_body s)) (settings_body s ++ ys) ≡ s
  unfolding settings_in
  settings_back one =
      rw (by_length, settings_fields)
      (ap (λ (x : ℕ). record { columns = s.columns; rows = s.rows; hoppers = x; sources = s.sources; width = s.width; length = s.length; gap = s.gap; travel = s.travel }) (pick (several s) refl))
    where
      pick : (b : Bool) → several s ≡ b → cond b (get_or (cond b (s.hoppers ∷ []) []) 0 0) (one_tile (lowest s.hoppers)) ≡ s.hoppers
      pick true e = refl
      pick false e = one e

  zero_back : field (settings_widths (eqb (length (settings_body s)) 28)) 3 (settings_body s ++ ys) ≡ 0
  zero_back = rw (by_length, settings_fields)

  byte_back : byte_wrong (length (settings_body s)) (settings_body s ++ ys) ≡ false
  unfolding byte_wrong
  byte_back = rw by_length (go (several s) refl settings_fields)
    where
      go : (b : Bool) → several s ≡ b → fields_of (settings_widths b) (settings_body s ++ ys) ≡ s.columns ∷ s.rows ∷ lowest s.hoppers ∷ 0 ∷ s.width ∷ s.length ∷ s.gap ∷ s.travel ∷ s.sources ∷ cond b (s.hoppers ∷ []) []
          → (b && (not (eqb (field (settings_widths true) 9 (settings_body s ++ ys)) 0) && not (eqb (field (settings_widths true) 2 (settings_body s ++ ys)) (lowest (field (settings_widths true) 9 (settings_body s ++ ys)))))) ≡ false
      go true e f = rw (f, eq-eqb (lowest s.hoppers) (lowest s.hoppers) refl) (none (eqb s.hoppers 0))
        where
          none : (b : Bool) → (not b && false) ≡ false
          none true = refl
          none false = refl
      go false e f = refl

  two_back : (eqb (length (settings_body s)) 28 && ltb (hopper_count s) 2) ≡ false
  unfolding several
  two_back = rw by_length (go (ltb 1 (hopper_count s)) refl)
    where
      go : (b : Bool) → ltb 1 (hopper_count s) ≡ b → (b && ltb (hopper_count s) 2) ≡ false
      go true e = le-ltb (hopper_count s) 2 (ltb-true 1 (hopper_count s) e)
      go false e = refl

counters_back : (h : ℕ) (c : Counters) (ys : List ℕ) → Fit (counters_widths h) (counters_values h c) → length c.delivered ≡ 4 → ((k : ℕ) → h ≤ k → get_or c.delivered k 0 ≡ 0) → counters_in h (counters_body h c ++ ys) ≡ c
unfolding counters_in counters_body
counters_back h c ys f four spare =
    rw (fields_bytes (counters_widths h) (counters_values h c) ys f)
    (ap (with_delivered c) (sym (filled 4 (λ k. get_or (c.last ∷ c.booked ∷ tab h (λ k. get_or c.delivered k 0)) (2 + k) 0) 0 c.delivered four (λ k _. sym (at k (dec_le (suc k) h))))))
  where
    two : (k : ℕ) → get_or (c.last ∷ c.booked ∷ tab h (λ k. get_or c.delivered k 0)) (2 + k) 0 ≡ get_or (tab h (λ k. get_or c.delivered k 0)) k 0
    two k = let e : 2 + k ≡ suc (suc k) = omega arith in ap (λ (n : ℕ). get_or (c.last ∷ c.booked ∷ tab h (λ k. get_or c.delivered k 0)) n 0) e

    at : (k : ℕ) → Dec (k < h) → get_or (c.last ∷ c.booked ∷ tab h (λ k. get_or c.delivered k 0)) (2 + k) 0 ≡ get_or c.delivered k 0
    at k (yes l) = two k ∙ tab_at h (λ k. get_or c.delivered k 0) k 0 l
    at k (no l) = let q : h ≤ k = omega arith in two k ∙ tab_off h (λ k. get_or c.delivered k 0) k 0 q ∙ sym (spare k q)

canister_back : (c : Canister) (ys : List ℕ) → Fit canister_widths (canister_values c) → canister_in (bytes_of canister_widths (canister_values c) ++ ys) ≡ c
unfolding canister_in
canister_back c ys h = rw (fields_bytes canister_widths (canister_values c) ys h)

canisters_back : (l : List Canister) (ys : List ℕ) → All (λ c. Fit canister_widths (canister_values c)) l → canisters_in (length l) (canisters_body l ++ ys) ≡ l
unfolding canisters_in canisters_body
canisters_back [] ys h = refl
canisters_back (c ∷ l) ys h =
    let bs : List ℕ = bytes_of canister_widths (canister_values c) in
    rw (append_assoc bs (canisters_body l) ys, canister_back c (canisters_body l ++ ys) h.0, drop_at bs (canisters_body l ++ ys) 8 (canister_size c), canisters_back l ys h.1)

module _ (t : ℕ) (x : TileState) (ys : List ℕ) (small : t < 256) (f : TileFits x) where
  tile_head : fields_of tile_widths (tile_body t x ++ ys) ≡ tile_values t x
  unfolding tile_body
  tile_head = rw (append_assoc (bytes_of tile_widths (tile_values t x)) (canisters_body x.members) ys) (fields_bytes tile_widths (tile_values t x) _ (f.head t small))

  tile_tail : drop 6 (tile_body t x ++ ys) ≡ canisters_body x.members ++ ys
  unfolding tile_body
  tile_tail =
      rw (append_assoc (bytes_of tile_widths (tile_values t x)) (canisters_body x.members) ys)
      (drop_at (bytes_of tile_widths (tile_values t x)) (canisters_body x.members ++ ys) 6 (row_length tile_widths (tile_values t x) refl))

  tile_back : tile_in (tile_body t x ++ ys) ≡ x
  unfolding tile_in
  tile_back = rw (tile_head, tile_tail, canisters_back x.members ys f.members)

  tile_short : length (tile_body t x) < 65536
  tile_short = omega (arith, tile_size t x, f.few)

  tile_right : record_fault 3 t (record_of 3 (tile_body t x) ++ ys) ≡ 0
  unfolding own_faults tile_faults refusal
  tile_right =
      let s : length (tile_body t x) ≡ 6 + 8 * length x.members = tile_size t x in
      let six : 6 ≤ length (tile_body t x) = omega arith in
      rw (
        fault_in 3 (tile_body t x) ys tile_short (omega arith),
        tile_head,
        le-ltb (length (tile_body t x)) 6 six,
        eq-eqb t t refl,
        le-ltb 16 (length x.members) f.few,
        eq-eqb (length (tile_body t x)) (6 + 8 * length x.members) s,
      )

  tile_rest : rest_in_of (record_of 3 (tile_body t x) ++ ys) ≡ ys
  tile_rest = rest_in 3 (tile_body t x) ys tile_short

  tile_body_lem : body_in (record_of 3 (tile_body t x) ++ ys) ≡ tile_body t x ++ ys
  tile_body_lem = body_in_lem 3 (tile_body t x) ys tile_short

-- ---- the tiles and the end
-- 9 where bytes are left over
unfoldable pub leftover : List ℕ → ℕ
leftover [] = 0
leftover (y ∷ ys) = 9

end_right : (ys : List ℕ) → record_fault 4 0 (record_of 4 [] ++ ys) ≡ 0
unfolding own_faults end_faults refusal
end_right ys = rw (fault_in 4 [] ys (omega arith) (omega arith))

end_left : (ys : List ℕ) → cond (ltb 4 (4 + length ys)) 9 0 ≡ leftover ys
unfolding leftover
end_left [] = refl
end_left (y ∷ ys) = let h : 4 < 4 + length (y ∷ ys) = omega arith in rw (lt-ltb 4 (4 + length (y ∷ ys)) h)

end_back : (ys : List ℕ) → end_fault (record_of 4 [] ++ ys) ≡ leftover ys
unfolding end_fault refusal
end_back ys =
    let n : length (record_of 4 [] ++ ys) ≡ 4 + length ys = rw (length-append, record_length 4 []) in
    rw (end_right ys, length_in_lem 4 [] ys (omega arith), n) (end_left ys)

pub tiles_back : (t : ℕ) (l : List TileState) (ys : List ℕ) → All TileFits l → t + length l ≤ 256
    → (tiles_fault (length l) t (tiles_bytes t l ++ ys) ≡ leftover ys) × (tiles_in (length l) (tiles_bytes t l ++ ys) ≡ l)
unfolding tiles_fault tiles_in tiles_bytes
tiles_back t [] ys h k = (end_back ys, refl)
tiles_back t (x ∷ l) ys h k =
    let s : t < 256 = omega arith in
    let zs : List ℕ = tiles_bytes (suc t) l ++ ys in
    let i = tiles_back (suc t) l ys h.1 (omega arith) in
    let a : (record_of 3 (tile_body t x) ++ tiles_bytes (suc t) l) ++ ys ≡ record_of 3 (tile_body t x) ++ zs = append_assoc (record_of 3 (tile_body t x)) (tiles_bytes (suc t) l) ys in (
      rw (a, tile_right t x zs s h.0, tile_rest t x zs s h.0) i.0,
      rw (a, tile_body_lem t x zs s h.0, tile_back t x zs s h.0, tile_rest t x zs s h.0, i.1),
    )

tiles_cut : (t n : ℕ) (l : List TileState) → All TileFits l → t + length l ≤ 256 → n < length (tiles_bytes t l) → tiles_fault (length l) t (take n (tiles_bytes t l)) ≡ 9
unfolding tiles_fault tiles_bytes end_fault
tiles_cut t n [] h k q =
    let m : n < 4 + length {A = ℕ} [] = omega (arith, record_length 4 []) in
    let e : record_fault 4 0 (take n (record_of 4 [])) ≡ 9 = ap (λ (l : List ℕ). record_fault 4 0 (take n l)) (sym (append-nil (record_of 4 []))) ∙ cut_off 4 0 n [] [] (omega arith) m in
    rw e
tiles_cut t n (x ∷ l) h k q = go (dec_le (4 + length (tile_body t x)) n) (tiles_cut (suc t) (n - (4 + length (tile_body t x))) l h.1 (omega arith))
  where
    go : Dec (4 + length (tile_body t x) ≤ n) → (n - (4 + length (tile_body t x)) < length (tiles_bytes (suc t) l) → tiles_fault (length l) (suc t) (take (n - (4 + length (tile_body t x))) (tiles_bytes (suc t) l)) ≡ 9)
        → or_else (record_fault 3 t (take n (record_of 3 (tile_body t x) ++ tiles_bytes (suc t) l))) (tiles_fault (length l) (suc t) (rest_in_of (take n (record_of 3 (tile_body t x) ++ tiles_bytes (suc t) l)))) ≡ 9
    go (yes p) ih =
        let s : t < 256 = omega arith in
        let ys : List ℕ = take (n - (4 + length (tile_body t x))) (tiles_bytes (suc t) l) in
        let len : length (record_of 3 (tile_body t x) ++ tiles_bytes (suc t) l) ≡ 4 + length (tile_body t x) + length (tiles_bytes (suc t) l) = rw (length-append, record_length 3 (tile_body t x)) in
        rw (cut_after 3 n (tile_body t x) (tiles_bytes (suc t) l) p, tile_right t x ys s h.0, tile_rest t x ys s h.0) (ih (omega arith))
    go (no p) ih = rw (cut_off 3 t n (tile_body t x) (tiles_bytes (suc t) l) (tile_short t x [] (omega arith) h.0) (omega arith))

three_none : {a b : Bool} {z : ℕ} (l : List (Bool × ℕ)) → a ≡ true → z ≡ 0 → b ≡ false → refusal l ≡ 0 → refusal ((not a, 11) ∷ (not (eqb z 0), 11) ∷ (b, 11) ∷ l) ≡ 0
unfolding refusal
three_none l p q r h = rw (p, q, r) h

-- the tiles' records begin with kind 3, or 4 where there is none
kind_off : (xs : List ℕ) (k : ℕ) → kind_in xs ≡ k → eqb k 5 ≡ false → is_layout xs ≡ false
unfolding is_layout
kind_off xs k e h = rw (e, h) (and_no (leb 4 (length xs)))

tiles_kind : (t : ℕ) (l : List TileState) (ys : List ℕ) → All TileFits l → eqb (kind_in (tiles_bytes t l ++ ys)) 5 ≡ false
unfolding tiles_bytes
tiles_kind t [] ys h = ap (λ (k : ℕ). eqb k 5) (kind_in_lem 4 [] ys (omega arith) (omega arith))
tiles_kind t (x ∷ l) ys h =
    ap (λ (b : List ℕ). eqb (kind_in b) 5) (append_assoc (record_of 3 (tile_body t x)) (tiles_bytes (suc t) l) ys)
    ∙ ap (λ (k : ℕ). eqb k 5) (kind_in_lem 3 (tile_body t x) (tiles_bytes (suc t) l ++ ys) (omega (arith, tile_size t x, h.0.few)) (omega arith))

few_off : (xs : List ℕ) → length xs < 4 → is_layout xs ≡ false
unfolding is_layout
few_off xs h = rw (lt-leb 4 (length xs) h)

cut_kind : (j t : ℕ) (l : List TileState) → All TileFits l → is_layout (take j (tiles_bytes t l)) ≡ false
cut_kind j t l h = go (dec_le 4 j)
  where
    go : Dec (4 ≤ j) → is_layout (take j (tiles_bytes t l)) ≡ false
    go (yes p) = kind_off (take j (tiles_bytes t l)) (kind_in (tiles_bytes t l)) (kind_take j (tiles_bytes t l) p) (ap (λ (b : List ℕ). eqb (kind_in b) 5) (sym (append-nil (tiles_bytes t l))) ∙ tiles_kind t l [] h)
    go (no p) = few_off (take j (tiles_bytes t l)) (omega (arith, length-take j (tiles_bytes t l)))

-- ---- the whole: record 1 with any bytes after it, then record 2
size_short : (m : Model) → length (settings_body m.settings) ≤ 28
size_short m = subst (λ (n : ℕ). n ≤ 28) (sym (settings_size m.settings)) (go (several m.settings))
  where
    go : (b : Bool) → cond {A = ℕ} b 28 20 ≤ 28
    go true = omega arith
    go false = omega arith

module _ (m : Model) (g : Fits m) (ys : List ℕ) where
  short_1 : length (settings_body m.settings) < 65536
  short_1 = omega (arith, size_short m)

  settings_read : settings_in (length (settings_body m.settings)) ((settings_body m.settings) ++ ys) ≡ m.settings
  settings_read = settings_back m.settings ys g.settings g.single

  long_1 : length_in (record_of 1 (settings_body m.settings) ++ ys) ≡ length (settings_body m.settings)
  long_1 = length_in_lem 1 (settings_body m.settings) ys short_1

  rest_1 : rest_in_of (record_of 1 (settings_body m.settings) ++ ys) ≡ ys
  rest_1 = rest_in 1 (settings_body m.settings) ys short_1

  inner_1 : body_in (record_of 1 (settings_body m.settings) ++ ys) ≡ (settings_body m.settings) ++ ys
  inner_1 = body_in_lem 1 (settings_body m.settings) ys short_1

  own_1 : refusal (settings_faults (length (settings_body m.settings)) ((settings_body m.settings) ++ ys)) ≡ 0
  unfolding settings_faults
  own_1 =
      let s = m.settings in
      three_none _ (right_length s ys g.settings) (zero_back s ys g.settings) (byte_back s ys g.settings)
      (rw settings_read (none_spliced s (eqb (length (settings_body s)) 28 && ltb (hopper_count s) 2) (two_back s ys g.settings) g.passed))

  fault_1 : record_fault 1 0 (record_of 1 (settings_body m.settings) ++ ys) ≡ 0
  unfolding own_faults
  fault_1 = rw (fault_in 1 (settings_body m.settings) ys short_1 (omega arith)) own_1

  fault_first : fault (record_of 1 (settings_body m.settings) ++ ys) ≡ or_else (record_fault 2 (hopper_count m.settings) ys) (both_fault 8 (total m.settings) (rest_in_of ys))
  fault_first = rw (fault_records (record_of 1 (settings_body m.settings) ++ ys), fault_1, rest_1, long_1, inner_1, settings_read)

  model_first : model_in (record_of 1 (settings_body m.settings) ++ ys) ≡ record { settings = m.settings; counters = counters_in (hopper_count m.settings) (body_in ys); tiles = tiles_in (total m.settings) (after_layouts 8 (rest_in_of ys)); layouts = layouts_in 8 (rest_in_of ys) }
  unfolding model_in
  model_first = rw (rest_1, long_1, inner_1, settings_read)

  short_2 : length (counters_body (hopper_count m.settings) m.counters) < 65536
  short_2 = omega (arith, counters_size (hopper_count m.settings) m.counters, g.hoppers_few)

  rest_2 : rest_in_of (record_of 2 (counters_body (hopper_count m.settings) m.counters) ++ ys) ≡ ys
  rest_2 = rest_in 2 (counters_body (hopper_count m.settings) m.counters) ys short_2

  inner_2 : body_in (record_of 2 (counters_body (hopper_count m.settings) m.counters) ++ ys) ≡ (counters_body (hopper_count m.settings) m.counters) ++ ys
  inner_2 = body_in_lem 2 (counters_body (hopper_count m.settings) m.counters) ys short_2

  fault_2 : record_fault 2 (hopper_count m.settings) (record_of 2 (counters_body (hopper_count m.settings) m.counters) ++ ys) ≡ 0
  unfolding own_faults counters_faults refusal
  fault_2 = rw (fault_in 2 (counters_body (hopper_count m.settings) m.counters) ys short_2 (omega arith), eq-eqb (length (counters_body (hopper_count m.settings) m.counters)) (8 + 4 * hopper_count m.settings) (counters_size (hopper_count m.settings) m.counters))

  counters_read : counters_in (hopper_count m.settings) ((counters_body (hopper_count m.settings) m.counters) ++ ys) ≡ m.counters
  counters_read = counters_back (hopper_count m.settings) m.counters ys g.counters g.four g.spare

-- ---- the whole: what is read where the layouts are due is ys
module _ (m : Model) (g : Fits m) (ys : List ℕ) where
  fault_second : fault (record_of 1 (settings_body m.settings) ++ (record_of 2 (counters_body (hopper_count m.settings) m.counters) ++ ys)) ≡ both_fault 8 (total m.settings) ys
  fault_second = fault_first m g (record_of 2 (counters_body (hopper_count m.settings) m.counters) ++ ys) ∙ rw (fault_2 m g ys, rest_2 m g ys)

  model_second : model_in (record_of 1 (settings_body m.settings) ++ (record_of 2 (counters_body (hopper_count m.settings) m.counters) ++ ys)) ≡ with_layouts (with_tiles m (tiles_in (total m.settings) (after_layouts 8 ys))) (layouts_in 8 ys)
  model_second = model_first m g (record_of 2 (counters_body (hopper_count m.settings) m.counters) ++ ys) ∙ rw (inner_2 m g ys, counters_read m g ys, rest_2 m g ys)

module _ (m : Model) (g : Fits m) where
  encode_append : (ys : List ℕ) → encode m ++ ys ≡ record_of 1 (settings_body m.settings) ++ (record_of 2 (counters_body (hopper_count m.settings) m.counters) ++ (layouts_bytes m.layouts ++ (tiles_bytes 0 m.tiles ++ ys)))
  encode_append ys = ap (λ (xs : List ℕ). xs ++ ys) (encode_records m) ∙ simp append_assoc

  tiles_read : (ys : List ℕ) → (tiles_fault (total m.settings) 0 (tiles_bytes 0 m.tiles ++ ys) ≡ leftover ys) × (tiles_in (total m.settings) (tiles_bytes 0 m.tiles ++ ys) ≡ m.tiles)
  tiles_read ys = rw (← g.many) (tiles_back 0 m.tiles ys g.each (omega (arith, g.few)))

  layouts_read : (ys : List ℕ) → LayoutsBack 8 m.layouts (tiles_bytes 0 m.tiles ++ ys)
  layouts_read ys = layouts_read_back 8 m.layouts (tiles_bytes 0 m.tiles ++ ys) g.layout_fits g.eight (kind_off (tiles_bytes 0 m.tiles ++ ys) _ refl (tiles_kind 0 m.tiles ys g.each))

  -- bytes after the end are 9
  pub fault_append : (ys : List ℕ) → fault (encode m ++ ys) ≡ leftover ys
  fault_append ys = rw (encode_append ys) (fault_second m g (layouts_bytes m.layouts ++ (tiles_bytes 0 m.tiles ++ ys)) ∙ rw ((layouts_read ys).faults, (layouts_read ys).rest) (tiles_read ys).0)

  pub no_fault : fault (encode m) ≡ 0
  unfolding leftover
  no_fault = ap fault (sym (append-nil (encode m))) ∙ fault_append []

  pub read_back : model_in (encode m) ≡ m
  read_back =
      let e : tiles_in (total m.settings) (tiles_bytes 0 m.tiles ++ []) ≡ m.tiles = (tiles_read []).1 in
      ap model_in (sym (append-nil (encode m)) ∙ encode_append []) ∙ model_second m g (layouts_bytes m.layouts ++ (tiles_bytes 0 m.tiles ++ [])) ∙ rw ((layouts_read []).rest, (layouts_read []).values, e)

  abbrev first : List ℕ
  first = settings_body m.settings

  abbrev second : List ℕ
  second = counters_body (hopper_count m.settings) m.counters

  abbrev later : List ℕ
  later = layouts_bytes m.layouts ++ tiles_bytes 0 m.tiles

  cut_first : (n : ℕ) (ys : List ℕ) → n < 4 + length first → fault (take n (record_of 1 first ++ ys)) ≡ 9
  cut_first n ys h = rw (fault_records (take n (record_of 1 first ++ ys)), cut_off 1 0 n first ys (omega (arith, size_short m)) h)

  cut_second : (n : ℕ) (ys : List ℕ) → n < 4 + length second → record_fault 2 (hopper_count m.settings) (take n (record_of 2 second ++ ys)) ≡ 9
  cut_second n ys h = cut_off 2 (hopper_count m.settings) n second ys (omega (arith, counters_size (hopper_count m.settings) m.counters, g.hoppers_few)) h

  -- a proper prefix is 9
  pub fault_cut : (n : ℕ) → n < length (encode m) → fault (take n (encode m)) ≡ 9
  fault_cut n h = rw (encode_records m) (go (dec_le (4 + length first) n) (dec_le (4 + length second) (n - (4 + length first))))
    where
      tiles : (j : ℕ) → j < length (tiles_bytes 0 m.tiles) → tiles_fault (total m.settings) 0 (take j (tiles_bytes 0 m.tiles)) ≡ 9
      tiles j k = rw (← g.many) (tiles_cut 0 j m.tiles g.each (omega (arith, g.few)) k)

      go : Dec (4 + length first ≤ n) → Dec (4 + length second ≤ n - (4 + length first)) → fault (take n (record_of 1 first ++ (record_of 2 second ++ later))) ≡ 9
      go (no p) q = cut_first n (record_of 2 second ++ later) (omega arith)
      go (yes p) (no q) =
          rw (
            cut_after 1 n first (record_of 2 second ++ later) p,
            fault_first m g (take (n - (4 + length first)) (record_of 2 second ++ later)),
            cut_second (n - (4 + length first)) (later) (omega arith),
          )
      go (yes p) (yes q) =
          let e : length (record_of 1 first ++ (record_of 2 second ++ later)) ≡ 4 + length first + (4 + length second + length (later)) =
          rw (length-append, record_length 1 first, length-append, record_length 2 second) in
          let k : n - (4 + length first) - (4 + length second) < length (later) = omega (arith, ap (λ (xs : List ℕ). length xs) (encode_records m)) in
          rw (
            cut_after 1 n first (record_of 2 second ++ later) p,
            cut_after 2 (n - (4 + length first)) second (later) q,
            fault_second m g (take (n - (4 + length first) - (4 + length second)) (later)),
          )
          (layouts_cut (total m.settings) (tiles_bytes 0 m.tiles) (λ j. cut_kind j 0 m.tiles g.each) tiles 8 (n - (4 + length first) - (4 + length second)) m.layouts g.eight k)
