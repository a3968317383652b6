-- Laws of the writer: the turns of its loops, how long the records of the tiles are, and the whole as the image.
use mathlib.Core.Path.{◌≡◌, refl, sym, ap, ◌∙◌}
use mathlib.Core.Logic.{◌≢◌}
use mathlib.Core.Bool.{Bool, true, false, cond}
use mathlib.Core.List.{List, [], ◌∷◌, ◌++◌, append_assoc, append-nil}
use Prim.Native.Nat.{ℕ, zero, suc, ◌+◌, ◌-◌, ◌*◌, ◌≤◌, ◌<◌}
use native.Mathlib.Omega.{arith}
use native.Mathlib.Numerals.{add-one}
use lib.ListN.{length, take, drop, get_or, length-append, length-drop, drop_of_length-le}
use lib.Seq.{length-take-le, take-suc, drop-cons}
use lib.Dec.{ltb, eqb}
use borrow.Author.Tests.{eq-eqb, ne_eqb}
use Rattle.laws.specs.Define.{tab, bits_below}
use Rattle.laws.proofs.SetBits.{bits_within}
use Rattle.laws.proofs.Tables.{tab_same}
use Rattle.image_bytes.specs.Bytes.{bytes}
use Rattle.image_bytes.specs.InternalPut.{put}
use Rattle.image_bytes.proofs.PutLaws.{put_two, put_three}
use Rattle.floor.specs.declared.Canister.{Canister}
use Rattle.floor.specs.declared.Tile.{Tile}
use Rattle.floor.specs.declared.Layout.{Layout}
use Rattle.floor.specs.declared.Settings.{Settings}
use Rattle.floor.specs.declared.Counters.{Counters}
use Rattle.floor.specs.declared.Floor.{Floor}
use Rattle.floor.specs.Settings.{total, hoppers_of}
use Rattle.floor.specs.Memory.{zero_tile, zero_layout, state_of, used_layouts, view}
use Rattle.floor.specs.Well.{well_formed}
use Rattle.floor.proofs.Pack.{few_on, well_few, well_fits, well_lengths, well_measured}
use Rattle.image.specs.Image.{hopper_count, several, record_of, settings_body, counters_body, canisters_body, tile_body, layout_body, layouts_bytes, tiles_bytes, front_bytes, encode}
use Rattle.image.proofs.Records.{record_length}
use Rattle.image.proofs.Sizes.{header_length, tile_front, canister_length, layout_length, counters_length, settings_size, counters_size, canisters_size, tile_size, layout_size, layouts_size}
use Rattle.image_record_write.specs.InternalParts.{tile_bytes}
use Rattle.image_record_write.proofs.RecordBytes.{pair_length, tile_length, tile_record_lem}
use Rattle.image_write.specs.InternalUpto.{count_at, tile_for, tile_record, upto}

-- ---- the layouts, one after the other
layouts_append : (l k : List Layout) → layouts_bytes (l ++ k) ≡ layouts_bytes l ++ layouts_bytes k
unfolding layouts_bytes
layouts_append [] k = refl
layouts_append (x ∷ l) k = rw (layouts_append l k) (sym (append_assoc (record_of 5 (layout_body x)) (layouts_bytes l) (layouts_bytes k)))

layouts_one : (x : Layout) → layouts_bytes (x ∷ []) ≡ record_of 5 (layout_body x)
unfolding layouts_bytes
layouts_one x = append-nil (record_of 5 (layout_body x))

pub layouts_none : layouts_bytes [] ≡ []
unfolding layouts_bytes
layouts_none = refl

pub layouts_turn : (s₀ s s' : List ℕ) (from k : ℕ) (l : List Layout) → k < length l → from + layout_length * k + layout_length ≤ length s₀ → s ≡ put s₀ from (layouts_bytes (take k l)) → s' ≡ put s (from + layout_length * k) (record_of 5 (layout_body (get_or l k zero_layout)))
    → s' ≡ put s₀ from (layouts_bytes (take (k + 1) l))
layouts_turn s₀ s s' from k l h r p q =
    let x = get_or l k zero_layout in
    let n : length (layouts_bytes (take k l)) ≡ layout_length * k = layouts_size (take k l) ∙ rw (length-take-le k l (omega arith)) in
    let m : length (record_of 5 (layout_body x)) ≡ layout_length = rw (record_length 5 (layout_body x), layout_size x) in
    rw (add-one, take-suc l k zero_layout h, layouts_append, layouts_one) (put_two s₀ s s' from (from + layout_length * k) (layouts_bytes (take k l)) (record_of 5 (layout_body x)) (omega arith) (omega arith) p q)

used_nil : length (used_layouts []) ≡ 0
unfolding used_layouts
used_nil = refl

-- those in use stand first
pub used_take : (l : List Layout) → take (length (used_layouts l)) l ≡ used_layouts l
unfolding used_layouts
used_take [] = refl
used_take (x ∷ l) = go (eqb x.name 0) (used_take l)
  where
    go : (b : Bool) → take (length (used_layouts l)) l ≡ used_layouts l → take (length (cond b [] (x ∷ used_layouts l))) (x ∷ l) ≡ cond b [] (x ∷ used_layouts l)
    go true e = refl
    go false e = ap (λ (k : List Layout). x ∷ k) e

-- k places with names were passed: the next one ends them, or is one more
module _ (l : List Layout) (k : ℕ) (h : k < length l) where
  used_end : (get_or l k zero_layout).name ≡ 0 → length (used_layouts (drop k l)) ≡ 0
  unfolding used_layouts
  used_end e = rw (drop-cons l k zero_layout h, eq-eqb (get_or l k zero_layout).name 0 e)

  used_more : (get_or l k zero_layout).name ≢ 0 → length (used_layouts (drop k l)) ≡ suc (length (used_layouts (drop (suc k) l)))
  unfolding used_layouts
  used_more e = rw (drop-cons l k zero_layout h, ne_eqb (get_or l k zero_layout).name 0 e)

pub used_stop : (l : List Layout) (k : ℕ) → k < length l → length (used_layouts l) ≡ k + length (used_layouts (drop k l)) → (get_or l k zero_layout).name ≡ 0 → k ≡ length (used_layouts l)
used_stop l k h p e = omega (arith, p, used_end l k h e)

pub used_turn : (l : List Layout) (k : ℕ) → k < length l → length (used_layouts l) ≡ k + length (used_layouts (drop k l)) → (get_or l k zero_layout).name ≢ 0 → length (used_layouts l) ≡ k + 1 + length (used_layouts (drop (k + 1) l))
used_turn l k h p e = rw (add-one k) (omega (arith, p, used_more l k h e))

pub used_all : (l : List Layout) (k : ℕ) → length l ≤ k → length (used_layouts l) ≡ k + length (used_layouts (drop k l)) → k ≡ length (used_layouts l)
used_all l k h p = let e : length (used_layouts (drop k l)) ≡ 0 = ap (λ (z : List Layout). length (used_layouts z)) (drop_of_length-le l h) ∙ used_nil in omega (arith, p)

-- ---- the tiles, one after the other
module _ (hs : List Tile) (cs : List Canister) where
  pub upto_none : upto hs cs 0 ≡ []
  unfolding upto
  upto_none = refl

  upto_more : (t : ℕ) → upto hs cs (t + 1) ≡ upto hs cs t ++ tile_record hs cs t
  unfolding upto
  upto_more t = rw add-one

  canisters_count : (t : ℕ) → 16 * t + 16 ≤ length cs → count_at hs t ≤ 16 → length (take (count_at hs t) (drop (16 * t) cs)) ≡ count_at hs t
  canisters_count t h k = let m : count_at hs t ≤ length (drop (16 * t) cs) = rw length-drop (omega arith) in length-take-le (count_at hs t) (drop (16 * t) cs) m

  record_size : (t : ℕ) → 16 * t + 16 ≤ length cs → count_at hs t ≤ 16 → length (tile_record hs cs t) ≡ tile_front + canister_length * count_at hs t
  record_size t h k = rw (record_length 3 (tile_body t (tile_for hs cs t)), tile_size t (tile_for hs cs t), canisters_count t h k) (omega arith)

  pub at_turn : (from at t : ℕ) → 16 * t + 16 ≤ length cs → count_at hs t ≤ 16 → at ≡ from + length (upto hs cs t) → at + tile_front + canister_length * count_at hs t ≡ from + length (upto hs cs (t + 1))
  at_turn from at t l k e = let n = record_size t l k in rw (upto_more t, length-append) (omega arith)

  upto_suc : (t : ℕ) → length (upto hs cs t) ≤ length (upto hs cs (suc t))
  unfolding upto
  upto_suc t = rw length-append (omega arith)

  upto_mono : (t n : ℕ) → length (upto hs cs t) ≤ length (upto hs cs (t + n))
  upto_mono t zero = let e : t + 0 ≡ t = omega arith in rw e (omega arith)
  upto_mono t (suc n) = let e : t + suc n ≡ suc (t + n) = omega arith in rw e (omega (arith, upto_mono t n, upto_suc (t + n)))

  pub upto_room : (t c : ℕ) → t < c → 16 * t + 16 ≤ length cs → count_at hs t ≤ 16 → length (upto hs cs t) + tile_front + canister_length * count_at hs t ≤ length (upto hs cs c)
  upto_room t c h l k =
      let n : length (upto hs cs (t + 1)) ≡ length (upto hs cs t) + (tile_front + canister_length * count_at hs t) = rw (upto_more t, length-append, record_size t l k) in
      let e : t + 1 + (c - (t + 1)) ≡ c = omega arith in
      let m : length (upto hs cs (t + 1)) ≤ length (upto hs cs c) = rw e at (upto_mono (t + 1) (c - (t + 1))) in
      omega arith

  -- a turn of the loop over the tiles: the front of a record and its canisters
  pub tiles_turn : (s₀ s s₁ s' : List ℕ) (from at t : ℕ) → 16 * t + 16 ≤ length cs → count_at hs t ≤ 16 → at + tile_front + canister_length * count_at hs t ≤ length s₀ → at ≡ from + length (upto hs cs t)
      → s ≡ put s₀ from (upto hs cs t) → s₁ ≡ put s at (tile_bytes t (get_or hs t zero_tile)) → s' ≡ put s₁ (at + tile_front) (canisters_body (take (count_at hs t) (drop (16 * t) cs)))
      → s' ≡ put s₀ from (upto hs cs (t + 1))
  tiles_turn s₀ s s₁ s' from at t l k r e p q u =
      let h = get_or hs t zero_tile in
      let ds = take (count_at hs t) (drop (16 * t) cs) in
      let c = canisters_count t l k in
      let f = tile_length t h in
      let n : length (canisters_body ds) ≡ canister_length * count_at hs t = canisters_size ds ∙ rw c in
      rw (upto_more t, ← tile_record_lem t h ds c) (put_three s₀ s s₁ s' from at (at + tile_front) (upto hs cs t) (tile_bytes t h) (canisters_body ds) (omega arith) e (omega arith) p q u)

  -- then the end
  upto_tiles : (t n : ℕ) → upto hs cs t ++ tiles_bytes t (tab n (λ k. tile_for hs cs (t + k))) ≡ upto hs cs (t + n) ++ record_of 4 []
  unfolding tab tiles_bytes upto
  upto_tiles t zero = let e : t + 0 ≡ t = omega arith in rw e
  upto_tiles t (suc n) =
      let z : t + 0 ≡ t = omega arith in
      let e : t + suc n ≡ suc t + n = omega arith in
      let s : tab n (λ k. tile_for hs cs (t + suc k)) ≡ tab n (λ k. tile_for hs cs (suc t + k)) = tab_same n _ _ (λ k h. ap (tile_for hs cs) (omega arith)) in
      rw (z, s, e, ← upto_tiles (suc t) n) (sym (append_assoc (upto hs cs t) (tile_record hs cs t) (tiles_bytes (suc t) (tab n (λ k. tile_for hs cs (suc t + k))))))

-- ---- how long the records of the tiles below t are, from the tiles alone
unfoldable pub heads_size : List Tile → ℕ → ℕ
heads_size hs zero = 0
heads_size hs (suc t) = heads_size hs t + (tile_front + canister_length * count_at hs t)

pub heads_none : (hs : List Tile) → heads_size hs 0 ≡ 0
unfolding heads_size
heads_none hs = refl

pub heads_more : (hs : List Tile) (t : ℕ) → heads_size hs (t + 1) ≡ heads_size hs t + (tile_front + canister_length * count_at hs t)
unfolding heads_size
heads_more hs t = rw add-one

pub upto_size : (hs : List Tile) (cs : List Canister) (t : ℕ) → 16 * t ≤ length cs → ((u : ℕ) → u < t → count_at hs u ≤ 16) → length (upto hs cs t) ≡ heads_size hs t
unfolding upto heads_size
upto_size hs cs zero h few = refl
upto_size hs cs (suc t) h few = rw (length-append, record_size hs cs t (omega arith) (few t (omega arith)), upto_size hs cs t (omega arith) (λ u l. few u (omega arith)))

-- ---- the whole
end_record : bytes 2 0 ++ bytes 2 4 ≡ record_of 4 []
unfolding record_of
end_record = rw (append-nil (bytes 2 4))

-- the front, and how long record 1 and the front are
module _ (s : Settings) where
  pub first_is : (h r : ℕ) → h ≡ hopper_count s → r ≡ cond (ltb 1 h) 32 24 → r ≡ header_length + length (settings_body s)
  unfolding several
  first_is h r e q = q ∙ ap (λ (n : ℕ). cond (ltb 1 n) 32 24) e ∙ sym (ap (λ (n : ℕ). 4 + n) (settings_size s) ∙ go (ltb 1 (hopper_count s)))
    where
      go : (b : Bool) → 4 + cond b 28 20 ≡ cond b 32 24
      go true = refl
      go false = refl

  pub more_is : (h : ℕ) → h ≡ hopper_count s → ltb 1 h ≡ several s
  unfolding several
  more_is h e = ap (λ (n : ℕ). ltb 1 n) e

  module _ (c : Counters) (l : List Layout) where
    front_long : length (front_bytes s c (used_layouts l)) ≡ header_length + length (settings_body s) + counters_length (hopper_count s) + layout_length * length (used_layouts l)
    unfolding front_bytes
    front_long =
        rw (length-append, record_length 1 (settings_body s), length-append, record_length 2 (counters_body (hopper_count s) c), counters_size (hopper_count s) c, layouts_size (used_layouts l))
        (omega arith)

-- what put_front knows of settings x, counters y, layouts l and a buffer b: h hoppers, and the place after record 1
pub record FrontRoom (x : Settings) (y : Counters) (l : List Layout) (h second : ℕ) (b : List ℕ) : Type 0 where
  pub hoppers : h ≡ hopper_count x
  pub few : h ≤ 4
  pub first : second ≡ header_length + length (settings_body x)
  pub long : length (front_bytes x y (used_layouts l)) ≡ second + counters_length h + layout_length * length (used_layouts l)
  pub fits : length (front_bytes x y (used_layouts l)) ≤ length b

pub front_room : (x : Settings) (y : Counters) (l : List Layout) (h second : ℕ) (b : List ℕ) → (length (front_bytes x y (used_layouts l)) ≤ length b) × (h ≡ hopper_count x) × (h ≤ 4) → second ≡ cond (ltb 1 h) 32 24 → FrontRoom x y l h second b
front_room x y l h second b p e =
    let f = first_is x h second p.1 e in
    record { hoppers = p.1; few = p.2; first = f; long = omega (arith, front_long x y l, f, p.1); fits = p.0 }

-- the three writes; the first n places are used
pub front_put : {x : Settings} {y : Counters} {l : List Layout} {h second : ℕ} {b : List ℕ} → FrontRoom x y l h second b → (b1 b2 b3 : List ℕ) (n third : ℕ) → n ≡ length (used_layouts l) → third ≡ second + counters_length h
    → b1 ≡ put b 0 (record_of 1 (settings_body x)) → b2 ≡ put b1 second (record_of 2 (counters_body h y)) → b3 ≡ put b2 third (layouts_bytes (take n l)) → b3 ≡ put b 0 (front_bytes x y (used_layouts l))
unfolding front_bytes
front_put {x} {y} {l} {h} {second} {b} r b1 b2 b3 n third ne e3 p q u =
    let c = counters_body (hopper_count x) y in
    let n1 : length (record_of 1 (settings_body x)) ≡ header_length + length (settings_body x) = record_length 1 (settings_body x) in
    let n2 : length (record_of 2 c) ≡ counters_length (hopper_count x) = record_length 2 c ∙ ap (λ (k : ℕ). 4 + k) (counters_size (hopper_count x) y) in
    let n3 : length (layouts_bytes (used_layouts l)) ≡ layout_length * length (used_layouts l) = layouts_size (used_layouts l) in
    let used = ap (λ (k : ℕ). layouts_bytes (take k l)) ne ∙ ap layouts_bytes (used_take l) in
    put_three b b1 b2 b3 0 second third (record_of 1 (settings_body x)) (record_of 2 c) (layouts_bytes (used_layouts l))
    (omega (arith, r.fits, front_long x y l)) (omega arith) (omega arith) p (rw r.hoppers at q) (rw used at u)

module _ (f : Floor) where
  abbrev pub front_of : List ℕ
  front_of = front_bytes f.settings f.counters (used_layouts f.layouts)

  states : (n : ℕ) → tab n (state_of f) ≡ tab n (λ k. tile_for f.tiles f.canisters (0 + k))
  unfolding state_of
  states n = tab_same n _ _ (λ k h. ap (tile_for f.tiles f.canisters) (omega arith))

  tiles_bytes_lem : (n : ℕ) → tiles_bytes 0 (tab n (state_of f)) ≡ upto f.tiles f.canisters n ++ record_of 4 []
  tiles_bytes_lem n =
      let e : 0 + n ≡ n = omega arith in
      let u = upto_tiles f.tiles f.canisters 0 n in
      rw (states n) (rw (upto_none f.tiles f.canisters, e) at u)

  encode_is : encode (view f) ≡ front_of ++ (upto f.tiles f.canisters (total f.settings) ++ record_of 4 [])
  unfolding encode view
  encode_is = rw (tiles_bytes_lem (total f.settings))

  pub encode_long : length (encode (view f)) ≡ length front_of + length (upto f.tiles f.canisters (total f.settings)) + header_length
  encode_long = rw (encode_is, length-append, length-append, record_length 4 []) (omega arith)

-- a well-formed floor has what the writer asks for
module _ (f : Floor) (w : well_formed f ≡ true) where
  pub counts_few : (t : ℕ) → t < total f.settings → count_at f.tiles t ≤ 16
  counts_few t l = few_on f (well_few f w) (well_fits f w) t l

  pub encode_heads : length (encode (view f)) ≡ header_length + length (settings_body f.settings) + counters_length (hopper_count f.settings) + layout_length * length (used_layouts f.layouts) + heads_size f.tiles (total f.settings) + header_length
  encode_heads =
      let n = (well_lengths f w).1 in
      let u = upto_size f.tiles f.canisters (total f.settings) (omega (arith, n, well_few f w)) counts_few in
      omega (arith, encode_long f, front_long f.settings f.counters f.layouts, u)

  -- how many hoppers the code counts
  pub hoppers_are : (h : ℕ) → h ≡ length (bits_below f.settings.hoppers 64) → h ≡ hopper_count f.settings
  unfolding hoppers_of
  hoppers_are h e = let M = well_measured f w in e ∙ ap (λ (l : List ℕ). length l) (bits_within f.settings.hoppers (total f.settings) 64 M.few M.hoppers_on)

  pub hoppers_four : (h : ℕ) → h ≡ hopper_count f.settings → h ≤ 4
  hoppers_four h e = omega (arith, (well_measured f w).hoppers_few)

-- what write_image knows of a floor f and a buffer b: n tiles and h hoppers
pub record WriteRoom (f : Floor) (n h : ℕ) (b : List ℕ) : Type 0 where
  pub well : well_formed f ≡ true
  pub tiles : n ≡ total f.settings
  pub hoppers : h ≡ hopper_count f.settings
  pub long : length (encode (view f)) ≡ length (front_of f) + length (upto f.tiles f.canisters n) + header_length
  pub fits : length (encode (view f)) ≤ length b

pub write_room : (f : Floor) (n h : ℕ) (b : List ℕ) → (well_formed f ≡ true) × (length (encode (view f)) ≤ length b) → n ≡ total f.settings → h ≡ length (bits_below f.settings.hoppers 64) → WriteRoom f n h b
write_room f n h b p e k = record { well = p.0; tiles = e; hoppers = hoppers_are f p.0 h k; long = rw e (encode_long f); fits = p.1 }

pub write_put : {f : Floor} {n h : ℕ} {b : List ℕ} → WriteRoom f n h b → (b1 b2 b3 : List ℕ) (front end : ℕ) → front ≡ length (front_of f) → end ≡ front + length (upto f.tiles f.canisters n)
    → b1 ≡ put b 0 (front_of f) → b2 ≡ put b1 front (upto f.tiles f.canisters n) → b3 ≡ put b2 end (bytes 2 0 ++ bytes 2 4) → b3 ≡ put b 0 (encode (view f))
write_put {f} {n} {h} {b} r b1 b2 b3 front end e2 e3 p q u =
    rw (encode_is f, ← end_record, ← r.tiles)
    (put_three b b1 b2 b3 0 front end (front_of f) (upto f.tiles f.canisters n) (bytes 2 0 ++ bytes 2 4)
    (omega (arith, r.fits, r.long, pair_length 0 4)) (omega arith) (omega arith) p q u)

-- what image_length knows of a floor f: n tiles, h hoppers, how long record 1 is, and how many layouts there are
pub record Parts (f : Floor) (n h first filled : ℕ) : Type 0 where
  pub well : well_formed f ≡ true
  pub tiles : n ≡ total f.settings
  pub hoppers : h ≡ hopper_count f.settings
  pub four : h ≤ 4
  pub first_long : first ≡ header_length + length (settings_body f.settings)
  pub first_small : first ≤ 32
  pub used : filled ≡ length (used_layouts f.layouts)
  pub eight : filled ≤ 8

pub parts_of : (f : Floor) (n h first filled : ℕ) → well_formed f ≡ true → n ≡ total f.settings → h ≡ length (bits_below f.settings.hoppers 64) → first ≡ cond (ltb 1 h) 32 24 → (filled ≡ length (used_layouts f.layouts)) × (filled ≤ 8) → Parts f n h first filled
parts_of f n h first filled w e k r u =
    let he = hoppers_are f w h k in
    record {
      well = w;
      tiles = e;
      hoppers = he;
      four = hoppers_four f w h he;
      first_long = first_is f.settings h first he r;
      first_small = small (ltb 1 h) r;
      used = u.0;
      eight = u.1;
    }
  where
    small : (b : Bool) → first ≡ cond b 32 24 → first ≤ 32
    small true q = omega arith
    small false q = omega arith
