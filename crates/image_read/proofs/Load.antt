-- The parts joined: the canisters are those of the floor that was read, and each return of read_front and read_image is what the definitions say.
use mathlib.Core.Path.{◌≡◌, refl, sym, ap, ◌∙◌}
use mathlib.Core.Logic.{◌⊎◌, ◌≢◌}
use mathlib.Core.Bool.{Bool, true, false, cond, ◌&&◌}
use mathlib.Core.List.{List, ◌∷◌}
use Prim.Native.Nat.{ℕ, zero, suc, ◌+◌, ◌-◌, ◌*◌, ◌/◌, ◌%◌, ◌≤◌, ◌<◌}
use native.Mathlib.Omega.{arith}
use native.Mathlib.Decide.{dec_le}
use lib.Dec.{ltb}
use borrow.Author.Tests.{lt-ltb, le-ltb, ne_eqb}
use lib.ListN.{length, take, drop, get_or, length-drop, get_or-eq_default}
use lib.Seq.{drop-drop, get_or-take, length-take-le}
use Rattle.laws.specs.Define.{tab, all_of, bits_below, refusal}
use Rattle.laws.proofs.SetBits.{bits_within}
use Rattle.laws.proofs.Tables.{tab_length, tab_at, tab_same, filled}
use Rattle.image_bytes.specs.Bytes.{le, field}
use Rattle.floor.specs.declared.Settings.{Settings}
use Rattle.floor.specs.declared.Counters.{Counters}
use Rattle.floor.specs.declared.Canister.{Canister}
use Rattle.floor.specs.declared.Layout.{Layout}
use Rattle.floor.specs.Settings.{total, hoppers_of}
use Rattle.floor.specs.Model.{TileState}
use Rattle.floor.specs.Memory.{zero_canister, zero_layout, zero_floor, unused, head, rows, layout_places, build, pack}
use Rattle.floor.proofs.Rows.{rows_filled}
use Rattle.image.specs.Image.{hopper_count, tile_widths, length_in, body_in, rest_in_of, settings_in, counters_in, canister_in, canisters_in, tile_in, tiles_in, layout_in, layouts_in, after_layouts, model_in, record_fault, or_else, tiles_fault, layouts_fault, front_fault, fault, answer_by, all_named, records_refusal, records_answer}
use Rattle.image.proofs.Records.{whole}
use Rattle.image.proofs.Sizes.{header_length, layout_length, counters_length}
use Rattle.image.proofs.LoadedWrites.{canisters_length, settings_good, counters_good}
use Rattle.image_record_read.proofs.Refusals.{room_20}
use Rattle.image.proofs.Read.{first_measured}
use Rattle.image_record_read.specs.InternalScan.{Holds, layout_from, LayoutsAt, Starts}
use Rattle.image_record_read.specs.declared.Record.{Record}
use Rattle.image_record_read.specs.declared.Record.TheVariants as R
use Rattle.image_record_read.specs.declared.Scan.{Scan}
use Rattle.image_record_read.proofs.Values.{layout_some}
use Rattle.image_record_read.proofs.Walk.{rest_at, record_room, tiles_at, tiles_off}
use Rattle.image_read.specs.InternalArrays.{canister_at, canister_from}
use Rattle.image_read.specs.declared.Front.{Front}
use Rattle.image_read.specs.InternalFront.{FrontRead}

-- ---- the canisters, by their place
canisters_at : (n j : ℕ) (b : List ℕ) → j < n → get_or (canisters_in n b) j zero_canister ≡ canister_in (drop (8 * j) b)
unfolding canisters_in
canisters_at zero j b h = absurd (omega arith)
canisters_at (suc n) zero b h = refl
canisters_at (suc n) (suc j) b h =
    let e : 8 + 8 * j ≡ 8 * suc j = omega arith in
    canisters_at n j (drop 8 b) (omega arith) ∙ rw (drop-drop (8 * j) 8 b, e)

members_some : (b : List ℕ) (j : ℕ) → j < field tile_widths 5 b → get_or (tile_in b).members j zero_canister ≡ canister_in (drop (8 * j) (drop 6 b))
unfolding tile_in
members_some b j h = canisters_at (field tile_widths 5 b) j (drop 6 b) h

members_none : (b : List ℕ) (j : ℕ) → field tile_widths 5 b ≤ j → get_or (tile_in b).members j zero_canister ≡ zero_canister
unfolding tile_in
members_none b j h = get_or-eq_default (canisters_in (field tile_widths 5 b) (drop 6 b)) zero_canister (omega (arith, canisters_length (field tile_widths 5 b) (drop 6 b)))

module _ (s xs starts : List ℕ) (n : ℕ) (f : Starts s xs starts n) where
  abbrev shown : ℕ → TileState
  shown t = get_or (tiles_in n xs) t unused

  tile_is : (t : ℕ) → t < n → shown t ≡ tile_in (drop (get_or starts t 0) s)
  tile_is t h = tiles_at n t xs h ∙ ap (λ (l : List ℕ). tile_in l) (sym (f t h).spot)

  place_is : (t j : ℕ) → canister_at s (get_or starts t 0) (ltb t n) j ≡ get_or (shown t).members j zero_canister
  unfolding canister_at
  place_is t j = go (dec_le (suc t) n) (dec_le (suc j) (field tile_widths 5 (drop (get_or starts t 0) s)))
    where
      p : ℕ
      p = get_or starts t 0

      m : ℕ
      m = field tile_widths 5 (drop (get_or starts t 0) s)

      go : Dec (t < n) → Dec (j < field tile_widths 5 (drop (get_or starts t 0) s))
          → cond (ltb t n && ltb j (field tile_widths 5 (drop (get_or starts t 0) s))) (canister_in (drop (get_or starts t 0 + 6 + 8 * j) s)) zero_canister ≡ get_or (shown t).members j zero_canister
      go (no h) d = let k : n ≤ t = omega arith in rw (le-ltb t n k) (sym (ap (λ (x : TileState). get_or x.members j zero_canister) (tiles_off n t xs k)))
      go (yes h) (yes q) =
          let e : get_or (shown t).members j zero_canister ≡ canister_in (drop (8 * j) (drop 6 (drop p s))) = ap (λ (x : TileState). get_or x.members j zero_canister) (tile_is t h) ∙ members_some (drop p s) j q in
          let d : drop (8 * j) (drop 6 (drop p s)) ≡ drop (p + 6 + 8 * j) s = rw (drop-drop 6 p s, drop-drop (8 * j) (p + 6) s) in
          rw (lt-ltb t n h, lt-ltb j m q, e, d)
      go (yes h) (no q) =
          let k : m ≤ j = omega arith in
          let e : get_or (shown t).members j zero_canister ≡ zero_canister = ap (λ (x : TileState). get_or x.members j zero_canister) (tile_is t h) ∙ members_none (drop p s) j k in
          rw (lt-ltb t n h, le-ltb j m k, e)

  pub canisters_are : tab 1024 (canister_from s starts n) ≡ rows 64 0 shown
  canisters_are = rows_filled shown (tab 1024 (canister_from s starts n)) (tab_length 1024 (canister_from s starts n)) (λ i k. tab_at 1024 (canister_from s starts n) i zero_canister k ∙ place_is (i / 16) (i % 16))

-- ---- the records in order
module _ (xs : List ℕ) where
  abbrev settings : Settings
  settings = settings_in (length_in xs) (body_in xs)

  front_1 : record_fault 1 0 xs ≢ 0 → front_fault xs ≡ record_fault 1 0 xs
  unfolding front_fault
  front_1 h = rw (ne_eqb (record_fault 1 0 xs) 0 h)

  front_2 : record_fault 1 0 xs ≡ 0 → record_fault 2 (hopper_count settings) (rest_in_of xs) ≢ 0 → front_fault xs ≡ record_fault 2 (hopper_count settings) (rest_in_of xs)
  unfolding front_fault
  front_2 z h = rw (z, ne_eqb (record_fault 2 (hopper_count settings) (rest_in_of xs)) 0 h)

  front_3 : record_fault 1 0 xs ≡ 0 → record_fault 2 (hopper_count settings) (rest_in_of xs) ≡ 0 → front_fault xs ≡ layouts_fault 8 (rest_in_of (rest_in_of xs))
  unfolding front_fault
  front_3 z y = rw (z, y)

  -- the front, then the tiles
  fault_front : fault xs ≡ or_else (front_fault xs) (tiles_fault (total settings) 0 (after_layouts 8 (rest_in_of (rest_in_of xs))))
  unfolding fault
  fault_front = refl

  answer_refused : (k : ℕ) → fault xs ≡ k → k ≢ 0 → record { refusal = k; floor = zero_floor } ≡ records_answer xs
  unfolding records_answer records_refusal answer_by
  answer_refused k e h = rw (e, ne_eqb k 0 h, ne_eqb k 0 h)

  pub answer_1 : (k : ℕ) → k ≡ front_fault xs → k ≢ 0 → record { refusal = k; floor = zero_floor } ≡ records_answer xs
  answer_1 k e h = answer_refused k (fault_front ∙ rw (← e, ne_eqb k 0 h)) h

-- ---- room for the records that were found
pub record First (xs : List ℕ) : Type 0 where
  pub long : (length_in xs ≡ 20) ⊎ (length_in xs ≡ 28)
  pub enough : 4 + length_in xs ≤ length xs
  pub room : 24 ≤ length xs

pub first_ok : (xs : List ℕ) → record_fault 1 0 xs ≡ 0 → First xs
first_ok xs h =
    let w = whole 1 0 xs h in
    let e = (settings_good xs w).long in
    record { long = e; enough = w.enough; room = omega (arith, room_20 4 (length_in xs) (length xs) w.enough e) }

pub record Second (h : ℕ) (xs : List ℕ) : Type 0 where
  pub long : length_in xs ≡ 8 + 4 * h
  pub enough : counters_length h ≤ length xs

pub second_ok : (h : ℕ) (xs : List ℕ) → record_fault 2 h xs ≡ 0 → Second h xs
second_ok h xs z =
    let w = whole 2 h xs z in
    let e = counters_good h xs w in
    record { long = e; enough = omega (arith, w.enough) }

-- ---- the layouts that were read
less_suc : (k n : ℕ) → ltb k n ≡ ltb (suc k) (suc n)
less_suc k n = go (dec_le (suc k) n)
  where
    go : Dec (k < n) → ltb k n ≡ ltb (suc k) (suc n)
    go (yes h) = lt-ltb k n h ∙ sym (lt-ltb (suc k) (suc n) (omega arith))
    go (no h) = le-ltb k n (omega arith) ∙ sym (le-ltb (suc k) (suc n) (omega arith))

places_tab : (m n : ℕ) (g : ℕ → Layout) → layout_places m (tab n g) ≡ tab m (λ k. cond (ltb k n) (g k) zero_layout)
unfolding layout_places tab
places_tab zero n g = refl
places_tab (suc m) zero g =
    ap (λ (l : List Layout). zero_layout ∷ l) (places_tab m zero (λ k. g (suc k)) ∙ tab_same m _ _ (λ k h. rw (le-ltb k 0 (omega arith), le-ltb (suc k) 0 (omega arith))))
places_tab (suc m) (suc n) g =
    rw (lt-ltb 0 (suc n) (omega arith))
    (ap (λ (l : List Layout). g 0 ∷ l) (places_tab m n (λ k. g (suc k)) ∙ tab_same m _ _ (λ k h. ap (λ (b : Bool). cond b (g (suc k)) zero_layout) (less_suc k n))))

module _ (s : List ℕ) (from n : ℕ) (ls : List Layout) (L : LayoutsAt s from n ls) where
  abbrev ys : List ℕ
  ys = drop from s

  abbrev each : ℕ → Layout
  each k = layout_in (drop (from + header_length + layout_length * k) s)

  layouts_are : tab 8 (layout_from s from n) ≡ layout_places 8 (layouts_in 8 ys)
  unfolding layout_from
  layouts_are = sym (ap (layout_places 8) L.values ∙ places_tab 8 n each)

  layouts_first : take n (tab 8 (layout_from s from n)) ≡ layouts_in 8 ys
  layouts_first =
      let f = layout_from s from n in
      let len : length (take n (tab 8 f)) ≡ n = length-take-le n (tab 8 f) (omega (arith, tab_length 8 f, L.few)) in
      filled n each zero_layout (take n (tab 8 f)) len (λ i h. get_or-take n (tab 8 f) i zero_layout h ∙ tab_at 8 f i zero_layout (omega (arith, L.few)) ∙ sym (layout_some s from n i h)) ∙ sym L.values

-- ---- read_front, by what the code read: a and b are what the records of kinds 1 and 2 hold, u and w are the lengths of their
-- bodies, h is the number of hoppers
pub record FirstRead (x : List ℕ) (a : Settings) (u h : ℕ) : Type 0 where
  pub sound : record_fault 1 0 x ≡ 0
  pub holds : a ≡ settings_in (length_in x) (body_in x)
  pub long : u ≡ le 2 x
  pub counted : h ≡ length (bits_below a.hoppers 64)

pub record SecondRead (x : List ℕ) (a : Settings) (u h : ℕ) (b : Counters) : Type 0 where
  pub first : FirstRead x a u h
  pub sound : record_fault 2 h (drop (4 + u) x) ≡ 0
  pub holds : b ≡ counters_in h (body_in (drop (4 + u) x))

pub first_read : {x : List ℕ} {a : Settings} {u h : ℕ} {m : Record} → (0 ≡ record_fault 1 0 x) × Holds 1 0 x m → m ≡ R.Settings a → u ≡ le 2 x → h ≡ length (bits_below a.hoppers 64) → FirstRead x a u h
first_read r q n m = let p = rw q at r.1 in record { sound = sym r.0; holds = p.1; long = n; counted = m }

pub second_read : {x : List ℕ} {a : Settings} {u h : ℕ} {b : Counters} {m : Record} → FirstRead x a u h → (0 ≡ record_fault 2 h (drop (4 + u) x)) × Holds 2 h (drop (4 + u) x) m → m ≡ R.Counters b → SecondRead x a u h b
second_read F r q = let p = rw q at r.1 in record { first = F; sound = sym r.0; holds = p.1 }

module _ (x : List ℕ) (k : ℕ) (e : k ≡ record_fault 1 0 x) where
  pub stop_1 : k ≢ 0 → k ≡ front_fault x
  stop_1 n = e ∙ sym (front_1 x (λ q. n (e ∙ q)))

  pub first_long : k ≡ 0 → 2 ≤ length x
  first_long z = omega (arith, (first_ok x (sym e ∙ z)).room)

module _ {x : List ℕ} {a : Settings} {u h : ℕ} (F : FirstRead x a u h) where
  abbrev read : Settings
  read = settings_in (length_in x) (body_in x)

  hoppers_are : h ≡ hopper_count read
  unfolding hoppers_of
  hoppers_are =
      let M = first_measured x F.sound in
      F.counted ∙ ap (λ (y : Settings). length (bits_below y.hoppers 64)) F.holds ∙ ap (λ (l : List ℕ). length l) (bits_within read.hoppers (total read) 64 M.few M.hoppers_on)

  pub hoppers_few : h ≤ 4
  hoppers_few = omega (arith, hoppers_are, (first_measured x F.sound).hoppers_few)

  pub second_begins : header_length + u ≤ length x
  second_begins = omega (arith, F.long, (first_ok x F.sound).enough)

  rest_1 : drop (header_length + u) x ≡ rest_in_of x
  rest_1 = rw F.long

  second_is : record_fault 2 h (drop (header_length + u) x) ≡ record_fault 2 (hopper_count read) (rest_in_of x)
  second_is = ap (record_fault 2 h) rest_1 ∙ ap (λ (n : ℕ). record_fault 2 n (rest_in_of x)) hoppers_are

  pub stop_2 : (k : ℕ) → k ≡ record_fault 2 h (drop (header_length + u) x) → k ≢ 0 → k ≡ front_fault x
  stop_2 k e n = let q = e ∙ second_is in q ∙ sym (front_2 x F.sound (λ o. n (q ∙ o)))

module _ {x : List ℕ} {a : Settings} {u h : ℕ} {b : Counters} (S : SecondRead x a u h b) where
  pub second_long : counters_length h ≤ length x - (header_length + u)
  second_long = rw length-drop at (second_ok h (drop (header_length + u) x) S.sound).enough

  module _ (w : ℕ) (n : w ≡ le 2 (drop (header_length + u) x)) where
    rest_2 : drop (header_length + u + header_length + w) x ≡ rest_in_of (rest_in_of x)
    rest_2 = sym (rest_at x (header_length + u) w n) ∙ ap (λ (l : List ℕ). rest_in_of l) (rest_1 S.first)

    pub third_begins : header_length + u + header_length + w ≤ length x
    third_begins = omega (arith, n, record_room x (header_length + u) 2 h (second_begins S.first) S.sound)

    pub front_is : (k : ℕ) → k ≡ layouts_fault 8 (drop (header_length + u + header_length + w) x) → k ≡ front_fault x
    front_is k e = e ∙ ap (layouts_fault 8) rest_2 ∙ sym (front_3 x S.first.sound (sym (second_is S.first) ∙ S.sound))

    pub front_read : (m : ℕ) (ls : List Layout) → LayoutsAt x (header_length + u + header_length + w) m ls
        → FrontRead x record { settings = a; counters = b; layouts = ls; count = m; next = header_length + u + header_length + w + layout_length * m }
    unfolding model_in
    front_read m ls L =
        let from = header_length + u + header_length + w in
        let st = S.first.holds in
        record {
          settings = st;
          counters = S.holds ∙ ap (λ (l : List ℕ). counters_in h (body_in l)) (rest_1 S.first) ∙ ap (λ (n : ℕ). counters_in n (body_in (rest_in_of x))) (hoppers_are S.first);
          layouts = L.places ∙ layouts_are x from m ls L ∙ ap (λ (l : List ℕ). layout_places 8 (layouts_in 8 l)) rest_2;
          used = ap (take m) L.places ∙ layouts_first x from m ls L ∙ ap (layouts_in 8) rest_2;
          few = L.few;
          size = rw st (first_measured x S.first.sound).few;
          room = L.room;
          rest = ap (after_layouts 8) (sym rest_2) ∙ L.rest;
        }

-- ---- read_image, by what the code read: r is the front, n the number of tiles, t what the scan of their records found
pub record FrontKept (xs : List ℕ) (r : Front) (n : ℕ) : Type 0 where
  pub sound : front_fault xs ≡ 0
  pub front : FrontRead xs r
  pub tiles : n ≡ total r.settings

pub record TilesRead (xs : List ℕ) (r : Front) (n : ℕ) (t : Scan) : Type 0 where
  pub kept : FrontKept xs r n
  pub sound : tiles_fault n 0 (drop r.next xs) ≡ 0
  pub starts : Starts xs (drop r.next xs) t.starts n
  pub heads : t.tiles ≡ tab 64 (λ t. head (get_or (tiles_in n (drop r.next xs)) t unused))

pub front_kept : {xs : List ℕ} {r : Front} {n : ℕ} → (0 ≡ front_fault xs) × FrontRead xs r → n ≡ total r.settings → FrontKept xs r n
front_kept e n = record { sound = sym e.0; front = e.1; tiles = n }

pub tiles_read : {xs : List ℕ} {r : Front} {n : ℕ} {t : Scan} → FrontKept xs r n → (0 ≡ tiles_fault n 0 (drop r.next xs)) × (Starts xs (drop r.next xs) t.starts n × (t.tiles ≡ tab 64 (λ t. head (get_or (tiles_in n (drop r.next xs)) t unused)))) → TilesRead xs r n t
tiles_read K e = record { kept = K; sound = sym e.0; starts = e.1.0; heads = e.1.1 }

module _ {xs : List ℕ} {r : Front} {n : ℕ} (K : FrontKept xs r n) where
  abbrev all : ℕ
  all = total (settings_in (length_in xs) (body_in xs))

  all_is : all ≡ n
  unfolding model_in
  all_is = sym (K.tiles ∙ ap (λ (y : Settings). total y) K.front.settings)

  tiles_same : tiles_in n (drop r.next xs) ≡ (model_in xs).tiles
  unfolding model_in
  tiles_same = rw (← all_is, ← K.front.rest)

  fault_is : fault xs ≡ tiles_fault n 0 (drop r.next xs)
  fault_is = fault_front xs ∙ rw (K.sound, all_is, K.front.rest)

  pub answer_2 : (k : ℕ) → k ≡ tiles_fault n 0 (drop r.next xs) → k ≢ 0 → record { refusal = k; floor = zero_floor } ≡ records_answer xs
  answer_2 k e h = answer_refused xs k (fault_is ∙ sym e) h

module _ {xs : List ℕ} {r : Front} {n : ℕ} {t : Scan} (T : TilesRead xs r n t) (b : Bool) (e : b ≡ all_of (λ x. ltb 0 x.name) (take r.count r.layouts)) where
  abbrev F : FrontRead xs r
  F = T.kept.front

  all_are : b ≡ all_named (model_in xs)
  unfolding all_named
  all_are = e ∙ ap (all_of (λ x. ltb 0 x.name)) F.used

  pub answer_3 : b ≡ false → record { refusal = 12; floor = zero_floor } ≡ records_answer xs
  unfolding records_answer records_refusal answer_by refusal
  answer_3 f = rw (fault_is T.kept ∙ T.sound, sym all_are ∙ f)

  good : b ≡ true → record { refusal = 0; floor = pack (model_in xs) } ≡ records_answer xs
  unfolding records_answer records_refusal answer_by refusal
  good f = rw (fault_is T.kept ∙ T.sound, sym all_are ∙ f)

  pub answer_4 : b ≡ true → (cs : List Canister) → cs ≡ tab 1024 (canister_from xs t.starts n)
      → record { refusal = 0; floor = record { settings = r.settings; counters = r.counters; tiles = t.tiles; canisters = cs; layouts = r.layouts } } ≡ records_answer xs
  unfolding pack build
  answer_4 f cs ke =
      let same = tiles_same T.kept in
      let t1 : t.tiles ≡ tab 64 (λ t. head (get_or (model_in xs).tiles t unused)) = T.heads ∙ ap (λ (l : List TileState). tab 64 (λ t. head (get_or l t unused))) same in
      let c1 : cs ≡ rows 64 0 (λ t. get_or (model_in xs).tiles t unused) = ke ∙ canisters_are xs (drop r.next xs) t.starts n T.starts ∙ ap (λ (l : List TileState). rows 64 0 (λ t. get_or l t unused)) same in
      (λ i. record { refusal = 0; floor = record { settings = F.settings i; counters = F.counters i; tiles = t1 i; canisters = c1 i; layouts = F.layouts i } }) ∙ good f
