-- A floor as a value is read back as it was packed; a floor that fits is what its value packs to; what a well-formed floor has.
use mathlib.Core.Path.{◌≡◌, refl, sym, ap, ◌∙◌}
use mathlib.Core.Logic.{◌≢◌}
use mathlib.Core.Bool.{true, cond, ◌&&◌}
use mathlib.Core.List.{List}
use Prim.Native.Nat.{ℕ, suc, ◌+◌, ◌*◌, ◌/◌, ◌%◌, ◌≤◌, ◌<◌}
use native.Mathlib.Omega.{arith}
use native.Mathlib.Decide.{dec_le, ℕ_discrete}
use lib.Dec.{leb, ltb}
use lib.ListN.{length, get_or, set, take, drop, length-take, length-drop, length-set, get_or-eq_default}
use lib.Seq.{ext_get_or, get_or-take, get_or-drop, get_or-set_same, get_or-set_other, length-take-le}
use borrow.Author.Tests.{leb-true, lt-ltb, le-ltb, le-leb}
use Rattle.laws.specs.Define.{tab, all_of}
use Rattle.laws.proofs.Tests.{and_left, and_right, and_true}
use Rattle.laws.proofs.Lists.{get_same}
use Rattle.laws.proofs.Tables.{tab_length, tab_at, tab_off, filled, and_swap}
use Rattle.floor.specs.declared.Canister.{Canister}
use Rattle.floor.specs.declared.Settings.{Settings}
use Rattle.floor.specs.declared.Counters.{Counters}
use Rattle.floor.specs.declared.Tile.{Tile}
use Rattle.floor.specs.declared.Layout.{Layout}
use Rattle.floor.specs.declared.Floor.{Floor}
use Rattle.floor.specs.Settings.{total, settings_pass}
use Rattle.floor.specs.Model.{TileState, Model, no_tile_of, tile_of, members_of, with_tiles, with_tile, with_counters, with_layouts}
use Rattle.floor.specs.Memory.{zero_tile, zero_canister, head_of, state_of, view, unused, head, rows, build, pack, is_zero_canister, is_zero_tile, block, head_fits, tile_fits, state_fits, fits, layouts_fit, used_layouts, layout_places, refilled, retiled, relaid}
use Rattle.floor.specs.Layouts.{layouts_sound}
use Rattle.floor.specs.Well.{state_sound, sound, state_well, layouts_well, well_formed}
use Rattle.floor.proofs.Sound.{Measured, Sound}
use Rattle.floor.proofs.Well.{settings_fact, sound_fact}
use Rattle.floor.proofs.Rows.{rows_length, place_at, rows_place, rows_filled, zero_tile_lem, view_at, rest_zero, rest_of, fits_tiles, fits_canisters, tiles_fit_at, fits_of, fits_layouts, layouts_back, Placed, used_places, layouts_fit_lem, sound_named}

-- ---- a value that memory has room for, packed
module _ (m : Model) (len : length m.tiles ≡ total m.settings) (few : total m.settings ≤ 64)
    (small : (t : ℕ) → t < total m.settings → length (members_of m t) ≤ 16) (layouts-placed : Placed m.layouts) where
  abbrev g : ℕ → TileState
  g t = get_or m.tiles t unused

  room : (t : ℕ) → t < total m.settings → length (g t).members ≤ 16
  room t h =
      let e : g t ≡ tile_of m t = get_same m.tiles t unused no_tile_of (omega arith) in
      omega (arith, small t h, ap (λ (x : TileState). length x.members) e)

  head_packed : (t : ℕ) → t < 64 → head_of (pack m) t ≡ head (g t)
  unfolding pack build
  head_packed t h = tab_at 64 (λ t. head (g t)) t zero_tile h

  place_packed : (t k : ℕ) → t < 64 → k < 16 → get_or (drop (16 * t) (pack m).canisters) k zero_canister ≡ get_or (g t).members k zero_canister
  unfolding pack build
  place_packed t k h i =
      let q : (16 * t + k) / 16 ≡ t = omega arith in
      let r : (16 * t + k) % 16 ≡ k = omega arith in
      get_or-drop (16 * t) (rows 64 0 g) k zero_canister ∙ rows_place g (16 * t + k) (omega arith) ∙ rw (q, r)

  packed_length : length (pack m).canisters ≡ 1024
  unfolding pack build
  packed_length = rows_length 64 0 g

  items : (t : ℕ) → t < total m.settings → take (length (g t).members) (drop (16 * t) (pack m).canisters) ≡ (g t).members
  items t h =
      let s = room t h in
      let n : length (take (length (g t).members) (drop (16 * t) (pack m).canisters)) ≡ length (g t).members
      = length-take-le _ (drop (16 * t) (pack m).canisters) (rw length-drop (omega (arith, packed_length))) in
      ext_get_or zero_canister _ _ n (λ i k. let j : i < length (g t).members = omega arith in get_or-take (length (g t).members) (drop (16 * t) (pack m).canisters) i zero_canister j ∙ place_packed t i (omega arith) (omega arith))

  pub state_packed : (t : ℕ) → t < total m.settings → state_of (pack m) t ≡ get_or m.tiles t unused
  unfolding state_of head
  state_packed t h = let e : head_of (pack m) t ≡ head (g t) = head_packed t (omega arith) in rw (e, items t h)

  pub view_pack : view (pack m) ≡ m
  unfolding view pack build
  view_pack = ap (with_layouts (with_tiles m (tab (total m.settings) (state_of (pack m))))) (used_places 8 m.layouts layouts-placed.0 layouts-placed.1)
      ∙ ap (λ (ts : List TileState). with_tiles m ts) (sym (filled (total m.settings) (state_of (pack m)) unused m.tiles len (λ t h. sym (state_packed t h))))

  pub fits_pack : fits (pack m) ≡ true
  unfolding pack build tile_fits head_fits head is_zero_tile
  fits_pack = fits_of (pack m) (tab_length 64 (λ t. head (g t))) packed_length one (layouts_fit_lem m.layouts layouts-placed.0 layouts-placed.1)
    where
      first : (t : ℕ) → head_fits m.settings t (head (g t)) ≡ true
      first t = go (dec_le (suc t) (total m.settings))
        where
          go : Dec (t < total m.settings) → cond (ltb t (total m.settings)) (leb (length (g t).members) 16) (is_zero_tile (head (g t))) ≡ true
          go (yes h) = rw (lt-ltb t (total m.settings) h) (le-leb (length (g t).members) 16 (room t h))
          go (no h) =
              let q : total m.settings ≤ t = omega arith in
              let off : g t ≡ unused = get_or-eq_default m.tiles unused (omega arith) in
              rw (le-ltb t (total m.settings) q) (ap (λ (x : TileState). is_zero_tile (head x)) off)

      rest : (t : ℕ) → t < 64 → all_of is_zero_canister (drop (length (g t).members) (block (pack m).canisters t)) ≡ true
      rest t h =
          rest_of (length (g t).members) (block (pack m).canisters t)
          (λ j p q. let i : j < 16 = omega (arith, length-take 16 (drop (16 * t) (pack m).canisters)) in
          get_or-take 16 (drop (16 * t) (pack m).canisters) j zero_canister i ∙ place_packed t j h i ∙ get_or-eq_default (g t).members zero_canister p)

      one : (t : ℕ) → t < 64 → tile_fits m.settings t (head_of (pack m) t) (block (pack m).canisters t) ≡ true
      one t h = ap (λ (x : Tile). tile_fits m.settings t x (block (pack m).canisters t)) (head_packed t h) ∙ and_true (first t) (rest t h)

-- ---- a floor that fits, read and packed
-- the tile that memory shows, on the floor and off it
abbrev pub shown : Floor → ℕ → TileState
shown f t = get_or (tab (total f.settings) (state_of f)) t unused

module _ (f : Floor) (few : total f.settings ≤ 64) (ok : fits f ≡ true) where
  abbrev C : ℕ
  C = total f.settings

  head_fits_lem : (t : ℕ) → t < 64 → head_fits f.settings t (head_of f t) ≡ true
  unfolding tile_fits
  head_fits_lem t h = and_left _ _ (tiles_fit_at f ok t h)

  pub few_on : (t : ℕ) → t < C → (head_of f t).count ≤ 16
  unfolding head_fits
  few_on t h = leb-true _ 16 (rw (lt-ltb t C h) at (head_fits_lem t (omega arith)))

  pub zero_off : (t : ℕ) → t < 64 → C ≤ t → head_of f t ≡ zero_tile
  unfolding head_fits
  zero_off t k h = zero_tile_lem (head_of f t) (rw (le-ltb t C h) at (head_fits_lem t k))

  pub zero_place : (i : ℕ) → i < 1024 → (head_of f (i / 16)).count ≤ i % 16 → get_or f.canisters i zero_canister ≡ zero_canister
  unfolding tile_fits
  zero_place i k h =
      let t : ℕ = i / 16 in
      let all = and_right (head_fits f.settings t (head_of f t)) _ (tiles_fit_at f ok t (omega arith)) in
      let n : length (block f.canisters t) ≡ 16 = length-take-le 16 (drop (16 * t) f.canisters) (rw length-drop (omega (arith, fits_canisters f ok))) in
      let e : 16 * t + i % 16 ≡ i = omega arith in
      let same : get_or (block f.canisters t) (i % 16) zero_canister ≡ get_or f.canisters i zero_canister
      = get_or-take 16 (drop (16 * t) f.canisters) (i % 16) zero_canister (omega arith) ∙ rw e at (get_or-drop (16 * t) f.canisters (i % 16) zero_canister) in
      sym same ∙ rest_zero (head_of f t).count (i % 16) (block f.canisters t) all h (omega arith)

  -- as many canisters are read as the tile counts
  pub head_state : (t : ℕ) → t < C → head (state_of f t) ≡ head_of f t
  unfolding head state_of
  head_state t h =
      let n : length (take (head_of f t).count (drop (16 * t) f.canisters)) ≡ (head_of f t).count
      = length-take-le _ (drop (16 * t) f.canisters) (rw length-drop (omega (arith, few_on t h, fits_canisters f ok))) in
      rw n

  pub head_shown : (t : ℕ) → t < 64 → head_of f t ≡ head (shown f t)
  unfolding head
  head_shown t k = go (dec_le (suc t) C)
    where
      go : Dec (t < C) → head_of f t ≡ head (shown f t)
      go (yes h) = sym (head_state t h) ∙ sym (ap head (tab_at C (state_of f) t unused h))
      go (no h) = let q : C ≤ t = omega arith in zero_off t k q ∙ sym (ap head (tab_off C (state_of f) t unused q))

  pub place_shown : (i : ℕ) → i < 1024 → get_or f.canisters i zero_canister ≡ place_at (shown f) i
  unfolding state_of
  place_shown i k = go (dec_le (suc (i / 16)) C) (dec_le (suc (i % 16)) (head_of f (i / 16)).count)
    where
      t : ℕ
      t = i / 16

      L : List Canister
      L = drop (16 * t) f.canisters

      by : {x : TileState} → shown f (i / 16) ≡ x → get_or f.canisters i zero_canister ≡ get_or x.members (i % 16) zero_canister → get_or f.canisters i zero_canister ≡ place_at (shown f) i
      by e p = p ∙ sym (ap (λ (x : TileState). get_or x.members (i % 16) zero_canister) e)

      go : Dec (i / 16 < C) → Dec (i % 16 < (head_of f (i / 16)).count) → get_or f.canisters i zero_canister ≡ place_at (shown f) i
      go (yes h) (yes q) =
          let e : 16 * t + i % 16 ≡ i = omega arith in
          by (tab_at C (state_of f) (i / 16) unused h) (rw (get_or-take (head_of f t).count L (i % 16) zero_canister q, get_or-drop (16 * t) f.canisters (i % 16) zero_canister, e))
      go (yes h) (no q) =
          let b : length (take (head_of f t).count L) ≤ i % 16 = rw length-take (omega arith) in
          by (tab_at C (state_of f) (i / 16) unused h) (zero_place i k (omega arith) ∙ sym (get_or-eq_default (take (head_of f t).count L) zero_canister b))
      go (no h) q =
          let o : C ≤ t = omega arith in
          let z : (head_of f t).count ≡ 0 = ap (λ (x : Tile). x.count) (zero_off t (omega arith) o) in
          by (tab_off C (state_of f) (i / 16) unused o) (zero_place i k (omega arith))

  pub pack_view : pack (view f) ≡ f
  unfolding pack view build
  pack_view = rw (sym (filled 64 (λ t. head (shown f t)) zero_tile f.tiles (fits_tiles f ok) head_shown), sym (rows_filled (shown f) f.canisters (fits_canisters f ok) place_shown), layouts_back f.layouts (fits_layouts f ok))

  -- one tile anew: the memory with that tile's head, and canisters that differ in its sixteen places alone
  pub pack_put : (c : Counters) (t : ℕ) (x : TileState) (cs : List Canister) → t < C → length cs ≡ 1024
      → ((i : ℕ) → i < 1024 → i / 16 ≡ t → get_or cs i zero_canister ≡ get_or x.members (i % 16) zero_canister)
      → ((i : ℕ) → i < 1024 → i / 16 ≢ t → get_or cs i zero_canister ≡ get_or f.canisters i zero_canister)
      → ◌≡◌ {A = Floor} (refilled f c (set f.tiles t (head x)) cs) (pack (with_counters (with_tile (view f) t x) c))
  unfolding pack view build
  pack_put c t x cs on lcs new old =
      rw (filled 64 (λ u. head (g u)) zero_tile (set f.tiles t (head x)) (length-set f.tiles t (head x) ∙ fits_tiles f ok) heads, rows_filled g cs lcs spots, layouts_back f.layouts (fits_layouts f ok))
    where
      g : ℕ → TileState
      g u = get_or (set (tab C (state_of f)) t x) u unused

      at : g t ≡ x
      at = get_or-set_same (tab C (state_of f)) t x unused (omega (arith, tab_length C (state_of f)))

      off : (u : ℕ) → u ≢ t → g u ≡ shown f u
      off u n = get_or-set_other (tab C (state_of f)) t u x unused n

      heads : (u : ℕ) → u < 64 → get_or (set f.tiles t (head x)) u zero_tile ≡ head (g u)
      heads u k = go (ℕ_discrete u t)
        where
          go : Dec (u ≡ t) → get_or (set f.tiles t (head x)) u zero_tile ≡ head (g u)
          go (yes e) = rw e (get_or-set_same f.tiles t (head x) zero_tile (omega (arith, fits_tiles f ok)) ∙ sym (ap head at))
          go (no n) = get_or-set_other f.tiles t u (head x) zero_tile n ∙ head_shown u k ∙ sym (ap head (off u n))

      spots : (i : ℕ) → i < 1024 → get_or cs i zero_canister ≡ place_at g i
      spots i k = go (ℕ_discrete (i / 16) t)
        where
          go : Dec (i / 16 ≡ t) → get_or cs i zero_canister ≡ place_at g i
          go (yes e) = new i k e ∙ sym (ap (λ (p : TileState). get_or p.members (i % 16) zero_canister) (ap g e ∙ at))
          go (no n) = old i k n ∙ place_shown i k ∙ sym (ap (λ (p : TileState). get_or p.members (i % 16) zero_canister) (off (i / 16) n))

  -- the same where the canisters stay
  pub pack_head : (t : ℕ) (x : TileState) → t < C → x.members ≡ (state_of f t).members
      → ◌≡◌ {A = Floor} (retiled f (set f.tiles t (head x))) (pack (with_tile (view f) t x))
  unfolding view
  pack_head t x on same = pack_put f.counters t x f.canisters on (fits_canisters f ok) new (λ i k n. refl)
    where
      new : (i : ℕ) → i < 1024 → i / 16 ≡ t → get_or f.canisters i zero_canister ≡ get_or x.members (i % 16) zero_canister
      new i k e = place_shown i k ∙ ap (λ (p : TileState). get_or p.members (i % 16) zero_canister) (ap (shown f) e ∙ tab_at C (state_of f) t unused on) ∙ ap (λ (l : List Canister). get_or l (i % 16) zero_canister) (sym same)

-- ---- arrays that a program filled, and a value given tile by tile
pub pack_tab : (s : Settings) (c : Counters) (x : ℕ → TileState) (ts : List Tile) (cs : List Canister) (ls : List Layout) → length ts ≡ 64 → length cs ≡ 1024
    → ((t : ℕ) → t < 64 → t < total s → get_or ts t zero_tile ≡ head (x t)) → ((t : ℕ) → t < 64 → total s ≤ t → get_or ts t zero_tile ≡ zero_tile)
    → ((i : ℕ) → i < 1024 → i / 16 < total s → get_or cs i zero_canister ≡ place_at x i) → ((i : ℕ) → i < 1024 → total s ≤ i / 16 → get_or cs i zero_canister ≡ zero_canister)
    → ◌≡◌ {A = Floor} (record { settings = s; counters = c; tiles = ts; canisters = cs; layouts = layout_places 8 ls }) (pack (record { settings = s; counters = c; tiles = tab (total s) x; layouts = ls }))
unfolding pack build head
pack_tab s c x ts cs ls lt lc on off used free = rw (filled 64 (λ t. head (g t)) zero_tile ts lt heads, rows_filled g cs lc spots)
  where
    g : ℕ → TileState
    g t = get_or (tab (total s) x) t unused

    heads : (t : ℕ) → t < 64 → get_or ts t zero_tile ≡ head (g t)
    heads t k = go (dec_le (suc t) (total s))
      where
        go : Dec (t < total s) → get_or ts t zero_tile ≡ head (g t)
        go (yes h) = on t k h ∙ sym (ap head (tab_at (total s) x t unused h))
        go (no h) = let q : total s ≤ t = omega arith in off t k q ∙ sym (ap head (tab_off (total s) x t unused q))

    spots : (i : ℕ) → i < 1024 → get_or cs i zero_canister ≡ place_at g i
    spots i k = go (dec_le (suc (i / 16)) (total s))
      where
        go : Dec (i / 16 < total s) → get_or cs i zero_canister ≡ place_at g i
        go (yes h) = used i k h ∙ sym (ap (λ (p : TileState). get_or p.members (i % 16) zero_canister) (tab_at (total s) x (i / 16) unused h))
        go (no h) = let q : total s ≤ i / 16 = omega arith in free i k q ∙ sym (ap (λ (p : TileState). get_or p.members (i % 16) zero_canister) (tab_off (total s) x (i / 16) unused q))

-- the same where the layouts stay as a floor that fits has them
pub pack_refilled : (f : Floor) → fits f ≡ true → (c : Counters) (x : ℕ → TileState) (ts : List Tile) (cs : List Canister) → length ts ≡ 64 → length cs ≡ 1024
    → ((t : ℕ) → t < 64 → t < total f.settings → get_or ts t zero_tile ≡ head (x t)) → ((t : ℕ) → t < 64 → total f.settings ≤ t → get_or ts t zero_tile ≡ zero_tile)
    → ((i : ℕ) → i < 1024 → i / 16 < total f.settings → get_or cs i zero_canister ≡ place_at x i) → ((i : ℕ) → i < 1024 → total f.settings ≤ i / 16 → get_or cs i zero_canister ≡ zero_canister)
    → ◌≡◌ {A = Floor} (refilled f c ts cs) (pack (with_counters (with_tiles (view f) (tab (total f.settings) x)) c))
unfolding view
pack_refilled f ok c x ts cs lt lc on off used free =
    ap (relaid (refilled f c ts cs)) (sym (layouts_back f.layouts (fits_layouts f ok)))
    ∙ pack_tab f.settings c x ts cs (used_layouts f.layouts) lt lc on off used free

-- the same where the canisters stay too
pub pack_heads : (f : Floor) → total f.settings ≤ 64 → fits f ≡ true
    → (x : ℕ → TileState) (ts : List Tile) → length ts ≡ 64 → ((t : ℕ) → t < total f.settings → (x t).members ≡ (state_of f t).members)
    → ((t : ℕ) → t < 64 → t < total f.settings → get_or ts t zero_tile ≡ head (x t)) → ((t : ℕ) → t < 64 → total f.settings ≤ t → get_or ts t zero_tile ≡ head_of f t)
    → ◌≡◌ {A = Floor} (retiled f ts) (pack (with_tiles (view f) (tab (total f.settings) x)))
unfolding view
pack_heads f few ok x ts len same on off = pack_refilled f ok f.counters x ts f.canisters len (fits_canisters f ok) on (λ t k h. off t k h ∙ zero_off f few ok t k h) used free
  where
    used : (i : ℕ) → i < 1024 → i / 16 < total f.settings → get_or f.canisters i zero_canister ≡ place_at x i
    used i k h =
        place_shown f few ok i k ∙ ap (λ (p : TileState). get_or p.members (i % 16) zero_canister) (tab_at (total f.settings) (state_of f) (i / 16) unused h)
        ∙ ap (λ (l : List Canister). get_or l (i % 16) zero_canister) (sym (same (i / 16) h))

    free : (i : ℕ) → i < 1024 → total f.settings ≤ i / 16 → get_or f.canisters i zero_canister ≡ zero_canister
    free i k h = let z : (head_of f (i / 16)).count ≡ 0 = ap (λ (p : Tile). p.count) (zero_off f few ok (i / 16) (omega arith) h) in zero_place f few ok i k (omega arith)

-- ---- a well-formed floor
pub well_sound : (f : Floor) → well_formed f ≡ true → Sound (view f)
unfolding well_formed
well_sound f h = (sound_fact (view f)).0 (and_left _ _ h)

pub well_fits : (f : Floor) → well_formed f ≡ true → fits f ≡ true
unfolding well_formed
well_fits f h = and_right (sound (view f)) _ h

pub well_of : (f : Floor) → Sound (view f) → fits f ≡ true → well_formed f ≡ true
unfolding well_formed
well_of f S h = and_true ((sound_fact (view f)).1 S) h

pub well_measured : (f : Floor) → well_formed f ≡ true → Measured f.settings
unfolding view
well_measured f h = (well_sound f h).measured

pub well_settings : (f : Floor) → well_formed f ≡ true → settings_pass f.settings ≡ true
well_settings f h = (settings_fact f.settings).1 (well_measured f h)

pub well_few : (f : Floor) → well_formed f ≡ true → total f.settings ≤ 64
well_few f h = (well_measured f h).few

pub well_lengths : (f : Floor) → well_formed f ≡ true → (length f.tiles ≡ 64) × (length f.canisters ≡ 1024)
well_lengths f h = (fits_tiles f (well_fits f h), fits_canisters f (well_fits f h))

pub well_placed : (f : Floor) → well_formed f ≡ true → Placed (view f).layouts
well_placed f h = sound_named (view f).settings (view f).layouts (well_sound f h).layouts_sound_lem

pub well_head : (f : Floor) (t : ℕ) → well_formed f ≡ true → t < total f.settings → head (state_of f t) ≡ head_of f t
well_head f t h on = head_state f (well_few f h) (well_fits f h) t on

-- the same by the tile of the value
pub head_read : (f : Floor) → total f.settings ≤ 64 → fits f ≡ true → (t : ℕ) → t < total f.settings → head_of f t ≡ head (tile_of (view f) t)
head_read f few ok t h = sym (head_state f few ok t h) ∙ ap head (sym (view_at f t no_tile_of h))

-- well formed in two parts, for the code
pub well_parts : (f : Floor) → well_formed f ≡ (state_well f && layouts_well f)
unfolding well_formed sound fits state_well layouts_well view
well_parts f = and_swap (state_sound (view f)) (layouts_sound f.settings (used_layouts f.layouts)) (state_fits f) (layouts_fit f.layouts)

-- ---- a tile of a well-formed floor, as it stands in memory
module _ (f : Floor) (t : ℕ) (w : well_formed f ≡ true) (on : t < total f.settings) where
  pub below_64 : t < 64
  below_64 = omega (arith, well_few f w)

  pub head_view : head_of f t ≡ head (tile_of (view f) t)
  head_view = head_read f (well_few f w) (well_fits f w) t on

  pub place_view : (k : ℕ) → k < 16 → get_or f.canisters (16 * t + k) zero_canister ≡ get_or (members_of (view f) t) k zero_canister
  place_view k h =
      let q : (16 * t + k) / 16 ≡ t = omega arith in
      let r : (16 * t + k) % 16 ≡ k = omega arith in
      let e : shown f t ≡ tile_of (view f) t = tab_at (total f.settings) (state_of f) t unused on ∙ sym (view_at f t no_tile_of on) in
      place_shown f (well_few f w) (well_fits f w) (16 * t + k) (omega (arith, below_64)) ∙ ap (λ (j : ℕ). get_or (shown f j).members ((16 * t + k) % 16) zero_canister) q
      ∙ ap (λ (j : ℕ). get_or (shown f t).members j zero_canister) r ∙ ap (λ (x : TileState). get_or x.members k zero_canister) e
