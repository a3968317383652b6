-- A floor in memory, place by place: its rows, its zeros, and `fits`.
use mathlib.Core.Path.{◌≡◌, refl, sym, ap, ◌∙◌}
use mathlib.Core.Logic.{◌≢◌}
use mathlib.Core.Bool.{Bool, true, false, cond, ◌&&◌}
use mathlib.Core.List.{List, [], ◌∷◌, ◌++◌}
use Prim.Native.Nat.{ℕ, zero, suc, ◌+◌, ◌-◌, ◌*◌, ◌/◌, ◌%◌, ◌≤◌, ◌<◌}
use native.Mathlib.Omega.{arith}
use native.Mathlib.Decide.{dec_le}
use lib.Dec.{leb, eqb}
use lib.ListN.{length, get_or, take, drop, length-append, length-drop, get_or-append}
use lib.Seq.{ext_get_or, get_or-drop, get_or-append-add, drop-drop}
use borrow.Author.Tests.{eqb-true, eqb-false, eq-eqb, ne_eqb, leb-true, ltb-true}
use Rattle.laws.specs.Define.{all_of}
use Rattle.laws.specs.Every.{All}
use Rattle.laws.proofs.Lists.{all_imp, all_true}
use Rattle.laws.proofs.Tests.{and_left, and_right, and_true}
use Rattle.laws.proofs.Tables.{tab_length, tab_at, all_at, all_from_each}
use Rattle.floor.specs.declared.Canister.{Canister}
use Rattle.floor.specs.declared.Settings.{Settings}
use Rattle.floor.specs.declared.Tile.{Tile}
use Rattle.floor.specs.declared.Layout.{Layout}
use Rattle.floor.specs.declared.Floor.{Floor}
use Rattle.floor.specs.Settings.{total}
use Rattle.floor.specs.Model.{TileState}
use Rattle.floor.specs.Memory.{zero_tile, zero_canister, head_of, state_of, view, places, rows, is_zero_canister, is_zero_tile, block, tile_fits, tiles_fit, state_fits, fits, zero_layout, used_layouts, layout_places, is_zero_layout, layouts_fit}
use Rattle.floor.specs.Layouts.{name_ok, layout_ok, layouts_sound}

-- ---- sixteen places for each tile
pub places_length : (n : ℕ) (l : List Canister) → length (places n l) ≡ n
unfolding places
places_length zero l = refl
places_length (suc n) [] = ap suc (places_length n [])
places_length (suc n) (c ∷ l) = ap suc (places_length n l)

pub places_at : (n : ℕ) (l : List Canister) (i : ℕ) → i < n → get_or (places n l) i zero_canister ≡ get_or l i zero_canister
unfolding places
places_at zero l i h = absurd (omega arith)
places_at (suc n) [] zero h = refl
places_at (suc n) [] (suc i) h = places_at n [] i (omega arith)
places_at (suc n) (c ∷ l) zero h = refl
places_at (suc n) (c ∷ l) (suc i) h = places_at n l i (omega arith)

pub rows_length : (n k : ℕ) (g : ℕ → TileState) → length (rows n k g) ≡ 16 * n
unfolding rows
rows_length zero k g = omega arith
rows_length (suc n) k g = omega (arith, length-append (places 16 (g k).members) (rows n (suc k) g), places_length 16 (g k).members, rows_length n (suc k) g)

pub rows_at : (n k : ℕ) (g : ℕ → TileState) (i : ℕ) → i < 16 * n → get_or (rows n k g) i zero_canister ≡ get_or (g (k + i / 16)).members (i % 16) zero_canister
unfolding rows
rows_at zero k g i h = absurd (omega arith)
rows_at (suc n) k g i h = go (dec_le (suc i) 16) (rows_at n (suc k) g (i - 16))
  where
    at : (t j : ℕ) → t ≡ k + i / 16 → j ≡ i % 16 → get_or (g t).members j zero_canister ≡ get_or (g (k + i / 16)).members (i % 16) zero_canister
    at t j e q = rw (e, q)

    go : Dec (i < 16) → (i - 16 < 16 * n → get_or (rows n (suc k) g) (i - 16) zero_canister ≡ get_or (g (suc k + (i - 16) / 16)).members ((i - 16) % 16) zero_canister)
        → get_or (places 16 (g k).members ++ rows n (suc k) g) i zero_canister ≡ get_or (g (k + i / 16)).members (i % 16) zero_canister
    go (yes p) ih =
        let q : i < length (places 16 (g k).members) = omega (arith, places_length 16 (g k).members) in
        get_or-append (places 16 (g k).members) (rows n (suc k) g) zero_canister i q ∙ places_at 16 (g k).members i p ∙ at k i (omega arith) (omega arith)
    go (no p) ih =
        let q : i ≡ length (places 16 (g k).members) + (i - 16) = omega (arith, places_length 16 (g k).members) in
        ap (λ (j : ℕ). get_or (places 16 (g k).members ++ rows n (suc k) g) j zero_canister) q ∙ get_or-append-add (places 16 (g k).members) (rows n (suc k) g) (i - 16) zero_canister
        ∙ ih (omega arith) ∙ at (suc k + (i - 16) / 16) ((i - 16) % 16) (omega arith) (omega arith)

-- the canister at place i of a floor, g t being tile t
abbrev pub place_at : (ℕ → TileState) → ℕ → Canister
place_at g i = get_or (g (i / 16)).members (i % 16) zero_canister

pub rows_place : (g : ℕ → TileState) (i : ℕ) → i < 1024 → get_or (rows 64 0 g) i zero_canister ≡ place_at g i
rows_place g i h = rows_at 64 0 g i (omega arith) ∙ ap (λ (t : ℕ). get_or (g t).members (i % 16) zero_canister) (omega arith)

pub rows_filled : (g : ℕ → TileState) (l : List Canister) → length l ≡ 1024 → ((i : ℕ) → i < 1024 → get_or l i zero_canister ≡ place_at g i) → l ≡ rows 64 0 g
rows_filled g l e h = ext_get_or zero_canister l (rows 64 0 g) (omega (arith, e, rows_length 64 0 g)) (λ i k. let j : i < 1024 = omega arith in h i j ∙ sym (rows_place g i j))

-- ---- zeros
can_eq : {n a b : ℕ} → n ≡ 0 → a ≡ 0 → b ≡ 0 → ◌≡◌ {A = Canister} (record { number = n; a = a; b = b }) zero_canister
can_eq p q r = rw (p, q, r)

tile_eq : {r d a t n : ℕ} → r ≡ 0 → d ≡ 0 → a ≡ 0 → t ≡ 0 → n ≡ 0
    → ◌≡◌ {A = Tile} (record { running = r; distance = d; next = record { code = a }; token = record { code = t }; count = n }) zero_tile
tile_eq p q r s u = rw (p, q, r, s, u)

pub zero_tile_lem : (h : Tile) → is_zero_tile h ≡ true → h ≡ zero_tile
unfolding is_zero_tile
zero_tile_lem h p =
    let p1 = and_right (eqb h.running 0) _ p in
    let p2 = and_right (eqb h.distance 0) _ p1 in
    let p3 = and_right (eqb h.next.code 0) _ p2 in
    tile_eq (eqb-true _ 0 (and_left _ _ p)) (eqb-true _ 0 (and_left _ _ p1)) (eqb-true _ 0 (and_left _ _ p2)) (eqb-true _ 0 (and_left _ _ p3)) (eqb-true _ 0 (and_right (eqb h.token.code 0) _ p3))

pub zero_canister_lem : (c : Canister) → is_zero_canister c ≡ true → c ≡ zero_canister
unfolding is_zero_canister
zero_canister_lem c p =
    let q = and_right (eqb c.number 0) (eqb c.a 0 && eqb c.b 0) p in
    can_eq (eqb-true _ 0 (and_left _ _ p)) (eqb-true _ 0 (and_left _ _ q)) (eqb-true _ 0 (and_right (eqb c.a 0) _ q))

-- the places from n on are zero
pub rest_zero : (n k : ℕ) (l : List Canister) → all_of is_zero_canister (drop n l) ≡ true → n ≤ k → k < length l → get_or l k zero_canister ≡ zero_canister
rest_zero n k l h p q =
    let j : k - n < length (drop n l) = rw length-drop (omega arith) in
    let e : n + (k - n) ≡ k = omega arith in
    let same : get_or (drop n l) (k - n) zero_canister ≡ get_or l k zero_canister = rw e at (get_or-drop n l (k - n) zero_canister) in
    sym same ∙ zero_canister_lem _ (all_at is_zero_canister (drop n l) zero_canister h (k - n) j)

pub rest_of : (n : ℕ) (l : List Canister) → ((k : ℕ) → n ≤ k → k < length l → get_or l k zero_canister ≡ zero_canister) → all_of is_zero_canister (drop n l) ≡ true
unfolding is_zero_canister
rest_of n l f = all_from_each is_zero_canister (drop n l) zero_canister one
  where
    one : (k : ℕ) → k < length (drop n l) → is_zero_canister (get_or (drop n l) k zero_canister) ≡ true
    one k h =
        let q : n + k < length l = omega (arith, length-drop n l) in
        ap is_zero_canister (get_or-drop n l k zero_canister ∙ f (n + k) (omega arith) q)

-- ---- fits, tile by tile
drop_more : (i : ℕ) (cs : List Canister) → drop (16 * i) (drop 16 cs) ≡ drop (16 * suc i) cs
drop_more i cs = let e : 16 + 16 * i ≡ 16 * suc i = omega arith in drop-drop (16 * i) 16 cs ∙ ap (λ (u : ℕ). drop u cs) e

fit_at : (s : Settings) (t : ℕ) (hs : List Tile) (cs : List Canister) → tiles_fit s t hs cs ≡ true
    → (i : ℕ) → i < length hs → tile_fits s (t + i) (get_or hs i zero_tile) (block cs i) ≡ true
unfolding tiles_fit
fit_at s t [] cs h i l = absurd (omega arith)
fit_at s t (x ∷ hs) cs h zero l =
    let e : t + 0 ≡ t = omega arith in
    ap (λ (u : ℕ). tile_fits s u x (take 16 cs)) e ∙ and_left (tile_fits s t x (take 16 cs)) _ h
fit_at s t (x ∷ hs) cs h (suc i) l =
    let e : t + suc i ≡ suc t + i = omega arith in
    rw (e, sym (drop_more i cs)) (fit_at s (suc t) hs (drop 16 cs) (and_right (tile_fits s t x (take 16 cs)) _ h) i (omega arith))

fit_of : (s : Settings) (t : ℕ) (hs : List Tile) (cs : List Canister)
    → ((i : ℕ) → i < length hs → tile_fits s (t + i) (get_or hs i zero_tile) (block cs i) ≡ true) → tiles_fit s t hs cs ≡ true
unfolding tiles_fit
fit_of s t [] cs f = refl
fit_of s t (x ∷ hs) cs f = and_true first (fit_of s (suc t) hs (drop 16 cs) rest)
  where
    first : tile_fits s t x (take 16 cs) ≡ true
    first = let e : t ≡ t + 0 = omega arith in ap (λ (u : ℕ). tile_fits s u x (take 16 cs)) e ∙ f 0 (omega arith)

    rest : (i : ℕ) → i < length hs → tile_fits s (suc t + i) (get_or hs i zero_tile) (block (drop 16 cs) i) ≡ true
    rest i l =
        let e : suc t + i ≡ t + suc i = omega arith in
        rw (e, drop_more i cs) (f (suc i) (omega arith))

pub fits_state : (f : Floor) → fits f ≡ true → state_fits f ≡ true
unfolding fits
fits_state f h = and_left (state_fits f) (layouts_fit f.layouts) h

pub fits_tiles : (f : Floor) → fits f ≡ true → length f.tiles ≡ 64
unfolding state_fits
fits_tiles f h = eqb-true _ 64 (and_left _ _ (fits_state f h))

pub fits_canisters : (f : Floor) → fits f ≡ true → length f.canisters ≡ 1024
unfolding state_fits
fits_canisters f h = eqb-true _ 1024 (and_left _ _ (and_right (eqb (length f.tiles) 64) _ (fits_state f h)))

pub state_fit_at : (f : Floor) → state_fits f ≡ true → (t : ℕ) → t < 64 → tile_fits f.settings t (head_of f t) (block f.canisters t) ≡ true
unfolding state_fits
state_fit_at f h t l =
    let e : 0 + t ≡ t = omega arith in
    let n = eqb-true (length f.tiles) 64 (and_left _ _ h) in
    let q = and_right (eqb (length f.canisters) 1024) _ (and_right (eqb (length f.tiles) 64) _ h) in
    rw e at (fit_at f.settings 0 f.tiles f.canisters q t (omega arith))

pub tiles_fit_at : (f : Floor) → fits f ≡ true → (t : ℕ) → t < 64 → tile_fits f.settings t (head_of f t) (block f.canisters t) ≡ true
tiles_fit_at f h = state_fit_at f (fits_state f h)

pub state_fits_of : (f : Floor) → length f.tiles ≡ 64 → length f.canisters ≡ 1024
    → ((t : ℕ) → t < 64 → tile_fits f.settings t (head_of f t) (block f.canisters t) ≡ true) → state_fits f ≡ true
unfolding state_fits
state_fits_of f lt lc g = and_true (eq-eqb _ 64 lt) (and_true (eq-eqb _ 1024 lc) (fit_of f.settings 0 f.tiles f.canisters one))
  where
    one : (t : ℕ) → t < length f.tiles → tile_fits f.settings (0 + t) (head_of f t) (block f.canisters t) ≡ true
    one t l = let e : 0 + t ≡ t = omega arith in rw e (g t (omega arith))

pub fits_of : (f : Floor) → length f.tiles ≡ 64 → length f.canisters ≡ 1024
    → ((t : ℕ) → t < 64 → tile_fits f.settings t (head_of f t) (block f.canisters t) ≡ true) → layouts_fit f.layouts ≡ true → fits f ≡ true
unfolding fits
fits_of f lt lc g ly = and_true (state_fits_of f lt lc g) ly

pub fits_layouts : (f : Floor) → fits f ≡ true → layouts_fit f.layouts ≡ true
unfolding fits
fits_layouts f h = and_right (state_fits f) (layouts_fit f.layouts) h

-- ---- layouts in their places
zero_layout_lem : (x : Layout) → is_zero_layout x ≡ true → x ≡ zero_layout
unfolding is_zero_layout
zero_layout_lem x p = layout_eq (eqb-true x.name 0 (and_left _ _ p)) (eqb-true x.set 0 (and_right (eqb x.name 0) _ p))
  where
    layout_eq : {n k : ℕ} → n ≡ 0 → k ≡ 0 → ◌≡◌ {A = Layout} (record { name = n; set = k }) zero_layout
    layout_eq p q = rw (p, q)

zero_places : (n : ℕ) (l : List Layout) → length l ≡ n → all_of is_zero_layout l ≡ true → layout_places n [] ≡ l
unfolding layout_places all_of
zero_places zero [] e h = refl
zero_places zero (x ∷ l) e h = absurd (omega arith)
zero_places (suc n) [] e h = absurd (omega arith)
zero_places (suc n) (x ∷ l) e h = rw (zero_places n l (omega arith) (and_right (is_zero_layout x) (all_of is_zero_layout l) h), zero_layout_lem x (and_left (is_zero_layout x) (all_of is_zero_layout l) h))

places_used : (n : ℕ) (l : List Layout) → length l ≡ n → all_of is_zero_layout (drop (length (used_layouts l)) l) ≡ true → layout_places n (used_layouts l) ≡ l
unfolding layout_places used_layouts
places_used zero [] e h = refl
places_used zero (x ∷ l) e h = absurd (omega arith)
places_used (suc n) [] e h = absurd (omega arith)
places_used (suc n) (x ∷ l) e h = go (eqb x.name 0) refl (places_used n l)
  where
    go : (b : Bool) → eqb x.name 0 ≡ b → (length l ≡ n → all_of is_zero_layout (drop (length (used_layouts l)) l) ≡ true → layout_places n (used_layouts l) ≡ l) → layout_places (suc n) (cond (eqb x.name 0) [] (x ∷ used_layouts l)) ≡ x ∷ l
    go true q ih = rw q (zero_places (suc n) (x ∷ l) e (rw q at h))
    go false q ih = rw q (ap (λ (k : List Layout). x ∷ k) (ih (omega arith) (rw q at h)))

pub layouts_back : (l : List Layout) → layouts_fit l ≡ true → layout_places 8 (used_layouts l) ≡ l
unfolding layouts_fit
layouts_back l h = places_used 8 l (eqb-true (length l) 8 (and_left _ _ h)) (and_right (eqb (length l) 8) _ h)

-- layouts that eight places hold: each has a name
abbrev pub Placed : List Layout → Type 0
Placed l = All (λ x. x.name ≢ 0) l × (length l ≤ 8)

-- those in use
pub used_named : (l : List Layout) → All (λ x. x.name ≢ 0) (used_layouts l) × (length (used_layouts l) ≤ length l)
unfolding used_layouts
used_named [] = (tt, omega arith)
used_named (x ∷ l) = go (eqb x.name 0) refl (used_named l)
  where
    go : (b : Bool) → eqb x.name 0 ≡ b → All (λ y. y.name ≢ 0) (used_layouts l) × (length (used_layouts l) ≤ length l)
        → All (λ y. y.name ≢ 0) (cond b [] (x ∷ used_layouts l)) × (length (cond b [] (x ∷ used_layouts l)) ≤ suc (length l))
    go true e h = (tt, omega arith)
    go false e h = ((eqb-false x.name 0 e, h.0), omega (arith, h.1))

pub used_placed : (l : List Layout) → layouts_fit l ≡ true → Placed (used_layouts l)
unfolding layouts_fit
used_placed l h = let u = used_named l in (u.0, omega (arith, u.1, eqb-true (length l) 8 (and_left _ _ h)))

-- layouts with names, at most n of them
pub used_places : (n : ℕ) (l : List Layout) → All (λ x. x.name ≢ 0) l → length l ≤ n → used_layouts (layout_places n l) ≡ l
unfolding layout_places used_layouts
used_places zero [] h k = refl
used_places zero (x ∷ l) h k = absurd (omega arith)
used_places (suc n) [] h k = refl
used_places (suc n) (x ∷ l) h k = rw (ne_eqb x.name 0 h.0) (ap (λ (k : List Layout). x ∷ k) (used_places n l h.1 (omega arith)))

pub layout_places_length : (n : ℕ) (l : List Layout) → length (layout_places n l) ≡ n
unfolding layout_places
layout_places_length zero l = refl
layout_places_length (suc n) [] = ap suc (layout_places_length n [])
layout_places_length (suc n) (x ∷ l) = ap suc (layout_places_length n l)

rest_places : (n : ℕ) (l : List Layout) → all_of is_zero_layout (drop (length l) (layout_places n l)) ≡ true
unfolding layout_places all_of is_zero_layout
rest_places zero [] = refl
rest_places zero (x ∷ l) = refl
rest_places (suc n) [] = rest_places n []
rest_places (suc n) (x ∷ l) = rest_places n l

pub layouts_fit_lem : (l : List Layout) → All (λ x. x.name ≢ 0) l → length l ≤ 8 → layouts_fit (layout_places 8 l) ≡ true
unfolding layouts_fit
layouts_fit_lem l h k = and_true (eq-eqb (length (layout_places 8 l)) 8 (layout_places_length 8 l)) (rw (used_places 8 l h k) (rest_places 8 l))

-- sound layouts have names, and are at most eight
pub sound_named : (s : Settings) (l : List Layout) → layouts_sound s l ≡ true → Placed l
unfolding layouts_sound layout_ok name_ok
sound_named s l h =
    let k = and_right (leb (length l) 8) _ h in (
      all_imp (λ x. layout_ok s x ≡ true) (λ x. x.name ≢ 0) l (λ x p e. let q = ltb-true 0 x.name (and_left _ _ (and_left (name_ok x.name) _ p)) in omega arith) (all_true (layout_ok s) l (and_left (all_of (layout_ok s) l) _ k)),
      leb-true (length l) 8 (and_left (leb (length l) 8) _ h),
    )

-- ---- reading the view
pub view_at : (f : Floor) (t : ℕ) (z : TileState) → t < total f.settings → get_or (view f).tiles t z ≡ state_of f t
unfolding view
view_at f t z h = tab_at _ (state_of f) t z h

pub view_settings : (f : Floor) → (view f).settings ≡ f.settings
unfolding view
view_settings f = refl

pub view_length : (f : Floor) → length (view f).tiles ≡ total f.settings
unfolding view
view_length f = tab_length _ (state_of f)
