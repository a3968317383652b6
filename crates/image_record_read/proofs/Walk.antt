-- The walks over the layouts' and the tiles' records: the refusal that is left to find, what was read so far, and where the bodies start.
use mathlib.Core.Path.{◌≡◌, refl, sym, ap, ◌∙◌}
use mathlib.Core.Logic.{◌≢◌}
use mathlib.Core.Bool.{true, false}
use mathlib.Core.List.{List, [], ◌∷◌, ◌++◌, append_assoc, append-nil}
use Prim.Native.Nat.{ℕ, zero, suc, ◌+◌, ◌-◌, ◌*◌, ◌≤◌, ◌<◌}
use native.Mathlib.Omega.{arith}
use native.Mathlib.Numerals.{add-one}
use native.Mathlib.Decide.{dec_le, ℕ_discrete}
use lib.Dec.{eqb}
use borrow.Author.Tests.{lt-ltb, le-ltb, lt-leb, le-leb, ne_eqb}
use lib.ListN.{length, drop, get_or, set, length-drop, get_or-eq_default}
use lib.Seq.{drop-drop, get_or-set_same, get_or-set_other}
use Rattle.laws.specs.InternalFilled.{Filled}
use Rattle.laws.specs.Define.{tab, refusal}
use Rattle.laws.proofs.Tables.{filled, filled_turn, filled_end}
use Rattle.image_bytes.specs.Bytes.{le, field}
use Rattle.floor.specs.declared.Layout.{Layout}
use Rattle.floor.specs.declared.Tile.{Tile}
use Rattle.floor.specs.Memory.{zero_tile, zero_layout, unused, head}
use Rattle.image.specs.Image.{tile_widths, length_in, body_in, rest_in_of, tile_in, tiles_in, layout_in, is_layout, layouts_in, after_layouts, record_fault, end_fault, tiles_fault, layouts_fault}
use Rattle.image.proofs.Records.{whole}
use Rattle.image.proofs.Sizes.{header_length, layout_length}
use Rattle.image.proofs.LoadedWrites.{tile_good}
use Rattle.image.proofs.Layouts.{layout_good}
use Rattle.image.proofs.Read.{tiles_length}
use Rattle.image_record_read.specs.InternalScan.{layout_from, LayoutsAt, after, Start, Starts}
use Rattle.image_record_read.proofs.Values.{layout_some, layout_none}

-- ---- the refusal that is left to find
less : (c t : ℕ) → t < c → c - t ≡ suc (c - (t + 1))
less c t h = omega arith

module _ (c t : ℕ) (xs : List ℕ) where
  pub tiles_stop : t < c → record_fault 3 t xs ≢ 0 → tiles_fault (c - t) t xs ≡ record_fault 3 t xs
  unfolding tiles_fault
  tiles_stop h e = rw (less c t h, ne_eqb (record_fault 3 t xs) 0 e)

  pub tiles_on : t < c → record_fault 3 t xs ≡ 0 → tiles_fault (c - t) t xs ≡ tiles_fault (c - (t + 1)) (t + 1) (rest_in_of xs)
  unfolding tiles_fault
  tiles_on h e = rw (less c t h, e, add-one t)

  pub tiles_end : c ≤ t → tiles_fault (c - t) t xs ≡ end_fault xs
  unfolding tiles_fault
  tiles_end h = let e : c - t ≡ 0 = omega arith in rw e

pub tiles_zero : (c : ℕ) (xs : List ℕ) → tiles_fault (c - 0) 0 xs ≡ tiles_fault c 0 xs
tiles_zero c xs = let e : c - 0 ≡ c = omega arith in rw e

pub end_stop : (xs : List ℕ) → record_fault 4 0 xs ≢ 0 → end_fault xs ≡ record_fault 4 0 xs
unfolding end_fault
end_stop xs h = rw (ne_eqb (record_fault 4 0 xs) 0 h)

pub end_more : (xs : List ℕ) → record_fault 4 0 xs ≡ 0 → 4 + length_in xs < length xs → end_fault xs ≡ 9
unfolding end_fault refusal
end_more xs h k = rw (h, lt-ltb (4 + length_in xs) (length xs) k)

pub end_done : (xs : List ℕ) → record_fault 4 0 xs ≡ 0 → length xs ≤ 4 + length_in xs → end_fault xs ≡ 0
unfolding end_fault refusal
end_done xs h k = rw (h, le-ltb (4 + length_in xs) (length xs) k)

-- ---- places
-- a record without a fault stands in s from `at` on
pub record_room : (s : List ℕ) (at due t : ℕ) → at ≤ length s → record_fault due t (drop at s) ≡ 0 → at + 4 + le 2 (drop at s) ≤ length s
record_room s at due t r h =
    let m : 4 + le 2 (drop at s) ≤ length s - at = rw length-drop at (whole due t (drop at s) h).enough in
    omega arith

-- the next record
pub rest_at : (s : List ℕ) (at n : ℕ) → n ≡ le 2 (drop at s) → rest_in_of (drop at s) ≡ drop (at + 4 + n) s
rest_at s at n e = let k : at + (4 + n) ≡ at + 4 + n = omega arith in rw (← e, drop-drop (4 + n) at s, k)

pub start_at : (s xs : List ℕ) (at t : ℕ) → at ≤ length s → drop at s ≡ after t xs → record_fault 3 t (drop at s) ≡ 0 → Start s xs t (at + 4)
start_at s xs at t r e h =
    let k = tile_good t (drop at s) (whole 3 t (drop at s) h) in
    let d : drop 4 (drop at s) ≡ drop (at + 4) s = drop-drop 4 at s in
    let n : length_in (drop at s) ≡ 6 + 8 * field tile_widths 5 (drop (at + 4) s) = rw d at k.long in
    let m = record_room s at 3 t r h in
    record { spot = rw (← e) (sym d); room = omega arith; few = rw d at k.few }

pub starts_more : (s xs starts : List ℕ) (t p : ℕ) → t < length starts → Starts s xs starts t → Start s xs t p → Starts s xs (set starts t p) (t + 1)
starts_more s xs starts t p h f g u k = go (ℕ_discrete u t)
  where
    go : Dec (u ≡ t) → Start s xs u (get_or (set starts t p) u 0)
    go (yes e) = rw (e, get_or-set_same starts t p 0 h) g
    go (no n) = rw (get_or-set_other starts t u p 0 n) (f u (omega arith))

pub after_none : (xs : List ℕ) → xs ≡ after 0 xs
unfolding after
after_none xs = refl

pub after_more : (t : ℕ) (ys xs zs : List ℕ) → ys ≡ after t xs → rest_in_of ys ≡ zs → zs ≡ after (t + 1) xs
unfolding after
after_more t ys xs zs e r = rw (add-one t, ← e) (sym r)

-- ---- the tiles that were read
after_rest : (t : ℕ) (xs : List ℕ) → after t (rest_in_of xs) ≡ rest_in_of (after t xs)
unfolding after
after_rest zero xs = refl
after_rest (suc t) xs = ap (λ (l : List ℕ). rest_in_of l) (after_rest t xs)

pub tiles_at : (n t : ℕ) (xs : List ℕ) → t < n → get_or (tiles_in n xs) t unused ≡ tile_in (body_in (after t xs))
unfolding tiles_in after
tiles_at zero t xs h = absurd (omega arith)
tiles_at (suc n) zero xs h = refl
tiles_at (suc n) (suc t) xs h = tiles_at n t (rest_in_of xs) (omega arith) ∙ ap (λ (l : List ℕ). tile_in (body_in l)) (after_rest t xs)

pub tiles_off : (n t : ℕ) (xs : List ℕ) → n ≤ t → get_or (tiles_in n xs) t unused ≡ unused
tiles_off n t xs h = get_or-eq_default (tiles_in n xs) unused (omega (arith, tiles_length n xs))

head_unused : zero_tile ≡ head unused
unfolding head
head_unused = refl

module _ (c : ℕ) (xs : List ℕ) where
  abbrev pub head_of : ℕ → Tile
  head_of t = head (get_or (tiles_in c xs) t unused)

  abbrev pub Tiled : ℕ → List Tile → Type 0
  Tiled t out = Filled 64 head_of zero_tile t out

  pub tiled_turn : (t : ℕ) (out : List Tile) (v : Tile) (ys : List ℕ) → t < c → c ≤ 64 → ys ≡ after t xs → v ≡ head (tile_in (body_in ys)) → Tiled t out → Tiled (t + 1) (set out t v)
  tiled_turn t out v ys h few e q p = filled_turn 64 head_of zero_tile t out v (omega arith) (q ∙ ap (λ (l : List ℕ). head (tile_in (body_in l))) e ∙ ap head (sym (tiles_at c t xs h))) p

  pub tiled_all : (t : ℕ) (out : List Tile) → c ≤ t → t ≤ 64 → Tiled t out → out ≡ tab 64 head_of
  tiled_all t out lo few p = filled_end 64 head_of zero_tile t out few (λ i h. head_unused ∙ ap head (sym (tiles_off c i xs (omega arith)))) p

-- ---- the layouts that were read
module _ (s : List ℕ) (from : ℕ) where
  abbrev pub layout_at : ℕ → Layout
  layout_at k = layout_in (drop (from + header_length + layout_length * k) s)

  abbrev pub LayoutsFilled : ℕ → List Layout → Type 0
  LayoutsFilled n out = Filled 8 layout_at zero_layout n out

  layouts_all : (n : ℕ) (out : List Layout) → LayoutsFilled n out → out ≡ tab 8 (layout_from s from n)
  layouts_all n out p = filled 8 (layout_from s from n) zero_layout out p.0 (λ i h. go i (dec_le (suc i) n))
    where
      go : (i : ℕ) → Dec (i < n) → get_or out i zero_layout ≡ layout_from s from n i
      go i (yes a) = p.1 i a ∙ layout_some s from n i a
      go i (no a) = p.2 i (omega arith) ∙ layout_none s from n i (omega arith)

  pub layouts_turn : (n at : ℕ) (out : List Layout) (v : Layout) → n < 8 → at ≡ from + layout_length * n → v ≡ layout_in (body_in (drop at s)) → LayoutsFilled n out → LayoutsFilled (n + 1) (set out n v)
  layouts_turn n at out v h e q p =
      let k : at + header_length ≡ from + header_length + layout_length * n = omega arith in
      filled_turn 8 layout_at zero_layout n out v h (q ∙ ap (λ (l : List ℕ). layout_in l) (drop-drop 4 at s ∙ ap (λ (j : ℕ). drop j s) k)) p

-- ---- the layouts: n were passed, and the next one would stand after them
pub record Passed (s : List ℕ) (from n : ℕ) : Type 0 where
  pub room : from + layout_length * n ≤ length s
  pub faults : layouts_fault (8 - n) (drop (from + layout_length * n) s) ≡ layouts_fault 8 (drop from s)
  pub values : layouts_in 8 (drop from s) ≡ tab n (λ k. layout_in (drop (from + header_length + layout_length * k) s)) ++ layouts_in (8 - n) (drop (from + layout_length * n) s)
  pub rest : after_layouts (8 - n) (drop (from + layout_length * n) s) ≡ after_layouts 8 (drop from s)

pub passed_none : (s : List ℕ) (from : ℕ) → from ≤ length s → Passed s from 0
unfolding tab
passed_none s from h = let e : from + layout_length * 0 ≡ from = omega arith in record { room = omega arith; faults = rw e; values = rw e; rest = rw e }

tab_last : {A : Type 0} (n : ℕ) (g : ℕ → A) → tab (suc n) g ≡ tab n g ++ (g n ∷ [])
unfolding tab
tab_last zero g = refl
tab_last (suc n) g = ap (λ l. g 0 ∷ l) (tab_last n (λ k. g (suc k)))

-- one more record, or the end of them
module _ (n : ℕ) (xs : List ℕ) where
  faults_on : is_layout xs ≡ true → record_fault 5 0 xs ≡ 0 → layouts_fault (suc n) xs ≡ layouts_fault n (rest_in_of xs)
  unfolding layouts_fault
  faults_on e z = rw (e, z)

  faults_stop : is_layout xs ≡ true → record_fault 5 0 xs ≢ 0 → layouts_fault (suc n) xs ≡ record_fault 5 0 xs
  unfolding layouts_fault
  faults_stop e z = rw (e, ne_eqb (record_fault 5 0 xs) 0 z)

  values_on : is_layout xs ≡ true → layouts_in (suc n) xs ≡ layout_in (body_in xs) ∷ layouts_in n (rest_in_of xs)
  unfolding layouts_in
  values_on e = rw e

  rest_on : is_layout xs ≡ true → after_layouts (suc n) xs ≡ after_layouts n (rest_in_of xs)
  unfolding after_layouts
  rest_on e = rw e

record Ends (n : ℕ) (xs : List ℕ) : Type 0 where
  faults : layouts_fault n xs ≡ 0
  values : layouts_in n xs ≡ []
  rest : after_layouts n xs ≡ xs

ends_off : (n : ℕ) (xs : List ℕ) → is_layout xs ≡ false → Ends n xs
unfolding layouts_fault layouts_in after_layouts
ends_off zero xs e = record { faults = refl; values = refl; rest = refl }
ends_off (suc n) xs e = record { faults = rw e; values = rw e; rest = rw e }

ends_zero : (xs : List ℕ) → Ends 0 xs
unfolding layouts_fault layouts_in after_layouts
ends_zero xs = record { faults = refl; values = refl; rest = refl }

module _ (s : List ℕ) (from n : ℕ) (P : Passed s from n) where
  abbrev here : List ℕ
  here = drop (from + layout_length * n) s

  pub passed_stop : n < 8 → is_layout here ≡ true → record_fault 5 0 here ≢ 0 → record_fault 5 0 here ≡ layouts_fault 8 (drop from s)
  passed_stop h e z = sym (faults_stop (8 - (n + 1)) here e z) ∙ ap (λ (k : ℕ). layouts_fault k here) (sym (less 8 n h)) ∙ P.faults

  passed_end : (out : List Layout) → LayoutsFilled s from n out → n ≤ 8 → Ends (8 - n) here → (layouts_fault 8 (drop from s) ≡ 0) × LayoutsAt s from n out
  passed_end out p h E = (
    sym P.faults ∙ E.faults,
    record { few = h; room = P.room; values = P.values ∙ rw E.values (append-nil (tab n (λ k. layout_in (drop (from + header_length + layout_length * k) s)))); rest = sym P.rest ∙ E.rest; places = layouts_all s from n out p },
  )

  pub passed_off : (out : List Layout) → LayoutsFilled s from n out → n ≤ 8 → is_layout here ≡ false → (layouts_fault 8 (drop from s) ≡ 0) × LayoutsAt s from n out
  passed_off out p h e = passed_end out p h (ends_off (8 - n) here e)

  pub passed_all : (out : List Layout) → LayoutsFilled s from n out → n ≡ 8 → (layouts_fault 8 (drop from s) ≡ 0) × LayoutsAt s from n out
  passed_all out p h = let z : 8 - n ≡ 0 = omega arith in passed_end out p (omega arith) (rw z (ends_zero here))

  pub passed_room : record_fault 5 0 here ≡ 0 → from + layout_length * n + layout_length ≤ length s
  passed_room z =
      let w = whole 5 0 here z in
      let m = record_room s (from + layout_length * n) 5 0 P.room z in
      omega (arith, layout_good here w, m)

  pub passed_on : n < 8 → is_layout here ≡ true → record_fault 5 0 here ≡ 0 → Passed s from (n + 1)
  passed_on h e z =
      let next : from + layout_length * (n + 1) ≡ from + layout_length * n + header_length + 16 = omega arith in
      let r : rest_in_of here ≡ drop (from + layout_length * (n + 1)) s = rest_at s (from + layout_length * n) 16 (sym (layout_good here (whole 5 0 here z))) ∙ ap (λ (k : ℕ). drop k s) (sym next) in
      let k : from + layout_length * n + header_length ≡ from + header_length + layout_length * n = omega arith in
      let b : body_in here ≡ drop (from + header_length + layout_length * n) s = drop-drop 4 (from + layout_length * n) s ∙ ap (λ (j : ℕ). drop j s) k in
      let l = less 8 n h in
      let g : ℕ → Layout = λ k. layout_in (drop (from + header_length + layout_length * k) s) in
      let v : layouts_in (8 - n) here ≡ g n ∷ layouts_in (8 - (n + 1)) (drop (from + layout_length * (n + 1)) s) = rw (l, values_on (8 - (n + 1)) here e, b, r) in
      record {
        room = omega (arith, passed_room z);
        faults = rw (← r) (sym (faults_on (8 - (n + 1)) here e z) ∙ ap (λ (k : ℕ). layouts_fault k here) (sym l) ∙ P.faults);
        values = P.values ∙ rw (v, add-one n, tab_last n g) (sym (append_assoc (tab n g) (g n ∷ []) (layouts_in (8 - suc n) (drop (from + layout_length * suc n) s))));
        rest = rw (← r) (sym (rest_on (8 - (n + 1)) here e) ∙ ap (λ (k : ℕ). after_layouts k here) (sym l) ∙ P.rest);
      }

-- ---- the first four bytes of a record
module _ (s : List ℕ) (at : ℕ) where
  pub layout_few : length s - at < 4 → false ≡ is_layout (drop at s)
  unfolding is_layout
  layout_few h = let n : length (drop at s) < 4 = rw length-drop h in rw (lt-leb 4 (length (drop at s)) n)

  pub layout_kind : (k : ℕ) → 4 ≤ length s - at → k ≡ le 2 (drop (at + 2) s) → eqb k 5 ≡ is_layout (drop at s)
  unfolding is_layout
  layout_kind k h e =
      let n : 4 ≤ length (drop at s) = rw length-drop h in
      rw (le-leb 4 (length (drop at s)) n, drop-drop 2 at s, ← e)
